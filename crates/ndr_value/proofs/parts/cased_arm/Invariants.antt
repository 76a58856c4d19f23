use Rattle.std.proofs.Common.{◌≡◌, drop}
use Rattle.ndr_value.specs.Forms.{arms_of}
use Rattle.ndr_value.specs.Fits.{with_case}
use Rattle.ndr_value.proofs.parts.cased_arm.Given as goal

abbrev pub invariant-loop-arm : goal.invariant-loop-arm
invariant-loop-arm l = with_case (arms_of (drop l.arm-index l.arms)) l.tag ≡ with_case (arms_of l.arms) l.tag
