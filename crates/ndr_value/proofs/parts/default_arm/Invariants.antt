use Rattle.std.proofs.Common.{◌≡◌, drop}
use Rattle.ndr_value.specs.Forms.{arms_of}
use Rattle.ndr_value.specs.Fits.{with_default}
use Rattle.ndr_value.proofs.parts.default_arm.Given as goal

abbrev pub invariant-loop-arm : goal.invariant-loop-arm
invariant-loop-arm l = with_default (arms_of (drop l.arm-index l.arms)) ≡ with_default (arms_of l.arms)
