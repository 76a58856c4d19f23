use Rattle.std.proofs.Common.{◌≡◌, drop}
use Rattle.ndr_agree.specs.Same.{same_wires}
use Rattle.ndr_agree.proofs.message.wires_same.Given as goal

abbrev pub invariant-loop-wire : goal.invariant-loop-wire
invariant-loop-wire l = same_wires (drop l.wire-index l.wires) l.rest ≡ same_wires l.wires l.others
