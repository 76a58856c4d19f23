use Rattle.std.proofs.Common.{◌≡◌, drop}
use Rattle.ndr_value.specs.Values.{vals, bytes}
use Rattle.ndr_agree.specs.Same.{same_each}
use Rattle.ndr_agree.proofs.arrays.bytes_are.Given as goal

abbrev pub invariant-loop-value : goal.invariant-loop-value
invariant-loop-value l = same_each (vals (drop l.value-index l.values)) (bytes l.rest) ≡ same_each (vals l.values) (bytes l.octets)
