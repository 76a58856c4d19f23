use Rattle.std.proofs.Common.{◌≡◌, drop}
use Rattle.ndr_value.specs.Values.{vals, bytes}
use Rattle.ndr_agree.specs.Same.{same_each}
use Rattle.ndr_agree.proofs.arrays.are_bytes.Given as goal

abbrev pub invariant-loop-octet : goal.invariant-loop-octet
invariant-loop-octet l = same_each (bytes (drop l.octet-index l.octets)) (vals l.rest) ≡ same_each (bytes l.octets) (vals l.values)
