use Rattle.std.proofs.Common.{◌≡◌, drop}
use Rattle.ndr_value.specs.Values.{vals}
use Rattle.ndr_agree.specs.Same.{same_each}
use Rattle.ndr_agree.proofs.message.+same.Given as goal

abbrev pub invariant-each_same-loop-value : goal.invariant-each_same-loop-value
invariant-each_same-loop-value l = same_each (vals (drop l.value-index l.values)) (vals l.rest) ≡ same_each (vals l.values) (vals l.others)
