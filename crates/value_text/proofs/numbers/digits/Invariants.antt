use Rattle.std.proofs.Common.{◌≡◌, Some, length}
use Rattle.value_text.specs.Numbers.{digits_from}
use Rattle.value_text.proofs.numbers.digits.Given as goal

abbrev pub invariant-loop-first : goal.invariant-loop-first
invariant-loop-first l = digits_from l.number l.rest ≡ digits_from (Some 0) l.text

abbrev pub decreases-loop-first : goal.decreases-loop-first
decreases-loop-first l = length l.rest
