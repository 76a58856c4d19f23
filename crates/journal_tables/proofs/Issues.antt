-- No more handles are issued than there are results.
use Rattle.std.proofs.Common.{◌≡◌, ℕ, ◌+◌, ◌≤◌, List, [], ◌∷◌, length, arith}
use Rattle.handle_model.specs.declared.entry.Outcome.{Outcome}
use Rattle.handle_model.specs.declared.entry.Outcome.TheVariants.{Keep, Close, Issue, Nothing}
use Rattle.handle_table.specs.Ended.{issues_one, issue_count}

one_at_most : (o : Outcome) → issues_one o ≤ 1
one_at_most (Issue serial cookie) = omega arith
one_at_most (Keep cookie) = omega arith
one_at_most Close = omega arith
one_at_most Nothing = omega arith

pub issues_few : (os : List Outcome) → issue_count os ≤ length os
issues_few [] = omega arith
issues_few (o ∷ os) = let one = one_at_most o in let more = issues_few os in omega (arith, one, more)
