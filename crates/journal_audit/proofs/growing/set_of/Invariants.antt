use Rattle.std.proofs.Common.{◌≡◌, ℕ, ◌||◌, drop}
use Rattle.std.specs.List.{list_any}
use Rattle.handle_model.specs.Bases.{is_number}
use Rattle.journal_audit.specs.Numbered.{has}
use Rattle.journal_audit.proofs.growing.set_of.Given as goal

-- what is left is added yet
abbrev pub invariant-loop-number : goal.invariant-loop-number
invariant-loop-number l =
    (n : ℕ) → (has l.set n || list_any (is_number n) (drop l.number-index l.numbers)) ≡ list_any (is_number n) l.numbers
