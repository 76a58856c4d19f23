use Rattle.std.proofs.Common.{◌≤◌, ℕ, List, length}
use Rattle.idl_tokens.specs.Tokens.{Gap}
use Rattle.idl_tokens.proofs.gaps.behind_gap.Given as goal

abbrev pub invariant-separators : goal.invariant-separators
invariant-separators l = record { gap : (rest : List ℕ) → Gap rest l.here → Gap rest l.text; within : length l.here ≤ length l.text }

abbrev pub decreases-separators : goal.decreases-separators
decreases-separators l = length l.here
