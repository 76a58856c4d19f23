use Rattle.std.proofs.Common.{drop}
use Rattle.call_table.specs.Tally.{IsPart}
use Rattle.call_table.proofs.tally.Tally.of.Given as goal

-- what is counted, and what is left
abbrev pub invariant-loop-at : goal.invariant-loop-at
invariant-loop-at l = IsPart l.rows.items (drop l.at l.rows.items) l.tally
