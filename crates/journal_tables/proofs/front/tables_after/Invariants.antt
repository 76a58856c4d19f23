use Rattle.std.proofs.Common.{◌≡◌, take}
use Rattle.handle_model.specs.History.{history_of}
use Rattle.journal_tables.specs.Shown.{tables_of}
use Rattle.journal_tables.proofs.front.tables_after.Given as goal

-- the tables of the entries so far
abbrev pub invariant-loop-i : goal.invariant-loop-i
invariant-loop-i l = l.tables.tables ≡ tables_of (history_of l.fn.home l.base (take l.i l.entries))
