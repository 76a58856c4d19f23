use Rattle.std.proofs.Common.{◌≡◌, ◌≤◌, drop, length}
use Rattle.handle_model.specs.Journal.{least}
use Rattle.journal_tables.specs.Floor.{open_places}
use Rattle.journal_tables.proofs.conns.least_place.Given as goal

-- the least of those from here on
abbrev pub invariant-loop-at : goal.invariant-loop-at
invariant-loop-at l = (l.found ≡ least (open_places (drop l.at l.conns))) × (l.at ≤ length l.conns)

abbrev pub decreases-loop-at : goal.decreases-loop-at
decreases-loop-at l = l.at
