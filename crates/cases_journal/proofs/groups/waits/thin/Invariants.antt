use Rattle.std.proofs.Common.{◌≡◌, IfSome}
use Rattle.wait_list.specs.Waiting.{StandsIn}
use Rattle.cases_journal.proofs.groups.waits.thin.Given as goal

abbrev pub invariant-loop : goal.invariant-loop
invariant-loop l = (l.list.queues ≡ l.fn.list.queues) × IfSome l.at (λ t. StandsIn l.list.nodes 0 t)

abbrev pub ghosts-take_next : goal.ghosts-take_next
ghosts-take_next a = record { name = a.blank.name; parts = a.blank.parts }
