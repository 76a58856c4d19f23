use Rattle.std.proofs.Common.{IfSome}
use Rattle.wait_list.specs.Waiting.{StandsIn}
use Rattle.cases_journal.proofs.groups.waits.put_queue.Given as goal

abbrev pub invariant-loop : goal.invariant-loop
invariant-loop l = IfSome l.at (λ t. StandsIn l.list.nodes l.queue t)
