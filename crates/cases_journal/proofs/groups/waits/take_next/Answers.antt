use Rattle.cases_journal.proofs.Queued.{stays, next_at}
use Rattle.cases_journal.proofs.groups.waits.take_next.Goals as goal

pub remove-requires : goal.remove-requires
remove-requires g c = next_at 0 c.args.list.now.nodes c.args.after c.in-Some.next c.requires.after (rw c.in-Some.is at c.next_of.ensures)

pub returns-in-Some-clause-after : goal.returns-in-Some-clause-after
returns-in-Some-clause-after g c = stays 0 c.args.list.now.nodes c.remove.new.self.nodes c.args.after c.in-Some.next c.requires.after (rw c.in-Some.is at c.next_of.ensures) c.remove.ensures.nodes
