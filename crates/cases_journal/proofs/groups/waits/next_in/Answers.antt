use Rattle.cases_journal.proofs.Queued.{next_stands}
use Rattle.cases_journal.proofs.groups.waits.next_in.Goals as goal

pub returns : goal.returns
returns c = next_stands c.args.queue c.args.list.now.nodes c.args.after c.next_of.result c.requires.after c.next_of.ensures
