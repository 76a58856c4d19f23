use Rattle.cases_journal.proofs.Queued.{stands_at}
use Rattle.cases_journal.proofs.groups.waits.call_in.Goals as goal

pub call_of-requires : goal.call_of-requires
call_of-requires c = stands_at c.args.queue c.args.list.now.nodes c.args.at c.requires
