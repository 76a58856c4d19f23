use Rattle.std.proofs.Common.{sym, ◌∙◌}
use Rattle.cases_journal.proofs.Queued.{first_stands}
use Rattle.cases_journal.proofs.groups.waits.take_first.Goals as goal

pub remove-requires : goal.remove-requires
remove-requires g c = first_stands c.args.list.now.nodes c.in-Some.first (sym c.front.ensures ∙ c.in-Some.is)
