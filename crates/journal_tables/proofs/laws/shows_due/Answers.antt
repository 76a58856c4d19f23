use Rattle.journal_tables.proofs.Shown.{due_shown}
use Rattle.journal_tables.proofs.laws.shows_due.Goals as goal

pub returns : goal.returns
returns c = due_shown
