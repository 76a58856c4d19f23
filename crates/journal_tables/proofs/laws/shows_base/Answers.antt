use Rattle.journal_tables.proofs.Shown.{base_shown}
use Rattle.journal_tables.proofs.laws.shows_base.Goals as goal

pub returns : goal.returns
returns c = base_shown
