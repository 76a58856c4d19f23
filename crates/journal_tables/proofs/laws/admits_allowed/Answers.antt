use Rattle.journal_tables.proofs.Shown.{admits_shown}
use Rattle.journal_tables.proofs.laws.admits_allowed.Goals as goal

pub returns : goal.returns
returns c = admits_shown
