use Rattle.journal_tables.proofs.Shown.{follows}
use Rattle.journal_tables.proofs.laws.follows_entries.Goals as goal

pub returns : goal.returns
returns c = follows
