use Rattle.journal_tables.proofs.Advanced.{advance_since}
use Rattle.journal_tables.proofs.folding.advances_to.Goals as goal

pub returns : goal.returns
returns c = advance_since
