use Rattle.journal_tables.proofs.Going.{goes_on}
use Rattle.journal_tables.proofs.folding.keeps_legal.Goals as goal

pub returns : goal.returns
returns c = goes_on
