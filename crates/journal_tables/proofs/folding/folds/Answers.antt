use Rattle.journal_tables.proofs.Folded.{folds}
use Rattle.journal_tables.proofs.folding.folds.Goals as goal

pub returns : goal.returns
returns c = folds
