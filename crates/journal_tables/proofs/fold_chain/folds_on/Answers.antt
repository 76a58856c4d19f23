use Rattle.journal_tables.proofs.Alike.{folds_on}
use Rattle.journal_tables.proofs.fold_chain.folds_on.Goals as goal

pub returns : goal.returns
returns c = folds_on
