use Rattle.journal_tables.proofs.Alike.{folds_again}
use Rattle.journal_tables.proofs.fold_chain.folds_again.Goals as goal

pub returns : goal.returns
returns c = folds_again
