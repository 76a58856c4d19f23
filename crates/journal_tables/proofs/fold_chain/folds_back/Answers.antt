use Rattle.journal_tables.proofs.Back.{folds_back}
use Rattle.journal_tables.proofs.fold_chain.folds_back.Goals as goal

pub returns : goal.returns
returns c = folds_back
