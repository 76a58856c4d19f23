use Rattle.journal_tables.proofs.Alike.{folds_stand}
use Rattle.journal_tables.proofs.fold_chain.folds_stand.Goals as goal

pub returns : goal.returns
returns c = folds_stand
