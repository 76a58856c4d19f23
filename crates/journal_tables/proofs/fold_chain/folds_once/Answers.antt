use Rattle.journal_tables.proofs.Alike.{folds_once}
use Rattle.journal_tables.proofs.fold_chain.folds_once.Goals as goal

pub returns : goal.returns
returns c = folds_once
