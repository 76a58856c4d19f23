use Rattle.journal_tables.proofs.Alike.{folds_twice}
use Rattle.journal_tables.proofs.fold_chain.folds_twice.Goals as goal

pub returns : goal.returns
returns c = folds_twice
