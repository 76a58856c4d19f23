use Rattle.journal_tables.proofs.FoldFloors.{keeps_joins}
use Rattle.journal_tables.proofs.fold_laws.keeps_joins.Goals as goal

pub returns : goal.returns
returns c = keeps_joins
