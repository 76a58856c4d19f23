use Rattle.journal_tables.proofs.FoldFloors.{keeps_accepts}
use Rattle.journal_tables.proofs.fold_laws.keeps_accepts.Goals as goal

pub returns : goal.returns
returns c = keeps_accepts
