use Rattle.journal_tables.proofs.Numbers.{holds_joins}
use Rattle.journal_tables.proofs.fold_laws.holds_joins.Goals as goal

pub returns : goal.returns
returns c = holds_joins
