use Rattle.journal_tables.proofs.Numbers.{holds_since_join}
use Rattle.journal_tables.proofs.fold_laws.holds_since_join.Goals as goal

pub returns : goal.returns
returns c = holds_since_join
