use Rattle.journal_tables.proofs.Numbers.{holds_since_accept}
use Rattle.journal_tables.proofs.fold_laws.holds_since_accept.Goals as goal

pub returns : goal.returns
returns c = holds_since_accept
