use Rattle.journal_tables.proofs.Numbers.{holds_accepts}
use Rattle.journal_tables.proofs.fold_laws.holds_accepts.Goals as goal

pub returns : goal.returns
returns c = holds_accepts
