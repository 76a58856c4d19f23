use Rattle.journal_tables.proofs.Numbers.{holds_calls}
use Rattle.journal_tables.proofs.fold_laws.holds_calls.Goals as goal

pub returns : goal.returns
returns c = holds_calls
