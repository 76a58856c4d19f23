use Rattle.journal_tables.proofs.Advanced.{advance_twice}
use Rattle.journal_tables.proofs.folding.advances_twice.Goals as goal

pub returns : goal.returns
returns c = advance_twice
