use Rattle.handle_table.proofs.Named.{shows_kind}
use Rattle.handle_table.proofs.laws.shows_kind.Goals as goal

pub returns : goal.returns
returns c = shows_kind
