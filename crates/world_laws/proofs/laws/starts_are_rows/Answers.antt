use Rattle.world_laws.proofs.StartRows.{starts_are_rows}
use Rattle.world_laws.proofs.laws.starts_are_rows.Goals as goal

pub returns : goal.returns
returns c = starts_are_rows
