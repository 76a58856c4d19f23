use Rattle.world_laws.proofs.Moving.{calls_are_rows}
use Rattle.world_laws.proofs.laws.calls_are_rows.Goals as goal

pub returns : goal.returns
returns c = calls_are_rows
