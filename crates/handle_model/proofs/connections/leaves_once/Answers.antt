use Rattle.handle_model.proofs.Joins.{leaves_once}
use Rattle.handle_model.proofs.connections.leaves_once.Goals as goal

pub returns : goal.returns
returns c = leaves_once
