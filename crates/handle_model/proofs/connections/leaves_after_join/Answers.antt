use Rattle.handle_model.proofs.Joins.{leaves_after_join}
use Rattle.handle_model.proofs.connections.leaves_after_join.Goals as goal

pub returns : goal.returns
returns c = leaves_after_join
