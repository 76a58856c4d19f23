use Rattle.handle_model.proofs.Joins.{joins_new}
use Rattle.handle_model.proofs.connections.joins_new.Goals as goal

pub returns : goal.returns
returns c = joins_new
