use Rattle.handle_model.proofs.Joins.{joins_once}
use Rattle.handle_model.proofs.connections.joins_once.Goals as goal

pub returns : goal.returns
returns c = joins_once
