use Rattle.handle_model.proofs.Joins.{accepts_of_open}
use Rattle.handle_model.proofs.connections.accepts_of_open.Goals as goal

pub returns : goal.returns
returns c = accepts_of_open
