use Rattle.handle_model.proofs.Accepted.{accepts_once}
use Rattle.handle_model.proofs.calls.accepts_once.Goals as goal

pub returns : goal.returns
returns c = accepts_once
