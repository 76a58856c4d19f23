use Rattle.handle_model.proofs.Accepted.{accepts_new}
use Rattle.handle_model.proofs.calls.accepts_new.Goals as goal

pub returns : goal.returns
returns c = accepts_new
