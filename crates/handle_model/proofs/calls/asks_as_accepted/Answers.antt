use Rattle.handle_model.proofs.Accepted.{asks_as_accepted}
use Rattle.handle_model.proofs.calls.asks_as_accepted.Goals as goal

pub returns : goal.returns
returns c = asks_as_accepted
