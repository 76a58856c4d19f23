use Rattle.handle_model.proofs.Stages.{cancels_once}
use Rattle.handle_model.proofs.calls.cancels_once.Goals as goal

pub returns : goal.returns
returns c = cancels_once
