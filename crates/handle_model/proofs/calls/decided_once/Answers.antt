use Rattle.handle_model.proofs.Stages.{decided_once}
use Rattle.handle_model.proofs.calls.decided_once.Goals as goal

pub returns : goal.returns
returns c = decided_once
