use Rattle.handle_model.proofs.Stages.{takes_once}
use Rattle.handle_model.proofs.calls.takes_once.Goals as goal

pub returns : goal.returns
returns c = takes_once
