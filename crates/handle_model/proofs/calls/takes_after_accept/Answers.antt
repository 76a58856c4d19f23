use Rattle.handle_model.proofs.Stages.{takes_after_accept}
use Rattle.handle_model.proofs.calls.takes_after_accept.Goals as goal

pub returns : goal.returns
returns c = takes_after_accept
