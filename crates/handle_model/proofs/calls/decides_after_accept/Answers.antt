use Rattle.handle_model.proofs.Stages.{decides_after_accept}
use Rattle.handle_model.proofs.calls.decides_after_accept.Goals as goal

pub returns : goal.returns
returns c = decides_after_accept
