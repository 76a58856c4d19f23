use Rattle.handle_model.proofs.Stages.{decides_before_leave}
use Rattle.handle_model.proofs.calls.decides_before_leave.Goals as goal

pub returns : goal.returns
returns c = decides_before_leave
