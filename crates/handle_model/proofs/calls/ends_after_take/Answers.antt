use Rattle.handle_model.proofs.Stages.{ends_after_take}
use Rattle.handle_model.proofs.calls.ends_after_take.Goals as goal

pub returns : goal.returns
returns c = ends_after_take
