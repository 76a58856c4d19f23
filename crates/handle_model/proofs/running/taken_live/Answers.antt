use Rattle.handle_model.proofs.LiveNames.{taken_live}
use Rattle.handle_model.proofs.running.taken_live.Goals as goal

pub returns : goal.returns
returns c = taken_live
