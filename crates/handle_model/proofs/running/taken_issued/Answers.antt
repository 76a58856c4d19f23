use Rattle.handle_model.proofs.Taken.{taken_issued}
use Rattle.handle_model.proofs.running.taken_issued.Goals as goal

pub returns : goal.returns
returns c = taken_issued
