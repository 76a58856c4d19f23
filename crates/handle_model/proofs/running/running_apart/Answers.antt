use Rattle.handle_model.proofs.Apart.{running_apart}
use Rattle.handle_model.proofs.running.running_apart.Goals as goal

pub returns : goal.returns
returns c = running_apart
