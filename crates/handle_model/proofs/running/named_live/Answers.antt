use Rattle.handle_model.proofs.LiveNames.{named_live}
use Rattle.handle_model.proofs.running.named_live.Goals as goal

pub returns : goal.returns
returns c = named_live
