use Rattle.handle_model.proofs.Stages.{ends_once}
use Rattle.handle_model.proofs.calls.ends_once.Goals as goal

pub returns : goal.returns
returns c = ends_once
