use Rattle.handle_model.proofs.Stages.{orphans_once}
use Rattle.handle_model.proofs.calls.orphans_once.Goals as goal

pub returns : goal.returns
returns c = orphans_once
