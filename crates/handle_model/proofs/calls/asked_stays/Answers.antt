use Rattle.handle_model.proofs.Accepted.{asked_stays}
use Rattle.handle_model.proofs.calls.asked_stays.Goals as goal

pub returns : goal.returns
returns c = asked_stays
