use Rattle.handle_model.proofs.Agreement.{agree}
use Rattle.handle_model.proofs.moments.common_past_agrees.Goals as goal

pub returns : goal.returns
returns c = agree
