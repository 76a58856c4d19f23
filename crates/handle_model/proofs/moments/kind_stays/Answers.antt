use Rattle.handle_model.proofs.Agreement.{kind_stays}
use Rattle.handle_model.proofs.moments.kind_stays.Goals as goal

pub returns : goal.returns
returns c = kind_stays
