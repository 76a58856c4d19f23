use Rattle.handle_model.proofs.Fate.{one_fate}
use Rattle.handle_model.proofs.handles.one_fate.Goals as goal

pub returns : goal.returns
returns c = one_fate
