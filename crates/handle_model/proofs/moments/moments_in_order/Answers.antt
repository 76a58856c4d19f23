use Rattle.handle_model.proofs.Agreement.{moments_in_order}
use Rattle.handle_model.proofs.moments.moments_in_order.Goals as goal

pub returns : goal.returns
returns c = moments_in_order
