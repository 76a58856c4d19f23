use Rattle.handle_model.proofs.Usable.{fault_refuses}
use Rattle.handle_model.proofs.refused.fault_refuses.Goals as goal

pub returns : goal.returns
returns c = fault_refuses
