use Rattle.handle_model.proofs.Usable.{null_at_fault}
use Rattle.handle_model.proofs.refused.null_at_fault.Goals as goal

pub returns : goal.returns
returns c = null_at_fault
