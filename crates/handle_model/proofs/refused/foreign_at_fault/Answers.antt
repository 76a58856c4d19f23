use Rattle.handle_model.proofs.Usable.{foreign_at_fault}
use Rattle.handle_model.proofs.refused.foreign_at_fault.Goals as goal

pub returns : goal.returns
returns c = foreign_at_fault
