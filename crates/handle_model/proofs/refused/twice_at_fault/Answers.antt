use Rattle.handle_model.proofs.Usable.{twice_at_fault}
use Rattle.handle_model.proofs.refused.twice_at_fault.Goals as goal

pub returns : goal.returns
returns c = twice_at_fault
