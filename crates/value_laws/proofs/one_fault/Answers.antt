use Rattle.value_laws.proofs.Unique.{one_fault}
use Rattle.value_laws.proofs.one_fault.Goals as goal

pub returns : goal.returns
returns c = one_fault
