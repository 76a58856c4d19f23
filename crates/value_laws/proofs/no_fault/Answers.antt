use Rattle.value_laws.proofs.Unique.{no_fault}
use Rattle.value_laws.proofs.no_fault.Goals as goal

pub returns : goal.returns
returns c = no_fault
