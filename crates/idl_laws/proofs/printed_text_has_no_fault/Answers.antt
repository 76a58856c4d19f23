use Rattle.idl_laws.proofs.Again.{no_fault}
use Rattle.idl_laws.proofs.printed_text_has_no_fault.Goals as goal

pub returns : goal.returns
returns c = no_fault
