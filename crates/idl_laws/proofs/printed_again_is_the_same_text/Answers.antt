use Rattle.idl_laws.proofs.Again.{text_again}
use Rattle.idl_laws.proofs.printed_again_is_the_same_text.Goals as goal

pub returns : goal.returns
returns c = text_again
