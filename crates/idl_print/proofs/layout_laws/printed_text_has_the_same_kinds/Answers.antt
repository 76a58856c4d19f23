use Rattle.idl_print.proofs.Printed.{layout_again}
use Rattle.idl_print.proofs.layout_laws.printed_text_has_the_same_kinds.Goals as goal

pub returns : goal.returns
returns c = layout_again
