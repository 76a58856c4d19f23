use Rattle.idl_print.proofs.Same.{departs_nowhere}
use Rattle.idl_print.proofs.laws.canonical_text_departs_nowhere.Goals as goal

pub returns : goal.returns
returns c = departs_nowhere
