use Rattle.idl_print.proofs.Same.{same_kinds}
use Rattle.idl_print.proofs.laws.canonical_text_has_the_same_kinds.Goals as goal

pub returns : goal.returns
returns c = same_kinds
