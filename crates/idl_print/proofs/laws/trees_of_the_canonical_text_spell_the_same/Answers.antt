use Rattle.idl_print.proofs.Same.{spell_the_same}
use Rattle.idl_print.proofs.laws.trees_of_the_canonical_text_spell_the_same.Goals as goal

pub returns : goal.returns
returns c = spell_the_same
