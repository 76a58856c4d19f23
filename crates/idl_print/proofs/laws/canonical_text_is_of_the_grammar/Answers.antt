use Rattle.idl_print.proofs.Same.{of_grammar}
use Rattle.idl_print.proofs.laws.canonical_text_is_of_the_grammar.Goals as goal

pub returns : goal.returns
returns c = of_grammar
