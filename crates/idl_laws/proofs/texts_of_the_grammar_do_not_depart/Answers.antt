use Rattle.idl_laws.proofs.Once.{no_departure}
use Rattle.idl_laws.proofs.texts_of_the_grammar_do_not_depart.Goals as goal

pub returns : goal.returns
returns c = no_departure
