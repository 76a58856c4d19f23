use Rattle.idl_laws.proofs.Same.{as_written}
use Rattle.idl_laws.proofs.grammar_matches_as_written.Goals as goal

pub returns : goal.returns
returns c = as_written
