use Rattle.idl_tokens.proofs.Departs.{go_sound}
use Rattle.idl_tokens.proofs.grammars.goes_along_what_matches.Goals as goal

pub returns : goal.returns
returns c = go_sound
