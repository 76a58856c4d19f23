use Rattle.idl_tokens.proofs.Ends.{places_rise}
use Rattle.idl_tokens.proofs.laws.places_rise.Goals as goal

pub returns : goal.returns
returns c = λ text ts cut. places_rise cut
