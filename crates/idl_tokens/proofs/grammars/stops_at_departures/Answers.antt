use Rattle.idl_tokens.proofs.Departs.{go_departs}
use Rattle.idl_tokens.proofs.grammars.stops_at_departures.Goals as goal

pub returns : goal.returns
returns c = go_departs
