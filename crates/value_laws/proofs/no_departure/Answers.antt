use Rattle.value_laws.proofs.Unique.{no_departure}
use Rattle.value_laws.proofs.no_departure.Goals as goal

pub returns : goal.returns
returns c = no_departure
