use Rattle.value_laws.proofs.Unique.{one_departure}
use Rattle.value_laws.proofs.one_departure.Goals as goal

pub returns : goal.returns
returns c = one_departure
