use Rattle.ndr_faults.proofs.Tops.{suffices}
use Rattle.ndr_faults.proofs.fuel_laws.fuel_suffices.Goals as goal

pub returns : goal.returns
returns c = λ n types op way order asked octets o le. suffices types op way order asked octets n o le
