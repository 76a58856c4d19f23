use Rattle.ndr_faults.proofs.Departing.{departs}
use Rattle.ndr_faults.proofs.laws.stub_departs.Goals as goal

pub returns : goal.returns
returns c = λ types op way order asked octets d o e. departs types op way order asked octets d o e
