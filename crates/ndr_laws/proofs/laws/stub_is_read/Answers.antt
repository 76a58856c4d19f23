use Rattle.ndr_laws.proofs.Stubs.{stub_found}
use Rattle.ndr_laws.proofs.laws.stub_is_read.Goals as goal

pub returns : goal.returns
returns c = λ types op way order asked octets m o s. stub_found types op way order asked octets m o s
