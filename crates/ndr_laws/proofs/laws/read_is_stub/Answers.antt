use Rattle.ndr_laws.proofs.Stubs.{read_stands}
use Rattle.ndr_laws.proofs.laws.read_is_stub.Goals as goal

pub returns : goal.returns
returns c = λ types op way order asked octets m e. read_stands types op way order asked octets m e
