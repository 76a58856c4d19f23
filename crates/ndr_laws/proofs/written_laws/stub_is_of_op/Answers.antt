use Rattle.ndr_laws.proofs.WrittenStubs.{stub_suits}
use Rattle.ndr_laws.proofs.written_laws.stub_is_of_op.Goals as goal

pub returns : goal.returns
returns c = λ types op way order asked octets m are s. stub_suits types op way order asked octets m are s
