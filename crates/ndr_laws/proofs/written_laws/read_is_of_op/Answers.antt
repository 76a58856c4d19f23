use Rattle.ndr_laws.proofs.WrittenStubs.{read_of_op}
use Rattle.ndr_laws.proofs.written_laws.read_is_of_op.Goals as goal

pub returns : goal.returns
returns c = λ types op way order asked octets m are e. read_of_op types op way order asked octets m are e
