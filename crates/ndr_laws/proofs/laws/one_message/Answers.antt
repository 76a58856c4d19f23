use Rattle.ndr_laws.proofs.Stubs.{one_stub}
use Rattle.ndr_laws.proofs.laws.one_message.Goals as goal

pub returns : goal.returns
returns c = λ types op way order asked octets m n o s t. one_stub types op way order asked octets m n o s t
