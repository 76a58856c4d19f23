use Rattle.stub_laws.proofs.Alone.{one_number}
use Rattle.stub_laws.proofs.one_number.Goals as goal

pub returns : goal.returns
returns c = λ types op way order asked octets m end left demands o r a i. one_number types op way order asked octets o m end left demands r a i
