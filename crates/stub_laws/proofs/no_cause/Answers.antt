use Rattle.stub_laws.proofs.Alone.{no_cause}
use Rattle.stub_laws.proofs.no_cause.Goals as goal

pub returns : goal.returns
returns c = λ types op way order asked octets m d o s c. no_cause types op way order asked octets o m d s c
