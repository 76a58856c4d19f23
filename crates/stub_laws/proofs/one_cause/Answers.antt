use Rattle.stub_laws.proofs.Alone.{one_cause}
use Rattle.stub_laws.proofs.one_cause.Goals as goal

pub returns : goal.returns
returns c = λ types op way order asked octets d e o x y. one_cause types op way order asked octets o d e x y
