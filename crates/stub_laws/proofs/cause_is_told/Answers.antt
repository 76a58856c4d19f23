use Rattle.stub_laws.proofs.Alone.{cause_is_told}
use Rattle.stub_laws.proofs.cause_is_told.Goals as goal

pub returns : goal.returns
returns c = λ types op way order asked octets f o h. cause_is_told types op way order asked octets o f h
