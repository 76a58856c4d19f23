use Rattle.stub_laws.proofs.Entries.{amiss_is_read}
use Rattle.stub_laws.proofs.amiss_is_read.Goals as goal

pub returns : goal.returns
returns c = λ types op way order octets d o a. amiss_is_read types op way order octets d o a
