use Rattle.ndr_faults.proofs.Firsts.{is_first}
use Rattle.ndr_faults.proofs.laws.reads_first.Goals as goal

pub returns : goal.returns
returns c = λ types op way order octets d o e. is_first types op way order octets d o e
