use Rattle.ndr_laws.proofs.WrittenStubs.{written_read}
use Rattle.ndr_laws.proofs.written_laws.written_is_read.Goals as goal

pub returns : goal.returns
returns c = λ types op way order asked m o s short. written_read types op way order asked m o s short
