use Rattle.ndr_laws.proofs.WrittenStubs.{written_stub}
use Rattle.ndr_laws.proofs.written_laws.written_is_stub.Goals as goal

pub returns : goal.returns
returns c = λ types op way order asked m o s short. written_stub types op way order asked m o s short
