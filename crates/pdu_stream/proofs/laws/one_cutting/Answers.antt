use Rattle.pdu_stream.proofs.Covers.{one_cutting}
use Rattle.pdu_stream.proofs.laws.one_cutting.Goals as goal

pub returns : goal.returns
returns c = one_cutting
