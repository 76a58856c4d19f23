use Rattle.pdu_stream.proofs.HasCut.{has_cut}
use Rattle.pdu_stream.proofs.laws.has_cut.Goals as goal

pub returns : goal.returns
returns c = has_cut
