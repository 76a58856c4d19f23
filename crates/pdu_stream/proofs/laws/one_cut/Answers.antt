use Rattle.pdu_stream.proofs.CutLaws.{one_cut}
use Rattle.pdu_stream.proofs.laws.one_cut.Goals as goal

pub returns : goal.returns
returns c = one_cut
