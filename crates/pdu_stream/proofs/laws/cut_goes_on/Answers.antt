use Rattle.pdu_stream.proofs.CutLaws.{cut_goes_on}
use Rattle.pdu_stream.proofs.laws.cut_goes_on.Goals as goal

pub returns : goal.returns
returns c = cut_goes_on
