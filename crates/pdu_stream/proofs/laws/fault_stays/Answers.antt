use Rattle.pdu_stream.proofs.CutLaws.{fault_stays}
use Rattle.pdu_stream.proofs.laws.fault_stays.Goals as goal

pub returns : goal.returns
returns c = fault_stays
