use Rattle.pdu_codec.proofs.PduLaws.{one_pdu}
use Rattle.pdu_codec.proofs.laws.one_pdu.Goals as goal

pub returns : goal.returns
returns c = one_pdu
