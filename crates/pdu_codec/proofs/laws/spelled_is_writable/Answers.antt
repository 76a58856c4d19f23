use Rattle.pdu_codec.proofs.SizeLaws.{pdu_writable}
use Rattle.pdu_codec.proofs.laws.spelled_is_writable.Goals as goal

pub returns : goal.returns
returns c = pdu_writable
