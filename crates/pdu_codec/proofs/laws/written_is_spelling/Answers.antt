use Rattle.pdu_codec.proofs.AnswerLaws.{pdu_written}
use Rattle.pdu_codec.proofs.laws.written_is_spelling.Goals as goal

pub returns : goal.returns
returns c = pdu_written
