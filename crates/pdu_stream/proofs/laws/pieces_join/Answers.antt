use Rattle.pdu_stream.proofs.Covers.{pieces_join}
use Rattle.pdu_stream.proofs.laws.pieces_join.Goals as goal

pub returns : goal.returns
returns c = pieces_join
