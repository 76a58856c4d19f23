use Rattle.pdu_stream.proofs.Covers.{pieces_cover}
use Rattle.pdu_stream.proofs.laws.pieces_cover.Goals as goal

pub returns : goal.returns
returns c = λ size stub some. let p = pieces_cover size stub some in (p.0, p.1, record { whole = p.2; places = p.3 })
