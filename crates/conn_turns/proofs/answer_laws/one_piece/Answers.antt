use Rattle.conn_turns.proofs.Putting.{one_piece}
use Rattle.conn_turns.proofs.answer_laws.one_piece.Goals as goal

pub returns : goal.returns
returns c = one_piece
