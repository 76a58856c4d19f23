use Rattle.conn_turns.proofs.Putting.{turns_are_put}
use Rattle.conn_turns.proofs.answer_laws.turns_are_put.Goals as goal

pub returns : goal.returns
returns c = turns_are_put
