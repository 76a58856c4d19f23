use Rattle.conn_turns.proofs.Going.{turns_are_left}
use Rattle.conn_turns.proofs.laws.turns_are_left.Goals as goal

pub returns : goal.returns
returns c = turns_are_left
