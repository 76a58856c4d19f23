use Rattle.conn_turns.proofs.Going.{turns_go_on}
use Rattle.conn_turns.proofs.laws.turns_go_on.Goals as goal

pub returns : goal.returns
returns c = turns_go_on
