use Rattle.conn_turns.proofs.Ending.{turns_have_ended}
use Rattle.conn_turns.proofs.laws.turns_have_ended.Goals as goal

pub returns : goal.returns
returns c = turns_have_ended
