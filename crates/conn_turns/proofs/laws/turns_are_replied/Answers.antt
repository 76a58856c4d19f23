use Rattle.conn_turns.proofs.Replying.{turns_are_replied}
use Rattle.conn_turns.proofs.laws.turns_are_replied.Goals as goal

pub returns : goal.returns
returns c = turns_are_replied
