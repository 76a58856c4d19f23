use Rattle.conn_turns.proofs.Staying.{turns_stay}
use Rattle.conn_turns.proofs.laws.turns_stay.Goals as goal

pub returns : goal.returns
returns c = turns_stay
