use Rattle.conn_turns.proofs.Reasoning.{reasons_stay}
use Rattle.conn_turns.proofs.laws.reasons_stay.Goals as goal

pub returns : goal.returns
returns c = reasons_stay
