use Rattle.conn_turns.proofs.Reasoning.{turns_have_reasons}
use Rattle.conn_turns.proofs.laws.turns_have_reasons.Goals as goal

pub returns : goal.returns
returns c = turns_have_reasons
