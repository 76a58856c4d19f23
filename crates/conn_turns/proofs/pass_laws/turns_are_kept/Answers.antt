use Rattle.conn_turns.proofs.Kept.{turns_are_kept}
use Rattle.conn_turns.proofs.pass_laws.turns_are_kept.Goals as goal

pub returns : goal.returns
returns c = turns_are_kept
