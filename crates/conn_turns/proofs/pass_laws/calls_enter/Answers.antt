use Rattle.conn_turns.proofs.Kept.{calls_enter}
use Rattle.conn_turns.proofs.pass_laws.calls_enter.Goals as goal

pub returns : goal.returns
returns c = calls_enter
