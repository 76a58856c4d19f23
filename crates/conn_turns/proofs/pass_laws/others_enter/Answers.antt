use Rattle.conn_turns.proofs.Kept.{others_enter}
use Rattle.conn_turns.proofs.pass_laws.others_enter.Goals as goal

pub returns : goal.returns
returns c = others_enter
