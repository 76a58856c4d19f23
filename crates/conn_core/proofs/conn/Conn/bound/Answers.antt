use Rattle.std.proofs.Common.{sym, subst, ◌∙◌}
use Rattle.conn_core.specs.Fields.{ConnFields, IsAt}
use Rattle.conn_core.proofs.Turns.{bound_turn}
use Rattle.conn_core.proofs.conn.Conn.bound.Goals as goal

pub returns-in-Ok : goal.returns-in-Ok
returns-in-Ok c m h =
    let at = subst (λ (x : ConnFields). IsAt x m) (sym c.self.view_is) h in
    bound_turn _ m c.in-Group.caller c.in-Group.ack c.args.group c.in-Ok.octets at (sym c.replace.ensures.value ∙ c.in-Group.is) c.in-Ok.ensures
