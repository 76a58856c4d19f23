use Rattle.std.proofs.Common.{sym, subst, ◌∙◌}
use Rattle.mpx_conn.specs.Fields.{MpxFields, IsAmong}
use Rattle.mpx_conn.proofs.Turns.{bound_among}
use Rattle.mpx_conn.proofs.conn.MpxConn.bound.Goals as goal

pub returns-in-Ok : goal.returns-in-Ok
returns-in-Ok c m h =
    let at = subst (λ (x : MpxFields). IsAmong x m) (sym c.self.view_is) h in
    bound_among _ m c.in-Group.caller c.in-Group.ack c.args.group c.in-Ok.octets at (sym c.replace.ensures.value ∙ c.in-Group.is) c.in-Ok.ensures
