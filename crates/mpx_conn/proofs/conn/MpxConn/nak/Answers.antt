use Rattle.std.proofs.Common.{sym, subst}
use Rattle.mpx_conn.specs.Fields.{MpxFields, IsAmong}
use Rattle.mpx_conn.proofs.Turns.{naked_among}
use Rattle.mpx_conn.proofs.conn.MpxConn.nak.Goals as goal

pub returns : goal.returns
returns c m h =
    let at = subst (λ (x : MpxFields). IsAmong x m) (sym c.self.view_is) h in
    naked_among _ m c.in-Group.caller c.in-Group.field-1 c.args.reason c.in_ok-octets.octets at c.in-Group.is c.in_ok-octets.ensures
