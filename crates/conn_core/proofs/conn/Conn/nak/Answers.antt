use Rattle.std.proofs.Common.{sym, subst}
use Rattle.conn_core.specs.Fields.{ConnFields, IsAt}
use Rattle.conn_core.proofs.Turns.{naked_turn}
use Rattle.conn_core.proofs.conn.Conn.nak.Goals as goal

pub returns : goal.returns
returns c m h =
    let at = subst (λ (x : ConnFields). IsAt x m) (sym c.self.view_is) h in
    naked_turn _ m c.in-Group.caller c.in-Group.field-1 c.args.reason c.in_ok-octets.octets at c.in-Group.is c.in_ok-octets.ensures
