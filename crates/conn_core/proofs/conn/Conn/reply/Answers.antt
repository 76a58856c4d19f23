use Rattle.std.proofs.Common.{sym, subst}
use Rattle.conn_core.specs.Fields.{ConnFields, IsAt}
use Rattle.conn_core.proofs.Turns.{replied_turn}
use Rattle.conn_core.proofs.conn.Conn.reply.Goals as goal

pub returns : goal.returns
returns c m h =
    let at = subst (λ (x : ConnFields). IsAt x m) (sym c.self.view_is) h in
    replied_turn _ m c.in-Call.caller c.in-Call.maybe c.args.executed _ c.in_ok-octets.octets at c.in-Call.is c.in_ok-octets.ensures
