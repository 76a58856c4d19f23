use Rattle.std.proofs.Common.{sym, ap, ◌∙◌}
use Rattle.conn_core.specs.Fields.{ConnFields}
use Rattle.conn_core.specs.Steps.{holds_up}
use Rattle.conn_core.proofs.CalledOff.{stuck_behind}
use Rattle.conn_core.proofs.conn.Conn.must_wait.Goals as goal

pub returns-in-Call-clause-stuck : goal.returns-in-Call-clause-stuck
returns-in-Call-clause-stuck c =
    let t = c.args.self.now in
    let view = c.self.view_is in
    stuck_behind t.waits t.fed.rest c.in-Call.field-0 c.in-Call.field-1 c.holds_up.result (sym (ap (λ (x : ConnFields). x.waits) view) ∙ c.in-Call.is)
    (c.holds_up.ensures ∙ ap holds_up (c.held.ensures ∙ ap (λ (x : ConnFields). x.fed.rest) view))
