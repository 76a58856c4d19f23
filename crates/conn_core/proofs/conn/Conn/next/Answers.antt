use Rattle.std.proofs.Common.{sym, subst}
use Rattle.conn_core.specs.Fields.{ConnFields}
use Rattle.conn_core.specs.Steps.{Passes}
use Rattle.conn_core.proofs.Passing.{fails}
use Rattle.conn_core.proofs.conn.Conn.next.Goals as goal

pub returns-in-Err-clause-goes : goal.returns-in-Err-clause-goes
returns-in-Err-clause-goes c m at =
    let s = c.self.inside in
    let v : ConnFields = record { fed = s.feed; bound = s.bound; joining = s.joiner; served = s.contexts; waits = s.waits; agreement = s.agreement } in
    fails c.args.self.now v m c.in-Err.fault at (subst (λ (x : ConnFields). Passes c.args.self.now x) (sym c.self.view_is) c.go.ensures.passes) (c.in-Err.ensures.goes m at)
