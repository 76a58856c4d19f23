use Rattle.std.proofs.Common.{sym, ap, ◌∙◌}
use Rattle.pdu_stream.specs.Cuts.{Fed}
use Rattle.conn_core.specs.Fields.{ConnFields}
use Rattle.conn_core.proofs.Causes.{next_shorter}
use Rattle.conn_core.proofs.Passing.{passes_one, may_free, is_free, stepped, hear_shorter, next_of, stopped, stop_passes, stop_shorter}
use Rattle.conn_core.proofs.Waiting.{stop_waits}
use Rattle.conn_core.proofs.conn.Conn.step_free.Goals as goal

pub returns-in-Ok-Some-clause-passes : goal.returns-in-Ok-Some-clause-passes
returns-in-Ok-Some-clause-passes c =
    let t = c.args.self.now in
    let u = c.hear.new.self in
    let view = c.self.view_is in
    let next =
    next_of t u c.self.inside.feed c.next.new.self c.next.result c.in-Ok-Some.field-0 c.in-Ok-Some.pdu (ap (λ (x : ConnFields). x.fed) (sym view)) c.hear.ensures.fed c.in-Ok-Some.is c.in-Ok-Some.field-0-is
    c.next.ensures in
    passes_one t u c.in-Ok-Some.pdu next (c.hear.ensures.ids ∙ ap (λ (x : ConnFields). x.served.ids) view) (c.hear.ensures.agreement ∙ ap (λ (x : ConnFields). x.agreement) view)

pub returns-in-Ok-Some-clause-shorter : goal.returns-in-Ok-Some-clause-shorter
returns-in-Ok-Some-clause-shorter c =
    let t = c.args.self.now in
    let u = c.hear.new.self in
    let next =
    next_of t u c.self.inside.feed c.next.new.self c.next.result c.in-Ok-Some.field-0 c.in-Ok-Some.pdu (ap (λ (x : ConnFields). x.fed) (sym c.self.view_is)) c.hear.ensures.fed c.in-Ok-Some.is
    c.in-Ok-Some.field-0-is c.next.ensures in
    hear_shorter _ _ c.hear.result (next_shorter t.fed.rest u.fed.rest c.in-Ok-Some.pdu next)

pub returns-in-Ok-Some-clause-steps : goal.returns-in-Ok-Some-clause-steps
returns-in-Ok-Some-clause-steps c m at =
    let t = c.args.self.now in
    let u = c.hear.new.self in
    let s = c.self.inside in
    let view = c.self.view_is in
    let v : ConnFields = record { fed = c.next.new.self; bound = s.bound; joining = s.joiner; served = s.contexts; waits = s.waits; agreement = s.agreement } in
    let next =
    next_of t u s.feed c.next.new.self c.next.result c.in-Ok-Some.field-0 c.in-Ok-Some.pdu (ap (λ (x : ConnFields). x.fed) (sym view)) c.hear.ensures.fed c.in-Ok-Some.is c.in-Ok-Some.field-0-is c.next.ensures in
    let free =
    is_free t v m at c.requires (ap (λ (x : ConnFields). x.served) view) (ap (λ (x : ConnFields). x.waits) view) (ap (λ (x : ConnFields). x.agreement) view) (ap (λ (x : ConnFields). x.bound) view) (ap (λ (x : ConnFields). x.joining) view) in
    stepped t u m c.in-Ok-Some.pdu c.hear.result at c.requires next (c.hear.ensures.ids ∙ ap (λ (x : ConnFields). x.served.ids) view) (c.hear.ensures.agreement ∙ ap (λ (x : ConnFields). x.agreement) view)
    (c.hear.ensures.heard m free)

pub returns-in-Err-clause-passes : goal.returns-in-Err-clause-passes
returns-in-Err-clause-passes c =
    let s = c.self.inside in
    let view = c.self.view_is in
    let v : ConnFields = record { fed = c.next.new.self; bound = s.bound; joining = s.joiner; served = s.contexts; waits = s.waits; agreement = s.agreement } in
    let gives = rw c.in-Err.is at c.next.ensures in
    stop_passes c.args.self.now v c.stop.new.self c.in-Err.fault c.stop.result (ap (λ (f : Fed). f.rest) gives.1 ∙ ap (λ (x : ConnFields). x.fed.rest) view) (ap (λ (x : ConnFields). x.served) view)
    (ap (λ (x : ConnFields). x.agreement) view) c.stop.ensures

pub returns-in-Err-clause-shorter : goal.returns-in-Err-clause-shorter
returns-in-Err-clause-shorter c = stop_shorter _ c.in-Err.fault c.stop.result _ c.stop.new.self _ _ c.stop.ensures

pub returns-in-Err-clause-steps : goal.returns-in-Err-clause-steps
returns-in-Err-clause-steps c m at =
    let s = c.self.inside in
    let view = c.self.view_is in
    let v : ConnFields = record { fed = c.next.new.self; bound = s.bound; joining = s.joiner; served = s.contexts; waits = s.waits; agreement = s.agreement } in
    let gives = rw c.in-Err.is at c.next.ensures in
    stopped c.args.self.now v c.stop.new.self m c.in-Err.fault c.stop.result at c.requires (ap (λ (f : Fed). f.rest) gives.1 ∙ ap (λ (x : ConnFields). x.fed.rest) view) (ap (λ (x : ConnFields). x.served) view)
    (ap (λ (x : ConnFields). x.agreement) view) c.stop.ensures

pub returns-in-Err-Memory-clause-steps : goal.returns-in-Err-Memory-clause-steps
returns-in-Err-Memory-clause-steps c m at = may_free c.args.self.now m at c.requires

pub returns-in-Err-clause-waits : goal.returns-in-Err-clause-waits
returns-in-Err-clause-waits c = stop_waits _ c.in-Err.fault c.stop.result _ c.stop.new.self c.stop.ensures
