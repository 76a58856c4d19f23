use Rattle.std.proofs.Common.{sym, ap, subst, ◌∙◌}
use Rattle.pdu_stream.specs.Cuts.{Fed, IsPartial}
use Rattle.conn_core.proofs.Causes.{next_shorter}
use Rattle.conn_core.proofs.Passing.{passes_one, may_free, next_of}
use Rattle.mpx_conn.specs.Fields.{MpxFields}
use Rattle.mpx_conn.proofs.Passing.{same_among, free_among, stuck_free, stepped, hear_shorter, stopped, stop_passes, stop_shorter}
use Rattle.mpx_conn.proofs.conn.MpxConn.step_free.Goals as goal

pub returns-in-Ok-Some-clause-passes : goal.returns-in-Ok-Some-clause-passes
returns-in-Ok-Some-clause-passes c =
    let t = c.args.self.now in
    let u = c.hear.new.self in
    let view = c.self.view_is in
    let next =
    next_of t.conn u.conn c.self.inside.feed c.next.new.self c.next.result c.in-Ok-Some.field-0 c.in-Ok-Some.pdu (ap (λ (x : MpxFields). x.conn.fed) (sym view)) c.hear.ensures.fed c.in-Ok-Some.is
    c.in-Ok-Some.field-0-is c.next.ensures in
    passes_one t.conn u.conn c.in-Ok-Some.pdu next (c.hear.ensures.ids ∙ ap (λ (x : MpxFields). x.conn.served.ids) view) (c.hear.ensures.agreement ∙ ap (λ (x : MpxFields). x.conn.agreement) view)

pub returns-in-Ok-Some-clause-shorter : goal.returns-in-Ok-Some-clause-shorter
returns-in-Ok-Some-clause-shorter c =
    let t = c.args.self.now in
    let u = c.hear.new.self in
    let view = c.self.view_is in
    let next =
    next_of t.conn u.conn c.self.inside.feed c.next.new.self c.next.result c.in-Ok-Some.field-0 c.in-Ok-Some.pdu (ap (λ (x : MpxFields). x.conn.fed) (sym view)) c.hear.ensures.fed c.in-Ok-Some.is
    c.in-Ok-Some.field-0-is c.next.ensures in
    hear_shorter _ _ c.hear.result (next_shorter t.conn.fed.rest u.conn.fed.rest c.in-Ok-Some.pdu next)

pub returns-in-Ok-Some-clause-steps : goal.returns-in-Ok-Some-clause-steps
returns-in-Ok-Some-clause-steps c m at =
    let t = c.args.self.now in
    let u = c.hear.new.self in
    let s = c.self.inside in
    let view = c.self.view_is in
    let v : MpxFields = record { conn = record { fed = c.next.new.self; bound = s.bound; joining = s.joiner; served = s.contexts; waits = s.waits; agreement = s.agreement }; many = s.many; out = s.out } in
    let next =
    next_of t.conn u.conn c.self.inside.feed c.next.new.self c.next.result c.in-Ok-Some.field-0 c.in-Ok-Some.pdu (ap (λ (x : MpxFields). x.conn.fed) (sym view)) c.hear.ensures.fed c.in-Ok-Some.is
    c.in-Ok-Some.field-0-is c.next.ensures in
    let free = free_among t v m at c.requires (ap (λ (x : MpxFields). x.conn.served) view) (ap (λ (x : MpxFields). x.conn.waits) view) (ap (λ (x : MpxFields). x.conn.agreement) view) (ap (λ (x : MpxFields). x.conn.bound) view) (ap (λ (x : MpxFields). x.conn.joining) view) (ap (λ (x : MpxFields). x.many) view) (ap (λ (x : MpxFields). x.out) view) in
    stepped t u m c.in-Ok-Some.pdu c.hear.result at c.requires next (c.hear.ensures.ids ∙ ap (λ (x : MpxFields). x.conn.served.ids) view) (c.hear.ensures.agreement ∙ ap (λ (x : MpxFields). x.conn.agreement) view)
    (c.hear.ensures.heard m free)

pub returns-in-Ok-None-clause-steps : goal.returns-in-Ok-None-clause-steps
returns-in-Ok-None-clause-steps c m at =
    let t = c.args.self.now in
    let s = c.self.inside in
    let view = c.self.view_is in
    let u : MpxFields = record { conn = record { fed = c.next.new.self; bound = s.bound; joining = s.joiner; served = s.contexts; waits = s.waits; agreement = s.agreement }; many = s.many; out = s.out } in
    let gives = rw (c.in-Ok-None.is, c.in-Ok-None.field-0-is) at c.next.ensures in
    let part : IsPartial t.conn.fed.rest = subst (λ (x : MpxFields). IsPartial x.conn.fed.rest) view gives.1 in
    let here = same_among t u m at (ap (λ (x : Fed). x.rest) gives.2 ∙ ap (λ (x : MpxFields). x.conn.fed.rest) view) (ap (λ (x : MpxFields). x.conn.served) view) (ap (λ (x : MpxFields). x.conn.waits) view) (ap (λ (x : MpxFields). x.conn.agreement) view) (ap (λ (x : MpxFields). x.conn.bound) view) (ap (λ (x : MpxFields). x.conn.joining) view) (ap (λ (x : MpxFields). x.many) view) (ap (λ (x : MpxFields). x.out) view) in
    stuck_free t u m at c.requires here part

pub returns-in-Err-clause-passes : goal.returns-in-Err-clause-passes
returns-in-Err-clause-passes c =
    let s = c.self.inside in
    let view = c.self.view_is in
    let v : MpxFields = record { conn = record { fed = c.next.new.self; bound = s.bound; joining = s.joiner; served = s.contexts; waits = s.waits; agreement = s.agreement }; many = s.many; out = s.out } in
    let gives = rw c.in-Err.is at c.next.ensures in
    stop_passes c.args.self.now v c.stop.new.self c.in-Err.fault c.stop.result (ap (λ (x : Fed). x.rest) gives.1 ∙ ap (λ (x : MpxFields). x.conn.fed.rest) view) (ap (λ (x : MpxFields). x.conn.served) view)
    (ap (λ (x : MpxFields). x.conn.agreement) view) c.stop.ensures

pub returns-in-Err-clause-shorter : goal.returns-in-Err-clause-shorter
returns-in-Err-clause-shorter c = stop_shorter _ c.in-Err.fault c.stop.result _ c.stop.new.self _ _ c.stop.ensures

pub returns-in-Err-clause-steps : goal.returns-in-Err-clause-steps
returns-in-Err-clause-steps c m at =
    let s = c.self.inside in
    let view = c.self.view_is in
    let v : MpxFields = record { conn = record { fed = c.next.new.self; bound = s.bound; joining = s.joiner; served = s.contexts; waits = s.waits; agreement = s.agreement }; many = s.many; out = s.out } in
    let gives = rw c.in-Err.is at c.next.ensures in
    stopped c.args.self.now v c.stop.new.self m c.in-Err.fault c.stop.result at c.requires (ap (λ (x : Fed). x.rest) gives.1 ∙ ap (λ (x : MpxFields). x.conn.fed.rest) view) (ap (λ (x : MpxFields). x.conn.served) view)
    (ap (λ (x : MpxFields). x.conn.agreement) view) (ap (λ (x : MpxFields). x.out) view) c.stop.ensures

pub returns-in-Err-Memory-clause-steps : goal.returns-in-Err-Memory-clause-steps
returns-in-Err-Memory-clause-steps c m at = may_free c.args.self.now.conn m.conn at.conn c.requires
