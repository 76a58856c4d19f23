use Rattle.std.proofs.Common.{◌≡◌, ℕ, nat_eq, List, Ok, rules, refl, sym, ap, subst, ◌∙◌, false, true}
use Rattle.pdu_stream.specs.Cuts.{Fed, IsStop, IsPartial, IsNext}
use Rattle.conn_core.specs.Fields.{ConnFields}
use Rattle.conn_core.specs.Steps.{calls_off}
use Rattle.conn_core.proofs.Causes.{no_next_stop, no_next_partial, next_shorter}
use Rattle.conn_core.proofs.Passing.{may_off, passes_none, passes_one, next_of, hear_shorter}
use Rattle.conn_core.proofs.CalledOff.{stuck_at, none_off, off_next, heard}
use Rattle.conn_core.proofs.conn.Conn.step_off.Goals as goal

pub returns-then-not-calls_off-clause-steps : goal.returns-then-not-calls_off-clause-steps
returns-then-not-calls_off-clause-steps c m at =
    let t = c.args.self.now in
    let here : calls_off t.fed.rest ≡ false =
    ap calls_off (ap (λ (x : ConnFields). x.fed.rest) (sym c.self.view_is) ∙ sym c.held.ensures) ∙ (sym c.calls_off.ensures ∙ c.if-not-calls_off.true) in
    stuck_at t t m c.requires.0 c.requires.1 at c.requires.2 refl refl refl refl refl refl (none_off t.fed.rest here)

pub returns-in-Ok-None-clause-passes : goal.returns-in-Ok-None-clause-passes
returns-in-Ok-None-clause-passes c =
    let s = c.self.inside in
    let t = c.args.self.now in
    let view = c.self.view_is in
    let u : ConnFields = record { fed = c.next.new.self; bound = s.bound; joining = s.joiner; served = s.contexts; waits = s.waits; agreement = s.agreement } in
    let gives = rw (c.in-Ok-None.is, c.in-Ok-None.field-0-is) at c.next.ensures in
    passes_none t u (ap (λ (f : Fed). f.rest) gives.2 ∙ ap (λ (x : ConnFields). x.fed.rest) view) (ap (λ (x : ConnFields). x.served.ids) view) (ap (λ (x : ConnFields). x.agreement) view)

pub returns-in-Ok-None-clause-steps : goal.returns-in-Ok-None-clause-steps
returns-in-Ok-None-clause-steps c m at =
    let s = c.self.inside in
    let t = c.args.self.now in
    let view = c.self.view_is in
    let u : ConnFields = record { fed = c.next.new.self; bound = s.bound; joining = s.joiner; served = s.contexts; waits = s.waits; agreement = s.agreement } in
    let gives = rw (c.in-Ok-None.is, c.in-Ok-None.field-0-is) at c.next.ensures in
    let part : IsPartial t.fed.rest = subst (λ (x : ConnFields). IsPartial x.fed.rest) view gives.1 in
    stuck_at t u m c.requires.0 c.requires.1 at c.requires.2 (ap (λ (f : Fed). f.rest) gives.2 ∙ ap (λ (x : ConnFields). x.fed.rest) view) (ap (λ (x : ConnFields). x.served) view) (ap (λ (x : ConnFields). x.waits) view) (ap (λ (x : ConnFields). x.agreement) view) (ap (λ (x : ConnFields). x.bound) view) (ap (λ (x : ConnFields). x.joining) view)
    (λ p others next. absurd (no_next_partial t.fed.rest others p part next))

pub returns-in-Err-clause-passes : goal.returns-in-Err-clause-passes
returns-in-Err-clause-passes c =
    let s = c.self.inside in
    let t = c.args.self.now in
    let view = c.self.view_is in
    let u : ConnFields = record { fed = c.next.new.self; bound = s.bound; joining = s.joiner; served = s.contexts; waits = s.waits; agreement = s.agreement } in
    let gives = rw c.in-Err.is at c.next.ensures in
    passes_none t u (ap (λ (f : Fed). f.rest) gives.1 ∙ ap (λ (x : ConnFields). x.fed.rest) view) (ap (λ (x : ConnFields). x.served.ids) view) (ap (λ (x : ConnFields). x.agreement) view)

pub returns-in-Err-clause-steps : goal.returns-in-Err-clause-steps
returns-in-Err-clause-steps c m at =
    let s = c.self.inside in
    let t = c.args.self.now in
    let view = c.self.view_is in
    let u : ConnFields = record { fed = c.next.new.self; bound = s.bound; joining = s.joiner; served = s.contexts; waits = s.waits; agreement = s.agreement } in
    let gives = rw c.in-Err.is at c.next.ensures in
    let same = ap (λ (f : Fed). f.rest) gives.1 ∙ ap (λ (x : ConnFields). x.fed.rest) view in
    let here : IsStop c.next.new.self.rest c.in-Err.field-0 = search rules in
    stuck_at t u m c.requires.0 c.requires.1 at c.requires.2 same (ap (λ (x : ConnFields). x.served) view) (ap (λ (x : ConnFields). x.waits) view) (ap (λ (x : ConnFields). x.agreement) view) (ap (λ (x : ConnFields). x.bound) view) (ap (λ (x : ConnFields). x.joining) view)
    (λ p others next. absurd (no_next_stop c.next.new.self.rest others p c.in-Err.field-0 here (subst (λ (x : List ℕ). IsNext x p others) (sym same) next)))

pub returns-clause-passes : goal.returns-clause-passes
returns-clause-passes c =
    let s = c.self.inside in
    let t = c.args.self.now in
    let view = c.self.view_is in
    let u : ConnFields = record { fed = c.next.new.self; bound = s.bound; joining = s.joiner; served = s.contexts; waits = s.waits; agreement = s.agreement } in
    let next = next_of t u s.feed c.next.new.self c.next.result c.in-Ok-Some.field-0 c.in-Ok-Some.pdu (ap (λ (x : ConnFields). x.fed) (sym view)) refl c.in-Ok-Some.is c.in-Ok-Some.field-0-is c.next.ensures in
    passes_one t u c.in-Ok-Some.pdu next (ap (λ (x : ConnFields). x.served.ids) view) (ap (λ (x : ConnFields). x.agreement) view)

pub returns-clause-shorter : goal.returns-clause-shorter
returns-clause-shorter c =
    let s = c.self.inside in
    let t = c.args.self.now in
    let view = c.self.view_is in
    let u : ConnFields = record { fed = c.next.new.self; bound = s.bound; joining = s.joiner; served = s.contexts; waits = s.waits; agreement = s.agreement } in
    let next = next_of t u s.feed c.next.new.self c.next.result c.in-Ok-Some.field-0 c.in-Ok-Some.pdu (ap (λ (x : ConnFields). x.fed) (sym view)) refl c.in-Ok-Some.is c.in-Ok-Some.field-0-is c.next.ensures in
    hear_shorter _ _ (Ok c.heard.result) (next_shorter t.fed.rest u.fed.rest c.in-Ok-Some.pdu next)

pub returns-clause-steps : goal.returns-clause-steps
returns-clause-steps c m at =
    let s = c.self.inside in
    let t = c.args.self.now in
    let view = c.self.view_is in
    let u : ConnFields = record { fed = c.next.new.self; bound = s.bound; joining = s.joiner; served = s.contexts; waits = s.waits; agreement = s.agreement } in
    let p = c.in-Ok-Some.pdu in
    let next = next_of t u s.feed c.next.new.self c.next.result c.in-Ok-Some.field-0 p (ap (λ (x : ConnFields). x.fed) (sym view)) refl c.in-Ok-Some.is c.in-Ok-Some.field-0-is c.next.ensures in
    let front : calls_off t.fed.rest ≡ true =
    ap calls_off (ap (λ (x : ConnFields). x.fed.rest) (sym view) ∙ sym c.held.ensures) ∙ (sym c.calls_off.ensures ∙ c.if-not-calls_off.false) in
    let off = sym (off_next t.fed.rest u.fed.rest p next) ∙ front in
    rw c.heard.ensures
    (heard t u m c.requires.0 c.requires.1 p (nat_eq c.args.call_id p.call_id) at c.requires.2 next off (ap (λ (x : ConnFields). x.served) view) (ap (λ (x : ConnFields). x.waits) view) (ap (λ (x : ConnFields). x.agreement) view) (ap (λ (x : ConnFields). x.bound) view) (ap (λ (x : ConnFields). x.joining) view) (ap (λ (n : ℕ). nat_eq n p.call_id) c.requires.3))

pub returns-in-Err-Memory-clause-steps : goal.returns-in-Err-Memory-clause-steps
returns-in-Err-Memory-clause-steps c m at = may_off c.args.self.now m c.requires.0 c.requires.1 at c.requires.2
