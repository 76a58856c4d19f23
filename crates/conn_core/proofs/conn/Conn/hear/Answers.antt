use Rattle.std.proofs.Common.{refl, sym, subst}
use Rattle.conn_core.specs.Fields.{ConnFields}
use Rattle.conn_core.specs.Steps.{IsFree}
use Rattle.conn_core.proofs.Hearing.{heard_none, heard_act, heard_idle}
use Rattle.conn_core.proofs.Waiting.{does_waits}
use Rattle.conn_core.proofs.conn.Conn.hear.Goals as goal

pub returns-in-None-clause-heard : goal.returns-in-None-clause-heard
returns-in-None-clause-heard c m h =
    let s = c.self.inside in
    let free = subst (λ (x : ConnFields). IsFree x m) (sym c.self.view_is) h in
    let t : ConnFields = record { fed = s.feed; bound = s.bound; joining = s.joiner; served = s.contexts; waits = s.waits; agreement = s.agreement } in
    let u : ConnFields = record { fed = s.feed; bound = c.is_bound-self-inside.result; joining = c.ask.new.joiner; served = s.contexts; waits = s.waits; agreement = s.agreement } in
    heard_none t u m c.args.pdu free (rw c.in-None.is at c.in_ok-asked.ensures.found) c.is_bound-self-inside.ensures refl free.waits

pub invariant_of-self-in-Some-2 : goal.invariant_of-self-in-Some-2
invariant_of-self-in-Some-2 c = (c.self.invariant.0, c.self.invariant.1, rw c.in-Some-2.is at c.in_ok-act.ensures.can)

pub returns-in-Some-2-clause-heard : goal.returns-in-Some-2-clause-heard
returns-in-Some-2-clause-heard c m h =
    let s = c.self.inside in
    let free = subst (λ (x : ConnFields). IsFree x m) (sym c.self.view_is) h in
    let t : ConnFields = record { fed = s.feed; bound = s.bound; joining = s.joiner; served = s.contexts; waits = s.waits; agreement = s.agreement } in
    let u : ConnFields = record { fed = s.feed; bound = c.is_bound-self-inside.result; joining = c.ask.new.joiner; served = c.act.new.contexts; waits = c.in-Some-2.waits; agreement = s.agreement } in
    heard_act t u m c.args.pdu c.in-Some.asked c.in-Some-2.act c.in-Some-2.waits free (rw c.in-Some.is at c.in_ok-asked.ensures.found) c.is_bound-self-inside.ensures
    (rw c.in-Some-2.is at c.in_ok-act.ensures.acts) refl

pub returns-in-None-2-clause-heard : goal.returns-in-None-2-clause-heard
returns-in-None-2-clause-heard c m h =
    let s = c.self.inside in
    let free = subst (λ (x : ConnFields). IsFree x m) (sym c.self.view_is) h in
    let t : ConnFields = record { fed = s.feed; bound = s.bound; joining = s.joiner; served = s.contexts; waits = s.waits; agreement = s.agreement } in
    let u : ConnFields = record { fed = s.feed; bound = c.is_bound-self-inside.result; joining = c.ask.new.joiner; served = c.act.new.contexts; waits = s.waits; agreement = s.agreement } in
    heard_idle t u m c.args.pdu c.in-Some.asked free (rw c.in-Some.is at c.in_ok-asked.ensures.found) c.is_bound-self-inside.ensures
    (rw c.in-None-2.is at c.in_ok-act.ensures.acts) free.waits

pub returns-in-Some-2-clause-waits : goal.returns-in-Some-2-clause-waits
returns-in-Some-2-clause-waits c =
    let done = rw c.in-Some-2.is at c.in_ok-act.ensures.acts in
    does_waits _ _ _ c.in-Some.asked c.in-Some-2.act c.in-Some-2.waits done.0
