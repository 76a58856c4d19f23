use Rattle.std.proofs.Common.{refl, sym, subst}
use Rattle.mpx_conn.specs.Fields.{MpxFields}
use Rattle.mpx_conn.specs.Steps.{IsFreeAmong}
use Rattle.mpx_conn.proofs.Hearing.{heard_none, heard_act}
use Rattle.mpx_conn.proofs.conn.MpxConn.hear.Goals as goal

pub returns-in-None-clause-heard : goal.returns-in-None-clause-heard
returns-in-None-clause-heard c m h =
    let s = c.self.inside in
    let free = subst (λ (x : MpxFields). IsFreeAmong x m) (sym c.self.view_is) h in
    let t : MpxFields = record { conn = record { fed = s.feed; bound = s.bound; joining = s.joiner; served = s.contexts; waits = s.waits; agreement = s.agreement }; many = s.many; out = s.out } in
    let u : MpxFields = record { conn = record { fed = s.feed; bound = c.is_bound-self-inside.result; joining = c.ask.new.joiner; served = s.contexts; waits = s.waits; agreement = s.agreement }; many = c.is_many-self-inside.result; out = s.out } in
    let found = rw c.named-named.ensures at (rw c.in-None.is at c.in_ok-asked.ensures.found) in
    heard_none t u m c.args.pdu free found c.is_bound-self-inside.ensures c.is_many-self-inside.ensures refl free.conn.waits refl

pub returns-clause-heard : goal.returns-clause-heard
returns-clause-heard c m h =
    let s = c.self.inside in
    let free = subst (λ (x : MpxFields). IsFreeAmong x m) (sym c.self.view_is) h in
    let t : MpxFields = record { conn = record { fed = s.feed; bound = s.bound; joining = s.joiner; served = s.contexts; waits = s.waits; agreement = s.agreement }; many = s.many; out = s.out } in
    let u : MpxFields = record { conn = record { fed = s.feed; bound = c.is_bound-self-inside.result; joining = c.ask.new.joiner; served = c.act.new.contexts; waits = c.in_ok-act.waits; agreement = s.agreement }; many = c.is_many-self-inside.result; out = c.act.new.out } in
    let found = rw c.named-named.ensures at (rw c.in-Some.is at c.in_ok-asked.ensures.found) in
    heard_act t u m c.args.pdu c.in-Some.asked c.in_ok-act.act c.in_ok-act.waits free found c.is_bound-self-inside.ensures c.is_many-self-inside.ensures c.in_ok-act.ensures.acts c.in_ok-act.ensures.can refl
