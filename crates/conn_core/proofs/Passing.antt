-- PDUs that were taken, and steps one after the other.
use Rattle.std.proofs.Common.{◌≡◌, ℕ, ◌<◌, List, [], ◌∷◌, ◌++◌, reverse, Bool, Option, Some, None, Result, Ok, Err, inl, inr, refl, sym, ap, subst, ◌∙◌, append_assoc}
use Rattle.std.proofs.lemmas.List.{append-nil}
use Rattle.rpc_base.specs.declared.fault.NoMemory.{NoMemory}
use Rattle.pdu_codec.specs.declared.pdu.Pdu.{Pdu}
use Rattle.pdu_codec.specs.declared.fault.PduFault.{PduFault}
use Rattle.pdu_stream.specs.Cuts.{Fed, IsNext, IsStop, GivesNext}
use Rattle.pdu_stream.proofs.CutLaws.{spelled_append}
use Rattle.conn_asks.specs.declared.events.Caller.{Caller}
use Rattle.conn_asks.specs.declared.events.Act.{Act}
use Rattle.conn_asks.specs.declared.events.Waits.{Waits}
use Rattle.conn_asks.specs.declared.events.Waits.TheVariants.{Nothing, Call, Over, Failed}
use Rattle.conn_asks.specs.States.{ConnState, MayCome, IsIdle, TakesPdu, Skips, SkipsAll, Goes, MayFail}
use Rattle.conn_core.specs.Fields.{ConnFields, KeepsState, Knows, IsAt}
use Rattle.conn_core.specs.Steps.{Passes, Shortens, StepsFrom, GoesFrom, IsFree, HearsAt, Stops, behind}
use Rattle.conn_core.specs.declared.next.Step.{Step}
use Rattle.conn_core.specs.declared.next.Step.TheVariants.{Stuck, Skipped, Acted}
use Rattle.conn_core.proofs.Turns.{same_keeps, same_knows}

-- ---- what was taken

pub passes_none : (old new : ConnFields) → new.fed.rest ≡ old.fed.rest → new.served.ids ≡ old.served.ids → new.agreement ≡ old.agreement → Passes old new
passes_none old new rest ids agreement = record { pdus = []; front = []; spelled = refl; rest = sym rest; ids = ids; agreement = agreement }

pub passes_one : (old new : ConnFields) (p : Pdu) → IsNext old.fed.rest p new.fed.rest → new.served.ids ≡ old.served.ids → new.agreement ≡ old.agreement → Passes old new
passes_one old new p next ids agreement = record {
  pdus = p ∷ [];
  front = next.0;
  spelled = (next.0, [], sym (append-nil next.0), next.1, refl);
  rest = next.2;
  ids = ids;
  agreement = agreement;
}

pub passes_then : (a b c : ConnFields) → Passes a b → Passes b c → Passes a c
passes_then a b c x y = record {
  pdus = x.pdus ++ y.pdus;
  front = x.front ++ y.front;
  spelled = spelled_append x.pdus y.pdus x.front y.front x.spelled y.spelled;
  rest = x.rest ∙ (ap (λ (t : List ℕ). x.front ++ t) y.rest ∙ sym (append_assoc x.front y.front c.fed.rest));
  ids = y.ids ∙ x.ids;
  agreement = y.agreement ∙ x.agreement;
}

-- ---- what was skipped

pub skips_then : (m : ConnState) (ps : List Pdu) (n : ConnState) (p : Pdu) (o : ConnState) → SkipsAll m ps n → Skips n p o → SkipsAll m (ps ++ p ∷ []) o
skips_then m [] n p o e s = (o, subst (λ (x : ConnState). Skips x p o) e s, refl)
skips_then m (q ∷ qs) n p o all s = (all.0, all.1, skips_then all.0 qs n p o all.2 s)

-- a state with the skipped PDUs, and what the next step then does
abbrev pub SkipsTo : ConnState → ConnFields → Type 0
SkipsTo m t = (skipped : List Pdu) × (n : ConnState) × SkipsAll m skipped n × IsAt t n

pub skip_more : (m : ConnState) (t u : ConnFields) → SkipsTo m t → ((n : ConnState) → IsAt t n → StepsFrom n (Ok Skipped) u) → SkipsTo m u
skip_more m t u so_far step =
    let s = step so_far.1 so_far.3 in
    (so_far.0 ++ s.0 ∷ [], s.1, skips_then m so_far.0 so_far.1 s.0 s.1 so_far.2 s.2, s.3)

same_waits : (m : ConnState) (ps : List Pdu) (n : ConnState) → SkipsAll m ps n → n.waits ≡ m.waits
same_waits m [] n e = ap (λ (x : ConnState). x.waits) e
same_waits m (p ∷ ps) n all = same_waits all.0 ps n all.2 ∙ all.1.waits

pub goes_fail : (m : ConnState) (t u : ConnFields) (e : NoMemory) → SkipsTo m t → ((n : ConnState) → IsAt t n → StepsFrom n (Err e) u) → GoesFrom m (Err e) u
goes_fail m t u e so_far step =
    subst (λ (x : Waits). MayFail x) (same_waits m so_far.0 so_far.1 so_far.2) (step so_far.1 so_far.3)

pub goes_stuck : (m : ConnState) (t u : ConnFields) → SkipsTo m t → ((n : ConnState) → IsAt t n → StepsFrom n (Ok Stuck) u) → GoesFrom m (Ok None) u
goes_stuck m t u so_far step =
    let s = step so_far.1 so_far.3 in
    (so_far.0, so_far.1, so_far.2, s.1, s.0)

pub goes_act : (m : ConnState) (t u : ConnFields) (act : Act) → SkipsTo m t → ((n : ConnState) → IsAt t n → StepsFrom n (Ok (Acted act)) u) → GoesFrom m (Ok (Some act)) u
goes_act m t u act so_far step =
    let s = step so_far.1 so_far.3 in
    (so_far.0, so_far.1, s.0, so_far.2, s.1, s.2)

pub goes : (m : ConnState) (act : Option Act) (t : ConnFields) → GoesFrom m (Ok act) t → (n : ConnState) × Goes m (Ok act) n × IsAt t n
goes m None t h = (h.1, (h.0, h.2, h.3), h.4)
goes m (Some act) t h = (h.2, (h.0, h.1, h.3, h.4), h.5)

pub fails : (old new : ConnFields) (m : ConnState) (e : NoMemory) → IsAt old m → Passes old new → MayFail m.waits → (n : ConnState) × Goes m (Err e) n × IsAt (record new { waits = Failed }) n
fails old new m e at passes may =
    let n : ConnState = record m { past = reverse passes.pdus ++ m.past; rest = new.fed.rest; waits = Failed } in (
      n,
      record {
        may = may;
        pdus = passes.pdus;
        front = passes.front;
        spelled = passes.spelled;
        rest = sym at.rest ∙ passes.rest;
        past = refl;
        ids = refl;
        agreement = refl;
        waits = refl;
      },
      record { ids = passes.ids ∙ at.ids; rest = refl; waits = refl; agreement = passes.agreement ∙ at.agreement; knows = tt },
    )

-- ---- a step while nothing is waited for

free_at : (t : ConnFields) (m : ConnState) → IsAt t m → t.waits ≡ Nothing → m.waits ≡ Nothing
free_at t m at free = sym at.waits ∙ free

pub may_free : (t : ConnFields) (m : ConnState) → IsAt t m → t.waits ≡ Nothing → MayFail m.waits
may_free t m at free = subst (λ (x : Waits). MayFail x) (sym (free_at t m at free)) tt

pub may_off : (t : ConnFields) (m : ConnState) (c : Caller) (maybe : Bool) → IsAt t m → t.waits ≡ Call c maybe → MayFail m.waits
may_off t m c maybe at is = subst (λ (x : Waits). MayFail x) (sym (sym at.waits ∙ is)) tt

pub may_failed : (t : ConnFields) (m : ConnState) → IsAt t m → t.waits ≡ Failed → MayFail m.waits
may_failed t m at is = subst (λ (x : Waits). MayFail x) (sym (sym at.waits ∙ is)) tt

keeps_at : (t : ConnFields) (m : ConnState) → IsAt t m → t.waits ≡ Nothing → KeepsState t m
keeps_at t m at free = subst (λ (x : Waits). Knows x t m) (free_at t m at free) at.knows

-- the octets aside, a connection in a state
pub is_free : (t u : ConnFields) (m : ConnState) → IsAt t m → t.waits ≡ Nothing → u.served ≡ t.served → u.waits ≡ t.waits → u.agreement ≡ t.agreement → u.bound ≡ t.bound → u.joining ≡ t.joining → IsFree u m
is_free t u m at free served waits agreement bound joining = record {
  ids = rw served at.ids;
  waits = waits ∙ free;
  free = free_at t m at free;
  agreement = agreement ∙ at.agreement;
  keeps = same_keeps t u m m bound joining served refl refl (keeps_at t m at free);
}

takes_at : (t : ConnFields) (m : ConnState) (p : Pdu) (others : List ℕ) (w : Waits) → IsAt t m → m.waits ≡ Nothing → IsNext t.fed.rest p others
    → TakesPdu m p (record m { past = p ∷ m.past; rest = others; waits = w })
takes_at t m p others w at free next = record {
  may = subst (λ (x : Waits). MayCome x p.body) (sym free) tt;
  next = subst (λ (x : List ℕ). IsNext x p others) at.rest next;
  past = refl;
  ids = refl;
  agreement = refl;
}

pub stepped : (t u : ConnFields) (m : ConnState) (p : Pdu) (r : Result Step NoMemory) → IsAt t m → t.waits ≡ Nothing → IsNext t.fed.rest p u.fed.rest → u.served.ids ≡ t.served.ids → u.agreement ≡ t.agreement
    → HearsAt m p r u → StepsFrom m r u
stepped t u m p (Err e) at free next ids agreement h = may_free t m at free
stepped t u m p (Ok Stuck) at free next ids agreement h = absurd h
stepped t u m p (Ok Skipped) at free next ids agreement h =
    let w = free_at t m at free in
    let n : ConnState = record m { past = p ∷ m.past; rest = u.fed.rest; waits = Nothing } in (
      p,
      n,
      record { takes = takes_at t m p u.fed.rest Nothing at w next; ask = h.0; asks = h.1; idle = subst (λ (x : Waits). IsIdle x h.0) (sym w) h.2; waits = sym w },
      record { ids = ids ∙ at.ids; rest = refl; waits = h.3; agreement = agreement ∙ at.agreement; knows = same_keeps u u (behind m p Nothing) n refl refl refl refl refl h.4 },
    )
stepped t u m p (Ok (Acted act)) at free next ids agreement h =
    let w = free_at t m at free in
    let n : ConnState = record m { past = p ∷ m.past; rest = u.fed.rest; waits = u.waits } in (
      n,
      inl (p, record { takes = takes_at t m p u.fed.rest u.waits at w next; ask = h.0; asks = h.1; does = h.2 }),
      record { ids = ids ∙ at.ids; rest = refl; waits = refl; agreement = agreement ∙ at.agreement; knows = same_knows u.waits u u (behind m p u.waits) n refl refl refl refl refl h.3 },
    )

pub hear_shorter : (old new : ℕ) (r : Result Step NoMemory) → new < old → Shortens r old new
hear_shorter old new (Err e) lt = tt
hear_shorter old new (Ok Stuck) lt = tt
hear_shorter old new (Ok Skipped) lt = lt
hear_shorter old new (Ok (Acted act)) lt = tt

-- the PDU that was given
pub next_of : (t u : ConnFields) (old new : Fed) (r : Result (Option Pdu) PduFault) (o : Option Pdu) (p : Pdu) → t.fed ≡ old → u.fed ≡ new → r ≡ Ok o → o ≡ Some p → GivesNext old r new → IsNext t.fed.rest p u.fed.rest
next_of t u old new r o p is is' r_is o_is h =
    let g : GivesNext old (Ok o) new = subst (λ (x : Result (Option Pdu) PduFault). GivesNext old x new) r_is h in
    let s : GivesNext old (Ok (Some p)) new = subst (λ (x : Option Pdu). GivesNext old (Ok x) new) o_is g in
    rw (is, is') s.1

-- ---- octets that are no PDU

pub stopped : (t v u : ConnFields) (m : ConnState) (f : PduFault) (r : Result Step NoMemory) → IsAt t m → t.waits ≡ Nothing → v.fed.rest ≡ t.fed.rest → v.served ≡ t.served → v.agreement ≡ t.agreement
    → Stops v.fed.rest f r v u → StepsFrom m r u
stopped t v u m f (Err e) at free rest served agreement h = may_free t m at free
stopped t v u m f (Ok Stuck) at free rest served agreement h = absurd h
stopped t v u m f (Ok Skipped) at free rest served agreement h = absurd h
stopped t v u m f (Ok (Acted act)) at free rest served agreement h =
    let here : v.fed.rest ≡ m.rest = rest ∙ at.rest in
    let n : ConnState = record m { waits = Over } in (
      n,
      inr (f, record { free = free_at t m at free; stops = subst (λ (x : List ℕ). IsStop x f) here h.0; act_is = rw (sym here) h.1; after = refl }),
      rw h.2 (record { ids = rw served at.ids; rest = here; waits = refl; agreement = agreement ∙ at.agreement; knows = tt }),
    )

pub stop_passes : (t v u : ConnFields) (f : PduFault) (r : Result Step NoMemory) → v.fed.rest ≡ t.fed.rest → v.served ≡ t.served → v.agreement ≡ t.agreement → Stops v.fed.rest f r v u → Passes t u
stop_passes t v u f (Err e) rest served agreement h = rw h (passes_none t v rest (rw served refl) agreement)
stop_passes t v u f (Ok Stuck) rest served agreement h = absurd h
stop_passes t v u f (Ok Skipped) rest served agreement h = absurd h
stop_passes t v u f (Ok (Acted act)) rest served agreement h = rw h.2 (passes_none t (record v { waits = Over }) rest (rw served refl) agreement)

pub stop_shorter : (rest : List ℕ) (f : PduFault) (r : Result Step NoMemory) (v u : ConnFields) (old new : ℕ) → Stops rest f r v u → Shortens r old new
stop_shorter rest f (Err e) v u old new h = tt
stop_shorter rest f (Ok Stuck) v u old new h = absurd h
stop_shorter rest f (Ok Skipped) v u old new h = absurd h
stop_shorter rest f (Ok (Acted act)) v u old new h = tt
