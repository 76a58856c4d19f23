-- Steps one after the other.
use Rattle.std.proofs.Common.{◌≡◌, ℕ, ◌<◌, List, [], ◌∷◌, ◌++◌, Bool, Option, Some, None, Result, Ok, Err, inl, inr, refl, sym, ap, subst, ◌∙◌}
use Rattle.rpc_base.specs.declared.fault.NoMemory.{NoMemory}
use Rattle.pdu_codec.specs.declared.pdu.Pdu.{Pdu}
use Rattle.pdu_codec.specs.declared.fault.PduFault.{PduFault}
use Rattle.pdu_stream.specs.Cuts.{IsNext, IsPartial, IsStop}
use Rattle.conn_asks.specs.declared.events.Act.{Act}
use Rattle.conn_asks.specs.declared.events.Waits.{Waits}
use Rattle.conn_asks.specs.declared.events.Waits.TheVariants.{Nothing, Group, Call, Over, Failed}
use Rattle.conn_asks.specs.States.{MayCome, TakesPdu, IsStuck, MayFail}
use Rattle.conn_core.specs.Steps.{Passes, behind}
use Rattle.conn_core.proofs.Passing.{passes_none, is_free, may_free, fails}
use Rattle.conn_core.proofs.Turns.{same_keeps, same_knows}
use Rattle.mpx_asks.specs.Among.{MpxState, is_many, SkipsAmong, SkipsAllAmong, GoesAmong}
use Rattle.mpx_conn.specs.declared.next.Step.{Step}
use Rattle.mpx_conn.specs.declared.next.Step.TheVariants.{Stuck, Skipped, Acted}
use Rattle.mpx_conn.specs.Fields.{MpxFields, KnowsMany, IsAmong}
use Rattle.mpx_conn.specs.Steps.{Shortens, StepsFrom, GoesFrom, IsFreeAmong, HearsAt, Stops}

-- ---- what was skipped

skips_then : (m : MpxState) (ps : List Pdu) (n : MpxState) (p : Pdu) (o : MpxState) → SkipsAllAmong m ps n → SkipsAmong n p o → SkipsAllAmong m (ps ++ p ∷ []) o
skips_then m [] n p o e s = (o, subst (λ (x : MpxState). SkipsAmong x p o) e s, refl)
skips_then m (q ∷ qs) n p o all s = (all.0, all.1, skips_then all.0 qs n p o all.2 s)

-- a state with the skipped PDUs, and what the next step then does
abbrev pub SkipsTo : MpxState → MpxFields → Type 0
SkipsTo m t = (skipped : List Pdu) × (n : MpxState) × SkipsAllAmong m skipped n × IsAmong t n

pub skip_more : (m : MpxState) (t u : MpxFields) → SkipsTo m t → ((n : MpxState) → IsAmong t n → StepsFrom n (Ok Skipped) u) → SkipsTo m u
skip_more m t u so_far step =
    let s = step so_far.1 so_far.3 in
    (so_far.0 ++ s.0 ∷ [], s.1, skips_then m so_far.0 so_far.1 s.0 s.1 so_far.2 s.2, s.3)

same_waits : (m : MpxState) (ps : List Pdu) (n : MpxState) → SkipsAllAmong m ps n → n.conn.waits ≡ m.conn.waits
same_waits m [] n e = ap (λ (x : MpxState). x.conn.waits) e
same_waits m (p ∷ ps) n all = same_waits all.0 ps n all.2 ∙ all.1.waits

pub goes_fail : (m : MpxState) (t u : MpxFields) (e : NoMemory) → SkipsTo m t → ((n : MpxState) → IsAmong t n → StepsFrom n (Err e) u) → GoesFrom m (Err e) u
goes_fail m t u e so_far step =
    subst (λ (x : Waits). MayFail x) (same_waits m so_far.0 so_far.1 so_far.2) (step so_far.1 so_far.3)

pub goes_stuck : (m : MpxState) (t u : MpxFields) → SkipsTo m t → ((n : MpxState) → IsAmong t n → StepsFrom n (Ok Stuck) u) → GoesFrom m (Ok None) u
goes_stuck m t u so_far step =
    let s = step so_far.1 so_far.3 in
    (so_far.0, so_far.1, so_far.2, s.1, s.0)

pub goes_act : (m : MpxState) (t u : MpxFields) (act : Act) → SkipsTo m t → ((n : MpxState) → IsAmong t n → StepsFrom n (Ok (Acted act)) u) → GoesFrom m (Ok (Some act)) u
goes_act m t u act so_far step =
    let s = step so_far.1 so_far.3 in
    (so_far.0, so_far.1, s.0, so_far.2, s.1, s.2)

pub goes : (m : MpxState) (act : Option Act) (t : MpxFields) → GoesFrom m (Ok act) t → (n : MpxState) × GoesAmong m (Ok act) n × IsAmong t n
goes m None t h = (h.1, (h.0, h.2, h.3), h.4)
goes m (Some act) t h = (h.2, (h.0, h.1, h.3, h.4), h.5)

pub failed : (old new : MpxFields) (m : MpxState) (e : NoMemory) → IsAmong old m → Passes old.conn new.conn → MayFail m.conn.waits
    → (n : MpxState) × GoesAmong m (Err e) n × IsAmong (record new { conn = record new.conn { waits = Failed } }) n
failed old new m e at passes may =
    let f = fails old.conn new.conn m.conn e at.conn passes may in (
      record { conn = f.0; out = new.out },
      f.1,
      record { conn = f.2; many = subst (λ (x : Waits). KnowsMany x new.many f.0.past) (sym f.1.waits) tt; out = refl },
    )

-- ---- the same state, whatever octets are still to be read

known_many : (w : Waits) (many : Bool) (past : List Pdu) → many ≡ is_many past → KnowsMany w many past
known_many Nothing many past h = h
known_many (Group c ack) many past h = h
known_many (Call c maybe) many past h = h
known_many Over many past h = tt
known_many Failed many past h = tt

many_at : (t : MpxFields) (m : MpxState) → IsAmong t m → t.conn.waits ≡ Nothing → t.many ≡ is_many m.conn.past
many_at t m at free = subst (λ (x : Waits). KnowsMany x t.many m.conn.past) (sym at.conn.waits ∙ free) at.many

pub same_among : (t u : MpxFields) (m : MpxState) → IsAmong t m → u.conn.fed.rest ≡ t.conn.fed.rest → u.conn.served ≡ t.conn.served → u.conn.waits ≡ t.conn.waits → u.conn.agreement ≡ t.conn.agreement
    → u.conn.bound ≡ t.conn.bound → u.conn.joining ≡ t.conn.joining → u.many ≡ t.many → u.out ≡ t.out → IsAmong u m
same_among t u m at rest served waits agreement bound joining many out = record {
  conn = record {
    ids = rw served at.conn.ids;
    rest = rest ∙ at.conn.rest;
    waits = waits ∙ at.conn.waits;
    agreement = agreement ∙ at.conn.agreement;
    knows = same_knows m.conn.waits t.conn u.conn m.conn m.conn bound joining served refl refl at.conn.knows;
  };
  many = subst (λ (b : Bool). KnowsMany m.conn.waits b m.conn.past) (sym many) at.many;
  out = out ∙ at.out;
}

pub free_among : (t u : MpxFields) (m : MpxState) → IsAmong t m → t.conn.waits ≡ Nothing → u.conn.served ≡ t.conn.served → u.conn.waits ≡ t.conn.waits → u.conn.agreement ≡ t.conn.agreement
    → u.conn.bound ≡ t.conn.bound → u.conn.joining ≡ t.conn.joining → u.many ≡ t.many → u.out ≡ t.out → IsFreeAmong u m
free_among t u m at free served waits agreement bound joining many out = record {
  conn = is_free t.conn u.conn m.conn at.conn free served waits agreement bound joining;
  many = many ∙ many_at t m at free;
  out = out ∙ at.out;
}

-- ---- a step while PDUs are taken

pub stuck_free : (t u : MpxFields) (m : MpxState) → IsAmong t m → t.conn.waits ≡ Nothing → IsAmong u m → IsPartial t.conn.fed.rest → StepsFrom m (Ok Stuck) u
stuck_free t u m at free here part =
    let rest : IsPartial m.conn.rest = subst (λ (x : List ℕ). IsPartial x) at.conn.rest part in
    (here, subst (λ (x : Waits). IsStuck x m.conn.rest) (sym (sym at.conn.waits ∙ free)) rest)

pub stuck_else : (t : MpxFields) (m : MpxState) (w : Waits) → IsAmong t m → t.conn.waits ≡ w → ((rest : List ℕ) → IsStuck w rest) → StepsFrom m (Ok Stuck) t
stuck_else t m w at is stuck = (at, subst (λ (x : Waits). IsStuck x m.conn.rest) (sym (sym at.conn.waits ∙ is)) (stuck m.conn.rest))

takes_at : (t : MpxFields) (m : MpxState) (p : Pdu) (others : List ℕ) (w : Waits) → IsAmong t m → m.conn.waits ≡ Nothing → IsNext t.conn.fed.rest p others
    → TakesPdu m.conn p (record m.conn { past = p ∷ m.conn.past; rest = others; waits = w })
takes_at t m p others w at free next = record {
  may = subst (λ (x : Waits). MayCome x p.body) (sym free) tt;
  next = subst (λ (x : List ℕ). IsNext x p others) at.conn.rest next;
  past = refl;
  ids = refl;
  agreement = refl;
}

pub stepped : (t u : MpxFields) (m : MpxState) (p : Pdu) (r : Result Step NoMemory) → IsAmong t m → t.conn.waits ≡ Nothing → IsNext t.conn.fed.rest p u.conn.fed.rest
    → u.conn.served.ids ≡ t.conn.served.ids → u.conn.agreement ≡ t.conn.agreement → HearsAt m p r u → StepsFrom m r u
stepped t u m p (Err e) at free next ids agreement h = may_free t.conn m.conn at.conn free
stepped t u m p (Ok Stuck) at free next ids agreement h = absurd h
stepped t u m p (Ok Skipped) at free next ids agreement h =
    let w : m.conn.waits ≡ Nothing = sym at.conn.waits ∙ free in
    let n : MpxState = record { conn = record m.conn { past = p ∷ m.conn.past; rest = u.conn.fed.rest; waits = Nothing }; out = m.out } in (
      p,
      n,
      record { takes = takes_at t m p u.conn.fed.rest Nothing at w next; asks = h.0; waits = sym w; out = refl },
      record {
        conn = record {
          ids = ids ∙ at.conn.ids;
          rest = refl;
          waits = h.1;
          agreement = agreement ∙ at.conn.agreement;
          knows = same_keeps u.conn u.conn (behind m.conn p Nothing) n.conn refl refl refl refl refl h.2;
        };
        many = h.3;
        out = h.4;
      },
    )
stepped t u m p (Ok (Acted act)) at free next ids agreement h =
    let w : m.conn.waits ≡ Nothing = sym at.conn.waits ∙ free in
    let n : MpxState = record { conn = record m.conn { past = p ∷ m.conn.past; rest = u.conn.fed.rest; waits = u.conn.waits }; out = u.out } in (
      n,
      inl (p, record { takes = takes_at t m p u.conn.fed.rest u.conn.waits at w next; ask = h.0; asks = h.1; does = h.2 }),
      record {
        conn = record {
          ids = ids ∙ at.conn.ids;
          rest = refl;
          waits = refl;
          agreement = agreement ∙ at.conn.agreement;
          knows = same_knows u.conn.waits u.conn u.conn (behind m.conn p u.conn.waits) n.conn refl refl refl refl refl h.3;
        };
        many = known_many u.conn.waits u.many (p ∷ m.conn.past) h.4;
        out = refl;
      },
    )

pub hear_shorter : (old new : ℕ) (r : Result Step NoMemory) → new < old → Shortens r old new
hear_shorter old new (Err e) lt = tt
hear_shorter old new (Ok Stuck) lt = tt
hear_shorter old new (Ok Skipped) lt = lt
hear_shorter old new (Ok (Acted act)) lt = tt

-- ---- octets that are no PDU

pub stopped : (t v u : MpxFields) (m : MpxState) (f : PduFault) (r : Result Step NoMemory) → IsAmong t m → t.conn.waits ≡ Nothing → v.conn.fed.rest ≡ t.conn.fed.rest → v.conn.served ≡ t.conn.served
    → v.conn.agreement ≡ t.conn.agreement → v.out ≡ t.out → Stops v.conn.fed.rest f r v u → StepsFrom m r u
stopped t v u m f (Err e) at free rest served agreement out h = may_free t.conn m.conn at.conn free
stopped t v u m f (Ok Stuck) at free rest served agreement out h = absurd h
stopped t v u m f (Ok Skipped) at free rest served agreement out h = absurd h
stopped t v u m f (Ok (Acted act)) at free rest served agreement out h =
    let here : v.conn.fed.rest ≡ m.conn.rest = rest ∙ at.conn.rest in
    let n : MpxState = record m { conn = record m.conn { waits = Over } } in
    let u_is : IsAmong (record v { conn = record v.conn { waits = Over } }) n =
    record { conn = record { ids = rw served at.conn.ids; rest = here; waits = refl; agreement = agreement ∙ at.conn.agreement; knows = tt }; many = tt; out = out ∙ at.out } in (
      n,
      inr (f, record { stops = record { free = sym at.conn.waits ∙ free; stops = subst (λ (x : List ℕ). IsStop x f) here h.0; act_is = rw (sym here) h.1; after = refl }; out = refl }),
      subst (λ (x : MpxFields). IsAmong x n) (sym h.2) u_is,
    )

pub stop_passes : (t v u : MpxFields) (f : PduFault) (r : Result Step NoMemory) → v.conn.fed.rest ≡ t.conn.fed.rest → v.conn.served ≡ t.conn.served → v.conn.agreement ≡ t.conn.agreement
    → Stops v.conn.fed.rest f r v u → Passes t.conn u.conn
stop_passes t v u f (Err e) rest served agreement h = rw h (passes_none t.conn v.conn rest (rw served refl) agreement)
stop_passes t v u f (Ok Stuck) rest served agreement h = absurd h
stop_passes t v u f (Ok Skipped) rest served agreement h = absurd h
stop_passes t v u f (Ok (Acted act)) rest served agreement h = rw h.2 (passes_none t.conn (record v.conn { waits = Over }) rest (rw served refl) agreement)

pub stop_shorter : (rest : List ℕ) (f : PduFault) (r : Result Step NoMemory) (v u : MpxFields) (old new : ℕ) → Stops rest f r v u → Shortens r old new
stop_shorter rest f (Err e) v u old new h = tt
stop_shorter rest f (Ok Stuck) v u old new h = absurd h
stop_shorter rest f (Ok Skipped) v u old new h = absurd h
stop_shorter rest f (Ok (Acted act)) v u old new h = tt
