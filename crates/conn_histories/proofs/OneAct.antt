-- A state has one next act.
use Rattle.std.proofs.Common.{◌≡◌, ℕ, inl, inr, List, [], ◌∷◌, Option, Some, None, Ok, refl, sym, ap, subst, ◌∙◌}
use Rattle.rpc_base.specs.declared.identifiers.SyntaxId.{SyntaxId}
use Rattle.pdu_codec.specs.declared.pdu.Pdu.{Pdu}
use Rattle.pdu_codec.specs.declared.fault.PduFault.{PduFault}
use Rattle.pdu_codec.specs.Pdus.{pdu_octets}
use Rattle.pdu_stream.specs.Cuts.{IsNext, IsStop, IsPartial}
use Rattle.pdu_stream.proofs.CutLaws.{one_next, not_remains, one_remains}
use Rattle.presentation.specs.declared.verdict.Accepted.{Accepted}
use Rattle.conn_asks.specs.declared.events.Agreement.{Agreement}
use Rattle.conn_asks.specs.declared.events.Ask.{Ask}
use Rattle.conn_asks.specs.declared.events.Ask.TheVariants as asks
use Rattle.conn_asks.specs.declared.events.Act.{Act}
use Rattle.conn_asks.specs.declared.events.Act.TheVariants as acts
use Rattle.conn_asks.specs.declared.events.Waits.{Waits}
use Rattle.conn_asks.specs.declared.events.Waits.TheVariants.{Nothing, Group, Call, Over, Failed}
use Rattle.conn_asks.specs.Asks.{Asks, caller_at, broken_by}
use Rattle.conn_asks.specs.Answers.{closing}
use Rattle.conn_asks.specs.States.{ConnState, accepted, DoesWith, is_calling_off, MayCome, TakesPdu, IsIdle, Skips, SkipsAll, ActsAt, StopsAt, Acts, IsStuck, Goes}
use Rattle.conn_histories.proofs.OneAsk.{true_false, one_ask, one_does}

pub same_state : (n k : ConnState) → n.ids ≡ k.ids → n.past ≡ k.past → n.rest ≡ k.rest → n.waits ≡ k.waits → n.agreement ≡ k.agreement → n ≡ k
same_state n k ids past rest waits agreement = λ i. record { ids = ids i; past = past i; rest = rest i; waits = waits i; agreement = agreement i }

-- ---- a PDU is taken

pub one_taken : (m n k : ConnState) (p q : Pdu) → TakesPdu m p n → TakesPdu m q k → (p ≡ q) × (n.rest ≡ k.rest)
one_taken m n k p q t u = one_next p q t.next.0 u.next.0 n.rest k.rest t.next.1 u.next.1 (sym t.next.2 ∙ u.next.2)

pub taken_alike : (m n k : ConnState) (p q : Pdu) → TakesPdu m p n → TakesPdu m q k → n.waits ≡ k.waits → n ≡ k
taken_alike m n k p q t u waits =
    let one = one_taken m n k p q t u in
    same_state n k (t.ids ∙ sym u.ids) (t.past ∙ ap (λ (x : Pdu). x ∷ m.past) one.0 ∙ sym u.past) one.1 waits (t.agreement ∙ sym u.agreement)

-- no fault stands where a PDU does
pub taken_sound : (m n : ConnState) (p : Pdu) (fault : PduFault) → TakesPdu m p n → IsStop m.rest fault → ⊥
taken_sound m n p fault t stops = not_remains p t.next.0 n.rest (Some fault) t.next.1 (subst (λ (r : List ℕ). IsStop r fault) t.next.2 stops)

stuck_by : (w : Waits) (p : Pdu) (rest others : List ℕ) → MayCome w p.body → IsNext rest p others → IsStuck w rest → ⊥
stuck_by Nothing p rest others may next stuck = not_remains p next.0 others None next.1 (subst IsPartial next.2 stuck)
stuck_by (Group c ack) p rest others may next stuck = may
stuck_by (Call c maybe) p rest others may next stuck = true_false (is_calling_off p.body) may (stuck p others next)
stuck_by Over p rest others may next stuck = may
stuck_by Failed p rest others may next stuck = may

pub stuck_takes : (m n : ConnState) (p : Pdu) → TakesPdu m p n → IsStuck m.waits m.rest → ⊥
stuck_takes m n p t stuck = stuck_by m.waits p m.rest n.rest t.may t.next stuck

-- ---- what is skipped isn't done

idle_by : (ids : List SyntaxId) (a : List Accepted) (agreement : Agreement) (old : Waits) (ask : Ask) (act : Act) (w : Waits) → IsIdle old (Some ask) → DoesWith ids a agreement old ask act w → ⊥
idle_by ids a agreement Nothing (asks.Bind c flags b) act w idle d = idle
idle_by ids a agreement Nothing (asks.Alter c b) act w idle d = idle
idle_by ids a agreement Nothing (asks.Call j) act w idle d = idle
idle_by ids a agreement Nothing (asks.Cancel id) act w idle d = absurd (cc (d.0.2))
idle_by ids a agreement Nothing (asks.Orphan id) act w idle d = absurd (cc (d.0.2))
idle_by ids a agreement Nothing (asks.Broken c f) act w idle d = idle
idle_by ids a agreement (Group c ack) ask act w idle d = idle
idle_by ids a agreement (Call c maybe) ask act w idle d = idle
idle_by ids a agreement Over ask act w idle d = idle
idle_by ids a agreement Failed ask act w idle d = idle

asked_same : (m n k : ConnState) (p q : Pdu) (a b : Option Ask) → TakesPdu m p n → TakesPdu m q k → Asks m.past p a → Asks m.past q b → a ≡ b
asked_same m n k p q a b t u h l = one_ask m.past q a b (subst (λ (x : Pdu). Asks m.past x a) (one_taken m n k p q t u).0 h) l

skipped_done : (m n k : ConnState) (p q : Pdu) (act : Act) → Skips m p n → ActsAt m q act k → ⊥
skipped_done m n k p q act s a =
    let same : s.ask ≡ Some a.ask = asked_same m n k p q s.ask (Some a.ask) s.takes a.takes s.asks a.asks in
    idle_by m.ids (accepted m) m.agreement m.waits a.ask act k.waits (subst (λ (x : Option Ask). IsIdle m.waits x) same s.idle) a.does

one_skipped : (m n k : ConnState) (p q : Pdu) → Skips m p n → Skips m q k → n ≡ k
one_skipped m n k p q s t = taken_alike m n k p q s.takes t.takes (s.waits ∙ sym t.waits)

-- ---- what comes behind the PDUs that are skipped

-- an act, or nothing for now
abbrev pub ActsOrRests : ConnState → Option Act → ConnState → Type 0
ActsOrRests m (Some act) n = Acts m act n
ActsOrRests m None n = (n ≡ m) × IsStuck m.waits m.rest

pub skipped_ends : (m n k : ConnState) (p : Pdu) (act : Option Act) → Skips m p n → ActsOrRests m act k → ⊥
skipped_ends m n k p None s e = stuck_takes m n p s.takes e.1
skipped_ends m n k p (Some act) s (inl a) = skipped_done m n k p a.0 act s a.1
skipped_ends m n k p (Some act) s (inr a) = taken_sound m n p a.0 s.takes a.1.stops

one_fault : (f g : PduFault) → Some f ≡ Some g → f ≡ g
one_fault f g e = cc

abbrev shut : List ℕ → PduFault → Act
shut rest f = acts.Close (pdu_octets (closing (caller_at rest) (broken_by rest f))) (broken_by rest f)

acts_alike : (m n k : ConnState) (a b : Act) → Acts m a n → Acts m b k → (a ≡ b) × (n ≡ k)
acts_alike m n k a b (inl h) (inl l) =
    let s = h.1 in
    let t = l.1 in
    let asked : Some s.ask ≡ Some t.ask = asked_same m n k h.0 l.0 (Some s.ask) (Some t.ask) s.takes t.takes s.asks t.asks in
    let ask : s.ask ≡ t.ask = cc (asked) in
    let done = one_does m.ids (accepted m) m.agreement m.waits t.ask a b n.waits k.waits
    (subst (λ (x : Ask). DoesWith m.ids (accepted m) m.agreement m.waits x a n.waits) ask s.does) t.does in
    (done.0, taken_alike m n k h.0 l.0 s.takes t.takes done.1)
acts_alike m n k a b (inl h) (inr l) = absurd (taken_sound m n h.0 l.0 h.1.takes l.1.stops)
acts_alike m n k a b (inr h) (inl l) = absurd (taken_sound m k l.0 h.0 l.1.takes h.1.stops)
acts_alike m n k a b (inr h) (inr l) =
    let same : h.0 ≡ l.0 = one_fault h.0 l.0 (one_remains m.rest (Some h.0) (Some l.0) h.1.stops l.1.stops) in
    (h.1.act_is ∙ ap (shut m.rest) same ∙ sym l.1.act_is, h.1.after ∙ sym l.1.after)

stopped_stuck : (m n : ConnState) (fault : PduFault) (act : Act) → StopsAt m fault act n → IsStuck m.waits m.rest → ⊥
stopped_stuck m n fault act s stuck =
    let part : IsPartial m.rest = subst (λ (w : Waits). IsStuck w m.rest) s.free stuck in
    let wrong : None ≡ Some fault = one_remains m.rest None (Some fault) part s.stops in
    absurd (cc (wrong))

acts_stuck : (m n : ConnState) (act : Act) → Acts m act n → IsStuck m.waits m.rest → ⊥
acts_stuck m n act (inl a) stuck = stuck_takes m n a.0 a.1.takes stuck
acts_stuck m n act (inr a) stuck = stopped_stuck m n a.0 act a.1 stuck

abbrev some_act : Act → Option Act
some_act act = Some act

pub one_end : (m n k : ConnState) (a b : Option Act) → ActsOrRests m a n → ActsOrRests m b k → (a ≡ b) × (n ≡ k)
one_end m n k None None h l = (refl, h.0 ∙ sym l.0)
one_end m n k None (Some b) h l = absurd (acts_stuck m k b l h.1)
one_end m n k (Some a) None h l = absurd (acts_stuck m n a h l.1)
one_end m n k (Some a) (Some b) h l = let same = acts_alike m n k a b h l in (ap some_act same.0, same.1)

ends_alike : (m x y n k : ConnState) (ps qs : List Pdu) (a b : Option Act) → SkipsAll m ps x → SkipsAll m qs y → ActsOrRests x a n → ActsOrRests y b k → (a ≡ b) × (n ≡ k)
ends_alike m x y n k [] [] a b h l e f =
    one_end m n k a b (subst (λ (z : ConnState). ActsOrRests z a n) h e) (subst (λ (z : ConnState). ActsOrRests z b k) l f)
ends_alike m x y n k [] (q ∷ qs) a b h l e f = absurd (skipped_ends m l.0 n q a l.1 (subst (λ (z : ConnState). ActsOrRests z a n) h e))
ends_alike m x y n k (p ∷ ps) [] a b h l e f = absurd (skipped_ends m h.0 k p b h.1 (subst (λ (z : ConnState). ActsOrRests z b k) l f))
ends_alike m x y n k (p ∷ ps) (q ∷ qs) a b h l e f =
    let same : h.0 ≡ l.0 = one_skipped m h.0 l.0 p q h.1 l.1 in
    ends_alike l.0 x y n k ps qs a b (subst (λ (z : ConnState). SkipsAll z ps x) same h.2) l.2 e f

pub record Reaches (m : ConnState) (act : Option Act) (n : ConnState) : Type 0 where
  pub skipped : List Pdu
  pub between : ConnState
  pub skips : SkipsAll m skipped between
  pub ends : ActsOrRests between act n

pub reaches : (m n : ConnState) (act : Option Act) → Goes m (Ok act) n → Reaches m act n
reaches m n None g = record { skipped = g.0; between = n; skips = g.1; ends = (refl, g.2) }
reaches m n (Some act) g = record { skipped = g.0; between = g.1; skips = g.2; ends = g.3 }

pub one_act : (m n k : ConnState) (a b : Option Act) → Goes m (Ok a) n → Goes m (Ok b) k → (a ≡ b) × (n ≡ k)
one_act m n k a b g h =
    let r = reaches m n a g in
    let s = reaches m k b h in
    ends_alike m r.between s.between n k r.skipped s.skipped a b r.skips s.skips r.ends s.ends
