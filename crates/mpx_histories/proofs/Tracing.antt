-- The course of a history, event by event.
use Rattle.std.proofs.Common.{◌≡◌, ℕ, Bool, true, false, List, [], ◌∷◌, inl, inr, Option, Some, None, refl, sym, ap, subst, ◌∙◌}
use Rattle.std.specs.Prelude.{◌||◌, ⊤, cond}
use Rattle.std.specs.List.{find}
use Rattle.rpc_base.specs.declared.identifiers.SyntaxId.{SyntaxId}
use Rattle.pdu_codec.specs.declared.pdu.Pdu.{Pdu}
use Rattle.pdu_codec.specs.declared.pdu.Body.{Body}
use Rattle.pdu_codec.specs.declared.fault.PduFault.{PduFault}
use Rattle.pdu_stream.specs.declared.joined.Joined.{Joined}
use Rattle.presentation.specs.declared.verdict.Accepted.{Accepted}
use Rattle.presentation.specs.Offers.{contexts, interface_of}
use Rattle.handle_model.specs.declared.entry.Said.{Said}
use Rattle.conn_asks.specs.declared.events.Agreement.{Agreement}
use Rattle.conn_asks.specs.declared.events.Act.{Act}
use Rattle.conn_asks.specs.declared.events.Ask.{Ask}
use Rattle.conn_asks.specs.declared.events.Ask.TheVariants as asks
use Rattle.conn_asks.specs.declared.events.Waits.{Waits}
use Rattle.conn_asks.specs.declared.events.Waits.TheVariants.{Nothing, Group, Call, Over, Failed}
use Rattle.conn_asks.specs.Asks.{offered}
use Rattle.conn_asks.specs.States.{ConnState, MayCome, RefusedAt}
use Rattle.mpx_asks.specs.declared.open_calls.OpenCall.{OpenCall}
use Rattle.mpx_asks.specs.Open.{is_full, is_of, has}
use Rattle.mpx_asks.specs.Among.{MpxState, AsksAmong, ActsOnRequest, DoesWithin, SkipsAmong, SkipsAllAmong, ActsAmong, StopsAmong, ActsOr, BoundAt, RepliedTo}
use Rattle.mpx_asks.specs.Courses.{Moment, heard_in, breaks, is_broken, open_by, open_after, IsCourse}
use Rattle.mpx_asks.proofs.Apart.{stay_apart}
use Rattle.mpx_histories.specs.Histories.{Decision, Event, Happens, Lives, at_first, with_answered, answered_behind}
use Rattle.mpx_histories.specs.Laws.{HasCourse, HistoriesAreCourses, FewStayUnanswered}

-- ---- while PDUs may still come, the protocol isn't broken

abbrev pub IsUnbroken : Waits → Bool → Type 0
IsUnbroken Nothing broken = broken ≡ false
IsUnbroken (Group c ack) broken = broken ≡ false
IsUnbroken (Call c maybe) broken = broken ≡ false
IsUnbroken Over broken = ⊤
IsUnbroken Failed broken = ⊤

unbroken_by : (w : Waits) (body : Body) (broken : Bool) → MayCome w body → IsUnbroken w broken → broken ≡ false
unbroken_by Nothing body broken may h = h
unbroken_by (Group c ack) body broken may h = h
unbroken_by (Call c maybe) body broken may h = h
unbroken_by Over body broken may h = absurd may
unbroken_by Failed body broken may h = absurd may

-- a course of a connection, and what is kept of it
record Traces (ids : List SyntaxId) (m : MpxState) (answered : List ℕ) : Type 0 where
  has_course : HasCourse ids m answered
  same : m.conn.ids ≡ ids
  unbroken : IsUnbroken m.conn.waits (is_broken has_course.course)

-- ---- what an ask opens

request_out : (full : Bool) (iface : Option ℕ) (j : Joined) (out : List OpenCall) (act : Act) (new : List OpenCall) → ActsOnRequest full iface j out act new → new ≡ open_by full iface j out
request_out true iface j out act new h = h.1
request_out false (Some k) j out act new h = h.1
request_out false None j out act new h = h.1

does_out : (ids : List SyntaxId) (a : List Accepted) (agreement : Agreement) (out : List OpenCall) (ask : Ask) (act : Act) (w : Waits) (new : List OpenCall)
    → DoesWithin ids a agreement out ask act w new → new ≡ open_after a out (Some ask)
does_out ids a agreement out (asks.Bind c flags b) act w new h = h.2
does_out ids a agreement out (asks.Alter c b) act w new h = h.2
does_out ids a agreement out (asks.Call j) act w new h = request_out (is_full out) (interface_of a j.context) j out act new h.0
does_out ids a agreement out (asks.Cancel id) act w new h = h.2
does_out ids a agreement out (asks.Orphan id) act w new h = h.2
does_out ids a agreement out (asks.Broken c f) act w new h = h.2

does_unbroken : (ids : List SyntaxId) (a : List Accepted) (agreement : Agreement) (out : List OpenCall) (ask : Ask) (act : Act) (w : Waits) (new : List OpenCall) (broken : Bool)
    → DoesWithin ids a agreement out ask act w new → broken ≡ false → IsUnbroken w (breaks (Some ask) || broken)
does_unbroken ids a agreement out (asks.Bind c flags b) act w new broken h e = subst (λ (x : Waits). IsUnbroken x broken) (sym h.1) e
does_unbroken ids a agreement out (asks.Alter c b) act w new broken h e = subst (λ (x : Waits). IsUnbroken x broken) (sym h.1) e
does_unbroken ids a agreement out (asks.Call j) act w new broken h e = subst (λ (x : Waits). IsUnbroken x broken) (sym h.1) e
does_unbroken ids a agreement out (asks.Cancel id) act w new broken h e = subst (λ (x : Waits). IsUnbroken x broken) (sym h.1) e
does_unbroken ids a agreement out (asks.Orphan id) act w new broken h e = subst (λ (x : Waits). IsUnbroken x broken) (sym h.1) e
does_unbroken ids a agreement out (asks.Broken c f) act w new broken h e = subst (λ (x : Waits). IsUnbroken x true) (sym h.1) tt

-- ---- one event

heard_next : (course : List Moment) (p : Pdu) (past new : List Pdu) → heard_in course ≡ past → new ≡ p ∷ past → p ∷ heard_in course ≡ new
heard_next course p past new h e = ap (λ (x : List Pdu). p ∷ x) h ∙ sym e

skips : (ids : List SyntaxId) (m n : MpxState) (p : Pdu) (answered : List ℕ) → Traces ids m answered → SkipsAmong m p n → Traces ids n answered
skips ids m n p answered t s =
    let k = t.has_course in
    let free : is_broken k.course ≡ false = unbroken_by m.conn.waits p.body (is_broken k.course) s.takes.may t.unbroken in
    let here : AsksAmong (heard_in k.course) m.out p None = subst (λ (x : List Pdu). AsksAmong x m.out p None) (sym k.heard) s.asks in
    record {
      has_course = record {
        course = Moment.Heard p None ∷ k.course;
        is_course = (m.out, k.is_course, free, here, s.out);
        heard = heard_next k.course p m.conn.past n.conn.past k.heard s.takes.past;
        answers = k.answers;
      };
      same = s.takes.ids ∙ t.same;
      unbroken = subst (λ (x : Waits). IsUnbroken x (is_broken k.course)) (sym s.waits) t.unbroken;
    }

acts : (ids : List SyntaxId) (m n : MpxState) (p : Pdu) (act : Act) (answered : List ℕ) → Traces ids m answered → ActsAmong m p act n → Traces ids n answered
acts ids m n p act answered t s =
    let k = t.has_course in
    let free : is_broken k.course ≡ false = unbroken_by m.conn.waits p.body (is_broken k.course) s.takes.may t.unbroken in
    let here : AsksAmong (heard_in k.course) m.out p (Some s.ask) = subst (λ (x : List Pdu). AsksAmong x m.out p (Some s.ask)) (sym k.heard) s.asks in
    let opens = does_out m.conn.ids (contexts m.conn.ids (offered m.conn.past)) m.conn.agreement m.out s.ask act n.conn.waits n.out s.does in
    let served : n.out ≡ open_after (contexts ids (offered m.conn.past)) m.out (Some s.ask) =
    subst (λ (x : List SyntaxId). n.out ≡ open_after (contexts x (offered m.conn.past)) m.out (Some s.ask)) t.same opens in
    let opened : n.out ≡ open_after (contexts ids (offered (heard_in k.course))) m.out (Some s.ask) =
    subst (λ (x : List Pdu). n.out ≡ open_after (contexts ids (offered x)) m.out (Some s.ask)) (sym k.heard) served in
    record {
      has_course = record {
        course = Moment.Heard p (Some s.ask) ∷ k.course;
        is_course = (m.out, k.is_course, free, here, opened);
        heard = heard_next k.course p m.conn.past n.conn.past k.heard s.takes.past;
        answers = k.answers;
      };
      same = s.takes.ids ∙ t.same;
      unbroken = does_unbroken m.conn.ids (contexts m.conn.ids (offered m.conn.past)) m.conn.agreement m.out s.ask act n.conn.waits n.out (is_broken k.course) s.does free;
    }

-- the state is the same but for what is waited for, and for octets
stays : (ids : List SyntaxId) (m n : MpxState) (answered : List ℕ) → (t : Traces ids m answered) → n.conn.ids ≡ m.conn.ids → n.conn.past ≡ m.conn.past → n.out ≡ m.out
    → IsUnbroken n.conn.waits (is_broken t.has_course.course) → Traces ids n answered
stays ids m n answered t same past out unbroken =
    let k = t.has_course in
    record {
      has_course = record { course = k.course; is_course = subst (λ (x : List OpenCall). IsCourse ids k.course x) (sym out) k.is_course; heard = k.heard ∙ sym past; answers = k.answers };
      same = same ∙ t.same;
      unbroken = unbroken;
    }

closed : (w : Waits) (broken : Bool) → w ≡ Over → IsUnbroken w broken
closed w broken e = subst (λ (x : Waits). IsUnbroken x broken) (sym e) tt

stops : (ids : List SyntaxId) (m n : MpxState) (f : PduFault) (act : Act) (answered : List ℕ) → Traces ids m answered → StopsAmong m f act n → Traces ids n answered
stops ids m n f act answered t s =
    let e = s.stops.after in
    stays ids m n answered t (ap (λ (x : ConnState). x.ids) e) (ap (λ (x : ConnState). x.past) e) s.out (closed n.conn.waits (is_broken t.has_course.course) (ap (λ (x : ConnState). x.waits) e))

skips_all : (ids : List SyntaxId) (m n : MpxState) (ps : List Pdu) (answered : List ℕ) → Traces ids m answered → SkipsAllAmong m ps n → Traces ids n answered
skips_all ids m n [] answered t e = subst (λ (x : MpxState). Traces ids x answered) (sym e) t
skips_all ids m n (p ∷ ps) answered t all = skips_all ids all.0 n ps answered (skips ids m all.0 p answered t all.1) all.2

acts_or : (ids : List SyntaxId) (m n : MpxState) (act : Act) (answered : List ℕ) → Traces ids m answered → ActsOr m act n → Traces ids n answered
acts_or ids m n act answered t (inl s) = acts ids m n s.0 act answered t s.1
acts_or ids m n act answered t (inr s) = stops ids m n s.0 act answered t s.1

binds : (ids : List SyntaxId) (w : Waits) (m n : MpxState) (group : ℕ) (octets : List ℕ) (answered : List ℕ) → m.conn.waits ≡ w → Traces ids m answered → BoundAt w m group octets n → Traces ids n answered
binds ids Nothing m n group octets answered is t h = absurd h
binds ids (Group c ack) m n group octets answered is t h =
    let e = h.1 in
    let before : is_broken t.has_course.course ≡ false = subst (λ (x : Waits). IsUnbroken x (is_broken t.has_course.course)) is t.unbroken in
    stays ids m n answered t (ap (λ (x : MpxState). x.conn.ids) e) (ap (λ (x : MpxState). x.conn.past) e) (ap (λ (x : MpxState). x.out) e)
    (subst (λ (x : Waits). IsUnbroken x (is_broken t.has_course.course)) (sym (ap (λ (x : MpxState). x.conn.waits) e)) before)
binds ids (Call c maybe) m n group octets answered is t h = absurd h
binds ids Over m n group octets answered is t h = absurd h
binds ids Failed m n group octets answered is t h = absurd h

refuses : (ids : List SyntaxId) (w : Waits) (m n : MpxState) (reason : ℕ) (octets : List ℕ) (answered : List ℕ) → Traces ids m answered → RefusedAt w m.conn reason octets n.conn → n.out ≡ m.out → Traces ids n answered
refuses ids Nothing m n reason octets answered t h out = absurd h
refuses ids (Group c ack) m n reason octets answered t h out =
    let e = h.1 in
    stays ids m n answered t (ap (λ (x : ConnState). x.ids) e) (ap (λ (x : ConnState). x.past) e) out (closed n.conn.waits (is_broken t.has_course.course) (ap (λ (x : ConnState). x.waits) e))
refuses ids (Call c maybe) m n reason octets answered t h out = absurd h
refuses ids Over m n reason octets answered t h out = absurd h
refuses ids Failed m n reason octets answered t h out = absurd h

found_has : (id : ℕ) (out : List OpenCall) (o : OpenCall) → find (is_of id) out ≡ Some o → has id out ≡ true
found_has id [] o h = absurd (cc h)
found_has id (x ∷ out) o h = by_test (is_of id x) (found_has id out o) h
  where
    by_test : (b : Bool) → (find (is_of id) out ≡ Some o → has id out ≡ true) → cond b (Some x) (find (is_of id) out) ≡ Some o → (b || has id out) ≡ true
    by_test true r h = refl
    by_test false r h = r h

replies : (ids : List SyntaxId) (m n : MpxState) (id : ℕ) (said : Option Said) (executed : Bool) (octets : List ℕ) (answered : List ℕ) → Traces ids m answered → RepliedTo m id said executed octets n
    → Traces ids n (id ∷ answered)
replies ids m n id said executed octets answered t s =
    let k = t.has_course in
    let e = s.after in
    record {
      has_course = record {
        course = Moment.Answered id ∷ k.course;
        is_course = (m.out, k.is_course, found_has id m.out s.call s.found, ap (λ (x : MpxState). x.out) e);
        heard = k.heard ∙ sym (ap (λ (x : MpxState). x.conn.past) e);
        answers = ap (λ (x : List ℕ). id ∷ x) k.answers;
      };
      same = ap (λ (x : MpxState). x.conn.ids) e ∙ t.same;
      unbroken = subst (λ (x : Waits). IsUnbroken x (is_broken k.course)) (sym (ap (λ (x : MpxState). x.conn.waits) e)) t.unbroken;
    }

decides : (ids : List SyntaxId) (m n : MpxState) (d : Decision) (octets : List ℕ) (answered : List ℕ) → Traces ids m answered → Happens m (Event.Decided d octets) n → Traces ids n (with_answered d answered)
decides ids m n (Decision.ToGroup group) octets answered t h = binds ids m.conn.waits m n group octets answered refl t h
decides ids m n (Decision.RefuseGroup reason) octets answered t h = refuses ids m.conn.waits m n reason octets answered t h.conn h.out
decides ids m n (Decision.ReplyTo id said executed) octets answered t h = replies ids m n id said executed octets answered t h

comes : (ids : List SyntaxId) (m n : MpxState) (octets : List ℕ) (answered : List ℕ) → Traces ids m answered → Happens m (Event.Came octets) n → Traces ids n answered
comes ids m n octets answered t e =
    stays ids m n answered t (ap (λ (x : MpxState). x.conn.ids) e) (ap (λ (x : MpxState). x.conn.past) e) (ap (λ (x : MpxState). x.out) e)
    (subst (λ (x : Waits). IsUnbroken x (is_broken t.has_course.course)) (sym (ap (λ (x : MpxState). x.conn.waits) e)) t.unbroken)

-- ---- all events

lives : (ids : List SyntaxId) (events : List Event) (m n : MpxState) (answered : List ℕ) → Traces ids m answered → Lives m events n → Traces ids n (answered_behind events answered)
lives ids [] m n answered t e = subst (λ (x : MpxState). Traces ids x answered) (sym e) t
lives ids (Event.Came octets ∷ later) m n answered t h = lives ids later h.0 n answered (comes ids m h.0 octets answered t h.1) h.2
lives ids (Event.Paused ∷ later) m n answered t h = lives ids later h.0 n answered (skips_all ids m h.0 h.1.0 answered t h.1.1) h.2
lives ids (Event.Did act ∷ later) m n answered t h =
    lives ids later h.0 n answered (acts_or ids h.1.1 h.0 act answered (skips_all ids m h.1.1 h.1.0 answered t h.1.2) h.1.3) h.2
lives ids (Event.Decided d octets ∷ later) m n answered t h = lives ids later h.0 n (with_answered d answered) (decides ids m h.0 d octets answered t h.1) h.2

at_begin : (ids : List SyntaxId) → Traces ids (at_first ids) []
at_begin ids = record { has_course = record { course = []; is_course = refl; heard = refl; answers = refl }; same = refl; unbroken = refl }

pub histories_are_courses : HistoriesAreCourses
histories_are_courses ids events m h = (lives ids events (at_first ids) m [] (at_begin ids) h).has_course

pub few_stay_unanswered : FewStayUnanswered
few_stay_unanswered ids events m h =
    let c = histories_are_courses ids events m h in
    stay_apart ids c.course m.out c.is_course
