-- PDUs at which nothing is done, or a call that is unanswered is called off.
use Rattle.std.proofs.Common.{◌≡◌, ℕ, inl, inr, Bool, true, false, List, [], ◌∷◌, ◌++◌, Option, Some, None, refl, sym, ap, subst, ◌∙◌}
use Rattle.std.specs.Prelude.{⊤, if◌then◌else◌}
use Rattle.rpc_base.specs.declared.identifiers.SyntaxId.{SyntaxId}
use Rattle.pdu_codec.specs.declared.pdu.Pdu.{Pdu}
use Rattle.pdu_codec.specs.declared.pdu.Body.{Body}
use Rattle.pdu_codec.specs.declared.pdu.Body.TheVariants as bodies
use Rattle.pdu_stream.specs.declared.joined.Joined.{Joined}
use Rattle.presentation.specs.declared.verdict.Accepted.{Accepted}
use Rattle.presentation.specs.Offers.{interface_of}
use Rattle.conn_asks.specs.declared.events.Agreement.{Agreement}
use Rattle.conn_asks.specs.declared.events.Ask.{Ask}
use Rattle.conn_asks.specs.declared.events.Ask.TheVariants as asks
use Rattle.conn_asks.specs.declared.events.Act.{Act}
use Rattle.conn_asks.specs.declared.events.Act.TheVariants as acts
use Rattle.conn_asks.specs.declared.events.Waits.{Waits}
use Rattle.conn_asks.specs.declared.events.Waits.TheVariants.{Nothing, Group, Call, Over, Failed}
use Rattle.conn_asks.specs.Asks.{Asks, AsksWith, is_called, is_bound, called}
use Rattle.conn_asks.specs.States.{ConnState, accepted, ActsOnCall, IsCalling, DoesWith, is_calling_off, MayCome, TakesPdu, IsIdle, SkipsAll, ActsAt, Acts, IsStuck}
use Rattle.conn_histories.specs.Histories.{Decision, AnswersDecision}
use Rattle.conn_histories.specs.Histories.Decision.{Reply}
use Rattle.conn_histories.proofs.OneAsk.{true_false, one_ask}
use Rattle.conn_histories.proofs.OneAct.{one_taken, taken_alike, taken_sound, stuck_takes, ActsOrRests, one_end}
use Rattle.conn_histories.proofs.Decided.{Asked, asked, at_waits, free, free_reply, takes_free, no_take}
use Rattle.conn_histories.proofs.Decided.Asked.{grouping, calling}

-- ---- asks that leave what is waited for

abbrev pub IsOff : Option Ask → Type 0
IsOff None = ⊤
IsOff (Some (asks.Cancel id)) = ⊤
IsOff (Some (asks.Orphan id)) = ⊤
IsOff (Some _) = ⊥

abbrev pub IsLasting : Act → Type 0
IsLasting (acts.Cancel id) = ⊥
IsLasting (acts.Orphan id) = ⊥
IsLasting _ = ⊤

pub idle_off : (w : Waits) (ask : Option Ask) → IsIdle w ask → IsOff ask
idle_off w None h = tt
idle_off Nothing (Some (asks.Cancel id)) h = tt
idle_off Nothing (Some (asks.Orphan id)) h = tt
idle_off Nothing (Some (asks.Bind c flags b)) h = absurd h
idle_off Nothing (Some (asks.Alter c b)) h = absurd h
idle_off Nothing (Some (asks.Call j)) h = absurd h
idle_off Nothing (Some (asks.Broken c f)) h = absurd h
idle_off (Group c ack) (Some ask) h = absurd h
idle_off (Call c maybe) (Some ask) h = absurd h
idle_off Over (Some ask) h = absurd h
idle_off Failed (Some ask) h = absurd h

-- what is done calls off, and leaves what is waited for; or it doesn't
pub data Done (old : Waits) (ask : Ask) (act : Act) (w : Waits) : Type 0 where
  calls_off : IsOff (Some ask) → w ≡ old → (IsLasting act → ⊥) → IsCalling old → Done old ask act w
  lasts : IsLasting act → (IsOff (Some ask) → ⊥) → Done old ask act w

called_lasts : (number : Option ℕ) (j : Joined) (act : Act) (w : Waits) → ActsOnCall number j act w → IsLasting act
called_lasts (Some k) j act w h = subst IsLasting (sym h.0) tt
called_lasts None j act w h = subst IsLasting (sym h.0) tt

pub done_by : (ids : List SyntaxId) (a : List Accepted) (agreement : Agreement) (old : Waits) (ask : Ask) (act : Act) (w : Waits) → DoesWith ids a agreement old ask act w → Done old ask act w
done_by ids a agreement old (asks.Bind c flags b) act w h = lasts (subst IsLasting (sym h.0) tt) (λ off. off)
done_by ids a agreement old (asks.Alter c b) act w h = lasts (subst IsLasting (sym h.0) tt) (λ off. off)
done_by ids a agreement old (asks.Call j) act w h = lasts (called_lasts (interface_of a j.context) j act w h) (λ off. off)
done_by ids a agreement old (asks.Cancel id) act w h = calls_off tt h.2 (λ l. subst IsLasting h.1 l) h.0
done_by ids a agreement old (asks.Orphan id) act w h = calls_off tt h.2 (λ l. subst IsLasting h.1 l) h.0
done_by ids a agreement old (asks.Broken c f) act w h = lasts (subst IsLasting (sym h.0) tt) (λ off. off)

if_cancel : (b : Bool) (id : ℕ) → IsOff (if b then Some (asks.Cancel id) else None)
if_cancel true id = tt
if_cancel false id = tt

if_orphan : (b : Bool) (id : ℕ) → IsOff (if b then Some (asks.Orphan id) else None)
if_orphan true id = tt
if_orphan false id = tt

-- a co_cancel and an orphaned ask nothing else
off_body : (bound : Bool) (run : Option Joined) (call : Option ℕ) (p : Pdu) (body : Body) (ask : Option Ask) → is_calling_off body ≡ true → AsksWith bound run call p body ask → IsOff ask
off_body bound run call p (bodies.Request r) ask e h = absurd (true_false false e refl)
off_body bound run call p (bodies.Response r) ask e h = absurd (true_false false e refl)
off_body bound run call p (bodies.Fault r) ask e h = absurd (true_false false e refl)
off_body bound run call p (bodies.Bind r) ask e h = absurd (true_false false e refl)
off_body bound run call p (bodies.BindAck r) ask e h = absurd (true_false false e refl)
off_body bound run call p (bodies.BindNak r) ask e h = absurd (true_false false e refl)
off_body bound run call p (bodies.Alter r) ask e h = absurd (true_false false e refl)
off_body bound run call p (bodies.AlterResp r) ask e h = absurd (true_false false e refl)
off_body bound run call p bodies.Shutdown ask e h = absurd (true_false false e refl)
off_body bound run call p bodies.CoCancel ask e h = subst IsOff (sym h) (if_cancel (is_called p.call_id call) p.call_id)
off_body bound run call p bodies.Orphaned ask e h = subst IsOff (sym h) (if_orphan (is_called p.call_id call) p.call_id)

pub off_asked : (past : List Pdu) (p : Pdu) (ask : Option Ask) → is_calling_off p.body ≡ true → Asks past p ask → IsOff ask
off_asked past p ask e h = off_body (is_bound past) h.run (called past) p p.body ask e h.asks

-- ---- PDUs are passed

pub record Passes (m : ConnState) (p : Pdu) (n : ConnState) : Type 0 where
  pub takes : TakesPdu m p n
  pub ask : Option Ask
  pub asks : Asks m.past p ask
  pub off : IsOff ask
  pub waits : n.waits ≡ m.waits

abbrev pub PassesAll : ConnState → List Pdu → ConnState → Type 0
PassesAll m [] n = n ≡ m
PassesAll m (p ∷ more) n = (between : ConnState) × Passes m p between × PassesAll between more n

pub skip_passes : (m : ConnState) (ps : List Pdu) (n : ConnState) → SkipsAll m ps n → PassesAll m ps n
skip_passes m [] n e = e
skip_passes m (p ∷ ps) n all =
    let s = all.1 in
    let one : Passes m p all.0 = record { takes = s.takes; ask = s.ask; asks = s.asks; off = idle_off m.waits s.ask s.idle; waits = s.waits } in
    (all.0, one, skip_passes all.0 ps n all.2)

pub passes_append : (m : ConnState) (ps qs : List Pdu) (n k : ConnState) → PassesAll m ps n → PassesAll n qs k → PassesAll m (ps ++ qs) k
passes_append m [] qs n k e all = subst (λ (x : ConnState). PassesAll x qs k) e all
passes_append m (p ∷ ps) qs n k all later = (all.0, all.1, passes_append all.0 ps qs n k all.2 later)

pub passes_keep : (m : ConnState) (ps : List Pdu) (n : ConnState) → PassesAll m ps n → (n.waits ≡ m.waits) × (n.agreement ≡ m.agreement)
passes_keep m [] n e = (ap (λ (x : ConnState). x.waits) e, ap (λ (x : ConnState). x.agreement) e)
passes_keep m (p ∷ ps) n all =
    let later = passes_keep all.0 ps n all.2 in
    (later.0 ∙ all.1.waits, later.1 ∙ all.1.takes.agreement)

passes_free : (m : ConnState) (ps : List Pdu) (n : ConnState) → PassesAll m ps n → PassesAll (free m) ps (free n)
passes_free m [] n e = ap free e
passes_free m (p ∷ ps) n all =
    let s = all.1 in
    let one : Passes (free m) p (free all.0) = record { takes = takes_free m all.0 p s.takes; ask = s.ask; asks = s.asks; off = s.off; waits = refl } in
    (free all.0, one, passes_free all.0 ps n all.2)

-- ---- they may as well be passed behind what is said

pub record Carried (m : ConnState) (decision : Decision) (octets : List ℕ) (ps : List Pdu) (y : ConnState) : Type 0 where
  pub decided : ConnState
  pub answers : AnswersDecision m decision octets decided
  pub passes : PassesAll decided ps y

carried_by : (m x y : ConnState) (decision : Decision) (octets : List ℕ) (p : Pdu) (ps : List Pdu) → PassesAll m (p ∷ ps) x → Asked x.waits x decision octets y → Carried m decision octets (p ∷ ps) y
carried_by m x y decision octets p ps all (grouping c ack e) =
    absurd (no_take m all.0 p c ack (sym (passes_keep m (p ∷ ps) x all).0 ∙ e) all.1.takes)
carried_by m x y decision octets p ps all (calling c maybe said executed e decision_is r y_is) =
    let keep = passes_keep m (p ∷ ps) x all in
    let answers : AnswersDecision m (Reply said executed) octets (free m) = free_reply m x y c maybe said executed octets (sym keep.0 ∙ e) keep.1 r in
    record {
      decided = free m;
      answers = subst (λ (v : Decision). AnswersDecision m v octets (free m)) (sym decision_is) answers;
      passes = subst (λ (z : ConnState). PassesAll (free m) (p ∷ ps) z) (sym y_is) (passes_free m (p ∷ ps) x all);
    }

pub carried : (m x y : ConnState) (decision : Decision) (octets : List ℕ) (ps : List Pdu) → PassesAll m ps x → AnswersDecision x decision octets y → Carried m decision octets ps y
carried m x y decision octets [] e h = record { decided = y; answers = subst (λ (z : ConnState). AnswersDecision z decision octets y) e h; passes = refl }
carried m x y decision octets (p ∷ ps) all h = carried_by m x y decision octets p ps all (asked x.waits x decision octets y (at_waits x y decision octets h))

-- ---- an act that calls off passes its PDU

act_passes : (m n : ConnState) (p : Pdu) (act : Act) (a : ActsAt m p act n) → (IsLasting act → ⊥) → Done m.waits a.ask act n.waits → Passes m p n
act_passes m n p act a off (calls_off ask_off w not at_call) = record { takes = a.takes; ask = Some a.ask; asks = a.asks; off = ask_off; waits = w }
act_passes m n p act a off (lasts l not) = absurd (off l)

pub off_passes : (m n : ConnState) (act : Act) → Acts m act n → (IsLasting act → ⊥) → (p : Pdu) × Passes m p n
off_passes m n act (inl a) off =
    (a.0, act_passes m n a.0 act a.1 off (done_by m.ids (accepted m) m.agreement m.waits a.1.ask act n.waits a.1.does))
off_passes m n act (inr s) off = absurd (off (subst IsLasting (sym s.1.act_is) tt))

-- ---- what comes behind PDUs that are passed

abbrev pub EndsLasting : ConnState → Option Act → ConnState → Type 0
EndsLasting m (Some act) n = Acts m act n × IsLasting act
EndsLasting m None n = (n ≡ m) × IsStuck m.waits m.rest

plain_end : (m n : ConnState) (act : Option Act) → EndsLasting m act n → ActsOrRests m act n
plain_end m n None h = h
plain_end m n (Some act) h = h.0

done_off : (old : Waits) (ask : Ask) (act : Act) (w : Waits) → Done old ask act w → IsOff (Some ask) → IsLasting act → ⊥
done_off old ask act w (calls_off ask_off same not at_call) off l = not l
done_off old ask act w (lasts lasting not) off l = not off

passed_done : (m n k : ConnState) (p q : Pdu) (act : Act) → Passes m p n → ActsAt m q act k → IsLasting act → ⊥
passed_done m n k p q act s a l =
    let asks : Asks m.past q s.ask = subst (λ (x : Pdu). Asks m.past x s.ask) (one_taken m n k p q s.takes a.takes).0 s.asks in
    let same : s.ask ≡ Some a.ask = one_ask m.past q s.ask (Some a.ask) asks a.asks in
    done_off m.waits a.ask act k.waits (done_by m.ids (accepted m) m.agreement m.waits a.ask act k.waits a.does) (subst IsOff same s.off) l

passed_ends : (m n k : ConnState) (p : Pdu) (act : Option Act) → Passes m p n → EndsLasting m act k → ⊥
passed_ends m n k p None s e = stuck_takes m n p s.takes e.1
passed_ends m n k p (Some act) s (inl a, l) = passed_done m n k p a.0 act s a.1 l
passed_ends m n k p (Some act) s (inr a, l) = taken_sound m n p a.0 s.takes a.1.stops

one_passed : (m n k : ConnState) (p q : Pdu) → Passes m p n → Passes m q k → n ≡ k
one_passed m n k p q s t = taken_alike m n k p q s.takes t.takes (s.waits ∙ sym t.waits)

pub passed_alike : (m x y n k : ConnState) (ps qs : List Pdu) (a b : Option Act) → PassesAll m ps x → PassesAll m qs y → EndsLasting x a n → EndsLasting y b k → (a ≡ b) × (n ≡ k)
passed_alike m x y n k [] [] a b h l e f =
    one_end m n k a b (plain_end m n a (subst (λ (z : ConnState). EndsLasting z a n) h e)) (plain_end m k b (subst (λ (z : ConnState). EndsLasting z b k) l f))
passed_alike m x y n k [] (q ∷ qs) a b h l e f = absurd (passed_ends m l.0 n q a l.1 (subst (λ (z : ConnState). EndsLasting z a n) h e))
passed_alike m x y n k (p ∷ ps) [] a b h l e f = absurd (passed_ends m h.0 k p b h.1 (subst (λ (z : ConnState). EndsLasting z b k) l f))
passed_alike m x y n k (p ∷ ps) (q ∷ qs) a b h l e f =
    let same : h.0 ≡ l.0 = one_passed m h.0 l.0 p q h.1 l.1 in
    passed_alike l.0 x y n k ps qs a b (subst (λ (z : ConnState). PassesAll z ps x) same h.2) l.2 e f

-- ---- where something is said, nothing lasting may be done

free_calls : (z c : ConnState) (act : Act) (w : Waits) → z.waits ≡ w → Acts z act c → IsLasting act → (Nothing ≡ w → ⊥) → ((p : Pdu) → MayCome w p.body → is_calling_off p.body ≡ true) → ⊥
free_calls z c act w e (inr s) l not may = not (sym s.1.free ∙ e)
free_calls z c act w e (inl a) l not may =
    let s = a.1 in
    let off : IsOff (Some s.ask) = off_asked z.past a.0 (Some s.ask) (may a.0 (subst (λ (v : Waits). MayCome v a.0.body) e s.takes.may)) s.asks in
    done_off z.waits s.ask act c.waits (done_by z.ids (accepted z) z.agreement z.waits s.ask act c.waits s.does) off l

decided_by : (m b z c : ConnState) (decision : Decision) (octets : List ℕ) (ps : List Pdu) (act : Act) → Asked m.waits m decision octets b → PassesAll m ps z → Acts z act c → IsLasting act → ⊥
decided_by m b z c decision octets ps act (grouping d ack e) all a l =
    free_calls z c act (Group d ack) ((passes_keep m ps z all).0 ∙ e) a l (λ n. absurd (cc (n))) (λ p h. absurd h)
decided_by m b z c decision octets ps act (calling d maybe said executed e w_is r b_is) all a l =
    free_calls z c act (Call d maybe) ((passes_keep m ps z all).0 ∙ e) a l (λ n. absurd (cc (n))) (λ p h. h)

pub decided_before : (m b z c : ConnState) (decision : Decision) (octets : List ℕ) (ps : List Pdu) (act : Act) → AnswersDecision m decision octets b → PassesAll m ps z → Acts z act c → IsLasting act → ⊥
decided_before m b z c decision octets ps act h all a l = decided_by m b z c decision octets ps act (asked m.waits m decision octets b (at_waits m b decision octets h)) all a l
