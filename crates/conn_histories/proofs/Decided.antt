-- What the server decides, and the PDUs that were passed before it.
use Rattle.std.proofs.Common.{◌≡◌, ℕ, Bool, true, false, List, [], ◌∷◌, Option, Some, None, refl, sym, ap, subst, ◌∙◌}
use Rattle.handle_model.specs.declared.entry.Said.{Said}
use Rattle.handle_model.specs.declared.entry.Said.TheVariants.{Out, Fault}
use Rattle.pdu_codec.specs.Constants.{stub_offset}
use Rattle.pdu_codec.specs.declared.pdu.Pdu.{Pdu}
use Rattle.pdu_codec.specs.declared.pdu.BindAckBody.{BindAckBody}
use Rattle.pdu_stream.specs.Pieces.{piece_size}
use Rattle.pdu_stream.proofs.Covers.{one_cutting}
use Rattle.conn_asks.specs.declared.events.Caller.{Caller}
use Rattle.conn_asks.specs.declared.events.Ask.{Ask}
use Rattle.conn_asks.specs.declared.events.Waits.{Waits}
use Rattle.conn_asks.specs.declared.events.Waits.TheVariants.{Nothing, Group, Call, Over, Failed}
use Rattle.conn_asks.specs.Answers.{Replies, response_octets}
use Rattle.conn_asks.specs.States.{ConnState, with_octets, MayCome, TakesPdu, IsIdle, Skips, SkipsAll, BoundAt, RefusedAt, RepliedAt}
use Rattle.conn_histories.specs.Histories.{Decision, AnswersDecision}
use Rattle.conn_histories.specs.Histories.Decision.{ToGroup, RefuseGroup, Reply}

-- ---- where something may be said

abbrev pub AnswersAt : Waits → ConnState → Decision → List ℕ → ConnState → Type 0
AnswersAt w m (ToGroup group) octets n = BoundAt w m group octets n
AnswersAt w m (RefuseGroup reason) octets n = RefusedAt w m reason octets n
AnswersAt w m (Reply said executed) octets n = RepliedAt w m said executed octets n

pub at_waits : (m n : ConnState) (decision : Decision) (octets : List ℕ) → AnswersDecision m decision octets n → AnswersAt m.waits m decision octets n
at_waits m n (ToGroup group) octets h = h
at_waits m n (RefuseGroup reason) octets h = h
at_waits m n (Reply said executed) octets h = h

pub from_waits : (m n : ConnState) (decision : Decision) (octets : List ℕ) → AnswersAt m.waits m decision octets n → AnswersDecision m decision octets n
from_waits m n (ToGroup group) octets h = h
from_waits m n (RefuseGroup reason) octets h = h
from_waits m n (Reply said executed) octets h = h

pub data Asked (w : Waits) (m : ConnState) (decision : Decision) (octets : List ℕ) (n : ConnState) : Type 0 where
  grouping : (c : Caller) (ack : BindAckBody) → w ≡ Group c ack → Asked w m decision octets n
  calling : (c : Caller) (maybe : Bool) (said : Option Said) (executed : Bool) → w ≡ Call c maybe → decision ≡ Reply said executed
      → Replies c m.agreement.max_xmit maybe executed said octets → n ≡ record m { waits = Nothing } → Asked w m decision octets n

pub asked : (w : Waits) (m : ConnState) (decision : Decision) (octets : List ℕ) (n : ConnState) → AnswersAt w m decision octets n → Asked w m decision octets n
asked (Group c ack) m decision octets n h = grouping c ack refl
asked (Call c maybe) m (Reply said executed) octets n h = calling c maybe said executed refl refl h.0 h.1
asked (Call c maybe) m (ToGroup group) octets n h = absurd h
asked (Call c maybe) m (RefuseGroup reason) octets n h = absurd h
asked Nothing m (ToGroup group) octets n h = absurd h
asked Nothing m (RefuseGroup reason) octets n h = absurd h
asked Nothing m (Reply said executed) octets n h = absurd h
asked Over m (ToGroup group) octets n h = absurd h
asked Over m (RefuseGroup reason) octets n h = absurd h
asked Over m (Reply said executed) octets n h = absurd h
asked Failed m (ToGroup group) octets n h = absurd h
asked Failed m (RefuseGroup reason) octets n h = absurd h
asked Failed m (Reply said executed) octets n h = absurd h

-- ---- one answer

one_reply : (c : Caller) (most : ℕ) (maybe executed : Bool) (said : Option Said) (a b : List ℕ) → Replies c most maybe executed said a → Replies c most maybe executed said b → a ≡ b
one_reply c most true executed said a b h k = h ∙ sym k
one_reply c most false executed None a b h k = h ∙ sym k
one_reply c most false executed (Some (Fault status)) a b h k = h ∙ sym k
one_reply c most false executed (Some (Out stub)) a b h k =
    h.2 ∙ ap (response_octets c true) (one_cutting (piece_size most stub_offset) stub h.0 k.0 h.1 k.1) ∙ sym k.2

abbrev Same : List ℕ → List ℕ → ConnState → ConnState → Type 0
Same a b n k = (a ≡ b) × (n ≡ k)

answers_alike : (w : Waits) (m n k : ConnState) (decision : Decision) (a b : List ℕ) → AnswersAt w m decision a n → AnswersAt w m decision b k → Same a b n k
answers_alike (Group c ack) m n k (ToGroup group) a b h l = (h.0 ∙ sym l.0, h.1 ∙ sym l.1)
answers_alike (Group c ack) m n k (RefuseGroup reason) a b h l = (h.0 ∙ sym l.0, h.1 ∙ sym l.1)
answers_alike (Group c ack) m n k (Reply said executed) a b h l = absurd h
answers_alike (Call c maybe) m n k (Reply said executed) a b h l = (one_reply c m.agreement.max_xmit maybe executed said a b h.0 l.0, h.1 ∙ sym l.1)
answers_alike (Call c maybe) m n k (ToGroup group) a b h l = absurd h
answers_alike (Call c maybe) m n k (RefuseGroup reason) a b h l = absurd h
answers_alike Nothing m n k (ToGroup group) a b h l = absurd h
answers_alike Nothing m n k (RefuseGroup reason) a b h l = absurd h
answers_alike Nothing m n k (Reply said executed) a b h l = absurd h
answers_alike Over m n k (ToGroup group) a b h l = absurd h
answers_alike Over m n k (RefuseGroup reason) a b h l = absurd h
answers_alike Over m n k (Reply said executed) a b h l = absurd h
answers_alike Failed m n k (ToGroup group) a b h l = absurd h
answers_alike Failed m n k (RefuseGroup reason) a b h l = absurd h
answers_alike Failed m n k (Reply said executed) a b h l = absurd h

pub one_answer : (m n k : ConnState) (decision : Decision) (a b : List ℕ) → AnswersDecision m decision a n → AnswersDecision m decision b k → (a ≡ b) × (n ≡ k)
one_answer m n k decision a b h l = answers_alike m.waits m n k decision a b (at_waits m n decision a h) (at_waits m k decision b l)

-- ---- further octets change no answer

answered_more : (w : Waits) (m n : ConnState) (decision : Decision) (octets more : List ℕ) → AnswersAt w m decision octets n → AnswersAt w (with_octets m more) decision octets (with_octets n more)
answered_more (Group c ack) m n (ToGroup group) octets more h = (h.0, ap (λ (x : ConnState). with_octets x more) h.1)
answered_more (Group c ack) m n (RefuseGroup reason) octets more h = (h.0, ap (λ (x : ConnState). with_octets x more) h.1)
answered_more (Group c ack) m n (Reply said executed) octets more h = absurd h
answered_more (Call c maybe) m n (Reply said executed) octets more h = (h.0, ap (λ (x : ConnState). with_octets x more) h.1)
answered_more (Call c maybe) m n (ToGroup group) octets more h = absurd h
answered_more (Call c maybe) m n (RefuseGroup reason) octets more h = absurd h
answered_more Nothing m n (ToGroup group) octets more h = absurd h
answered_more Nothing m n (RefuseGroup reason) octets more h = absurd h
answered_more Nothing m n (Reply said executed) octets more h = absurd h
answered_more Over m n (ToGroup group) octets more h = absurd h
answered_more Over m n (RefuseGroup reason) octets more h = absurd h
answered_more Over m n (Reply said executed) octets more h = absurd h
answered_more Failed m n (ToGroup group) octets more h = absurd h
answered_more Failed m n (RefuseGroup reason) octets more h = absurd h
answered_more Failed m n (Reply said executed) octets more h = absurd h

pub answers_more : (m n : ConnState) (decision : Decision) (octets more : List ℕ) → AnswersDecision m decision octets n → AnswersDecision (with_octets m more) decision octets (with_octets n more)
answers_more m n decision octets more h =
    from_waits (with_octets m more) (with_octets n more) decision octets (answered_more m.waits m n decision octets more (at_waits m n decision octets h))

-- ---- PDUs that were passed before something is said may as well be passed behind it

abbrev pub free : ConnState → ConnState
free m = record m { waits = Nothing }

pub free_reply : (m x y : ConnState) (c : Caller) (maybe : Bool) (said : Option Said) (executed : Bool) (octets : List ℕ) → m.waits ≡ Call c maybe → x.agreement ≡ m.agreement
    → Replies c x.agreement.max_xmit maybe executed said octets → AnswersDecision m (Reply said executed) octets (free m)
free_reply m x y c maybe said executed octets w agreement r =
    let same : Replies c m.agreement.max_xmit maybe executed said octets = subst (λ (most : ℕ). Replies c most maybe executed said octets) (λ i. (agreement i).max_xmit) r in
    let at : RepliedAt (Call c maybe) m said executed octets (free m) = (same, refl) in
    subst (λ (v : Waits). RepliedAt v m said executed octets (free m)) (sym w) at

idle_free : (w : Waits) (ask : Option Ask) → IsIdle w ask → IsIdle Nothing ask
idle_free w None h = tt
idle_free Nothing (Some ask) h = h
idle_free (Group c ack) (Some ask) h = absurd h
idle_free (Call c maybe) (Some ask) h = absurd h
idle_free Over (Some ask) h = absurd h
idle_free Failed (Some ask) h = absurd h

pub takes_free : (m n : ConnState) (p : Pdu) → TakesPdu m p n → TakesPdu (free m) p (free n)
takes_free m n p t = record { may = tt; next = t.next; past = t.past; ids = t.ids; agreement = t.agreement }

skips_free : (m : ConnState) (ps : List Pdu) (n : ConnState) → SkipsAll m ps n → SkipsAll (free m) ps (free n)
skips_free m [] n e = ap free e
skips_free m (p ∷ ps) n all =
    let s = all.1 in
    let one : Skips (free m) p (free all.0) = record { takes = takes_free m all.0 p s.takes; ask = s.ask; asks = s.asks; idle = idle_free m.waits s.ask s.idle; waits = refl } in
    (free all.0, one, skips_free all.0 ps n all.2)

pub skips_keep : (m : ConnState) (ps : List Pdu) (n : ConnState) → SkipsAll m ps n → (n.waits ≡ m.waits) × (n.agreement ≡ m.agreement)
skips_keep m [] n e = (ap (λ (x : ConnState). x.waits) e, ap (λ (x : ConnState). x.agreement) e)
skips_keep m (p ∷ ps) n all =
    let later = skips_keep all.0 ps n all.2 in
    (later.0 ∙ all.1.waits, later.1 ∙ all.1.takes.agreement)

pub record Moved (m : ConnState) (decision : Decision) (octets : List ℕ) (ps : List Pdu) (y : ConnState) : Type 0 where
  pub decided : ConnState
  pub answers : AnswersDecision m decision octets decided
  pub skips : SkipsAll decided ps y

-- no PDU is taken while a group is waited for
pub no_take : (m n : ConnState) (p : Pdu) (c : Caller) (ack : BindAckBody) → m.waits ≡ Group c ack → TakesPdu m p n → ⊥
no_take m n p c ack e t = subst (λ (w : Waits). MayCome w p.body) e t.may

moved_by : (m x y : ConnState) (decision : Decision) (octets : List ℕ) (p : Pdu) (ps : List Pdu) → SkipsAll m (p ∷ ps) x → Asked x.waits x decision octets y → Moved m decision octets (p ∷ ps) y
moved_by m x y decision octets p ps all (grouping c ack e) =
    absurd (no_take m all.0 p c ack (sym (skips_keep m (p ∷ ps) x all).0 ∙ e) all.1.takes)
moved_by m x y decision octets p ps all (calling c maybe said executed e decision_is r y_is) =
    let keep = skips_keep m (p ∷ ps) x all in
    let answers : AnswersDecision m (Reply said executed) octets (free m) = free_reply m x y c maybe said executed octets (sym keep.0 ∙ e) keep.1 r in
    record {
      decided = free m;
      answers = subst (λ (v : Decision). AnswersDecision m v octets (free m)) (sym decision_is) answers;
      skips = subst (λ (z : ConnState). SkipsAll (free m) (p ∷ ps) z) (sym y_is) (skips_free m (p ∷ ps) x all);
    }

pub moved : (m x y : ConnState) (decision : Decision) (octets : List ℕ) (ps : List Pdu) → SkipsAll m ps x → AnswersDecision x decision octets y → Moved m decision octets ps y
moved m x y decision octets [] e h = record { decided = y; answers = subst (λ (z : ConnState). AnswersDecision z decision octets y) e h; skips = refl }
moved m x y decision octets (p ∷ ps) all h = moved_by m x y decision octets p ps all (asked x.waits x decision octets y (at_waits x y decision octets h))
