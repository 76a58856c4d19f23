-- What came in a history, event by event.
use Rattle.std.proofs.Common.{◌≡◌, ℕ, List, [], ◌∷◌, ◌++◌, inl, inr, refl, sym, ap, subst, ◌∙◌, append_assoc}
use Rattle.std.specs.Prelude.{reverse}
use Rattle.std.proofs.lemmas.List.{append-nil}
use Rattle.rpc_base.specs.declared.identifiers.SyntaxId.{SyntaxId}
use Rattle.pdu_codec.specs.declared.pdu.Pdu.{Pdu}
use Rattle.pdu_codec.specs.Pdus.{IsPdu, AreSpelled}
use Rattle.pdu_stream.proofs.CutLaws.{spelled_append}
use Rattle.handle_model.proofs.Reversed.{reverse-cons}
use Rattle.conn_asks.specs.declared.events.Act.{Act}
use Rattle.conn_asks.specs.declared.events.Waits.{Waits}
use Rattle.conn_asks.specs.declared.events.Waits.TheVariants.{Nothing, Group, Call, Over, Failed}
use Rattle.conn_asks.specs.States.{ConnState, TakesPdu, RefusedAt}
use Rattle.mpx_asks.specs.Among.{MpxState, SkipsAllAmong, ActsOr, BoundAt}
use Rattle.mpx_histories.specs.Histories.{Decision, Event, Happens, Lives, at_first, stream}
use Rattle.mpx_histories.specs.Laws.{HasTaken, AllHasCome}

-- ---- one event

takes : (m n : MpxState) (p : Pdu) (octets : List ℕ) → HasTaken m octets → TakesPdu m.conn p n.conn → HasTaken n octets
takes m n p octets t s =
    let one : AreSpelled IsPdu (p ∷ []) s.next.0 = (s.next.0, [], sym (append-nil s.next.0), s.next.1, refl) in
    let both = spelled_append (reverse m.conn.past) (p ∷ []) t.front s.next.0 t.spelled one in
    let order : reverse n.conn.past ≡ reverse m.conn.past ++ p ∷ [] = ap (λ (x : List Pdu). reverse x) s.past ∙ reverse-cons p m.conn.past in
    record {
      front = t.front ++ s.next.0;
      spelled = subst (λ (x : List Pdu). AreSpelled IsPdu x (t.front ++ s.next.0)) (sym order) both;
      whole = t.whole ∙ (ap (λ (x : List ℕ). t.front ++ x) s.next.2 ∙ sym (append_assoc t.front s.next.0 n.conn.rest));
    }

stays : (m n : MpxState) (octets : List ℕ) → HasTaken m octets → n.conn.past ≡ m.conn.past → n.conn.rest ≡ m.conn.rest → HasTaken n octets
stays m n octets t past rest = record {
  front = t.front;
  spelled = subst (λ (x : List Pdu). AreSpelled IsPdu (reverse x) t.front) (sym past) t.spelled;
  whole = t.whole ∙ ap (λ (x : List ℕ). t.front ++ x) (sym rest);
}

skips_all : (m n : MpxState) (ps : List Pdu) (octets : List ℕ) → HasTaken m octets → SkipsAllAmong m ps n → HasTaken n octets
skips_all m n [] octets t e = subst (λ (x : MpxState). HasTaken x octets) (sym e) t
skips_all m n (p ∷ ps) octets t all = skips_all all.0 n ps octets (takes m all.0 p octets t all.1.takes) all.2

acts_or : (m n : MpxState) (act : Act) (octets : List ℕ) → HasTaken m octets → ActsOr m act n → HasTaken n octets
acts_or m n act octets t (inl s) = takes m n s.0 octets t s.1.takes
acts_or m n act octets t (inr s) =
    let e = s.1.stops.after in
    stays m n octets t (ap (λ (x : ConnState). x.past) e) (ap (λ (x : ConnState). x.rest) e)

binds : (w : Waits) (m n : MpxState) (group : ℕ) (put octets : List ℕ) → HasTaken m octets → BoundAt w m group put n → HasTaken n octets
binds Nothing m n group put octets t h = absurd h
binds (Group c ack) m n group put octets t h = stays m n octets t (ap (λ (x : MpxState). x.conn.past) h.1) (ap (λ (x : MpxState). x.conn.rest) h.1)
binds (Call c maybe) m n group put octets t h = absurd h
binds Over m n group put octets t h = absurd h
binds Failed m n group put octets t h = absurd h

refuses : (w : Waits) (m n : MpxState) (reason : ℕ) (put octets : List ℕ) → HasTaken m octets → RefusedAt w m.conn reason put n.conn → HasTaken n octets
refuses Nothing m n reason put octets t h = absurd h
refuses (Group c ack) m n reason put octets t h = stays m n octets t (ap (λ (x : ConnState). x.past) h.1) (ap (λ (x : ConnState). x.rest) h.1)
refuses (Call c maybe) m n reason put octets t h = absurd h
refuses Over m n reason put octets t h = absurd h
refuses Failed m n reason put octets t h = absurd h

decides : (m n : MpxState) (d : Decision) (put octets : List ℕ) → HasTaken m octets → Happens m (Event.Decided d put) n → HasTaken n octets
decides m n (Decision.ToGroup group) put octets t h = binds m.conn.waits m n group put octets t h
decides m n (Decision.RefuseGroup reason) put octets t h = refuses m.conn.waits m n reason put octets t h.conn
decides m n (Decision.ReplyTo id said executed) put octets t h = stays m n octets t (ap (λ (x : MpxState). x.conn.past) h.after) (ap (λ (x : MpxState). x.conn.rest) h.after)

comes : (m n : MpxState) (piece octets : List ℕ) → HasTaken m octets → Happens m (Event.Came piece) n → HasTaken n (octets ++ piece)
comes m n piece octets t e =
    let more : HasTaken (record m { conn = record m.conn { rest = m.conn.rest ++ piece } }) (octets ++ piece) =
    record { front = t.front; spelled = t.spelled; whole = ap (λ (x : List ℕ). x ++ piece) t.whole ∙ append_assoc t.front m.conn.rest piece } in
    subst (λ (x : MpxState). HasTaken x (octets ++ piece)) (sym e) more

-- ---- all events

as_much : (n : MpxState) (a b : List ℕ) → a ≡ b → HasTaken n a → HasTaken n b
as_much n a b e t = subst (λ (x : List ℕ). HasTaken n x) e t

lives : (events : List Event) (m n : MpxState) (octets : List ℕ) → HasTaken m octets → Lives m events n → HasTaken n (octets ++ stream events)
lives [] m n octets t e = as_much n octets (octets ++ []) (sym (append-nil octets)) (subst (λ (x : MpxState). HasTaken x octets) (sym e) t)
lives (Event.Came piece ∷ later) m n octets t h =
    as_much n ((octets ++ piece) ++ stream later) (octets ++ (piece ++ stream later)) (append_assoc octets piece (stream later)) (lives later h.0 n (octets ++ piece) (comes m h.0 piece octets t h.1) h.2)
lives (Event.Paused ∷ later) m n octets t h = lives later h.0 n octets (skips_all m h.0 h.1.0 octets t h.1.1) h.2
lives (Event.Did act ∷ later) m n octets t h = lives later h.0 n octets (acts_or h.1.1 h.0 act octets (skips_all m h.1.1 h.1.0 octets t h.1.2) h.1.3) h.2
lives (Event.Decided d put ∷ later) m n octets t h = lives later h.0 n octets (decides m h.0 d put octets t h.1) h.2

at_begin : (ids : List SyntaxId) → HasTaken (at_first ids) []
at_begin ids = record { front = []; spelled = refl; whole = refl }

pub all_has_come : AllHasCome
all_has_come ids events m h = lives events (at_first ids) m [] (at_begin ids) h
