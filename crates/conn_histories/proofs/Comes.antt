-- What came, and what was taken of it.
use Rattle.std.proofs.Common.{◌≡◌, ℕ, inl, inr, List, [], ◌∷◌, ◌++◌, reverse, Option, Some, None, Ok, refl, sym, ap, subst, ◌∙◌, append_assoc}
use Rattle.std.proofs.lemmas.List.{append-nil}
use Rattle.handle_model.proofs.Reversed.{reverse-cons}
use Rattle.pdu_codec.specs.declared.pdu.Pdu.{Pdu}
use Rattle.pdu_codec.specs.Pdus.{IsPdu, AreSpelled}
use Rattle.pdu_stream.specs.Cuts.{LeavesUncut}
use Rattle.pdu_stream.proofs.CutLaws.{spelled_append, cut_goes_on}
use Rattle.conn_asks.specs.declared.events.Act.{Act}
use Rattle.conn_asks.specs.States.{ConnState, with_octets, TakesPdu, SkipsAll, Acts, Goes}
use Rattle.conn_histories.specs.Laws.{HasCome}

pub comes_on : (stream piece : List ℕ) (m : ConnState) → HasCome stream m → HasCome (stream ++ piece) (with_octets m piece)
comes_on stream piece m h = record {
  front = h.front;
  spelled = h.spelled;
  whole = ap (λ (t : List ℕ). t ++ piece) h.whole ∙ append_assoc h.front m.rest piece;
}

taken_on : (stream : List ℕ) (m n : ConnState) (p : Pdu) → HasCome stream m → TakesPdu m p n → HasCome stream n
taken_on stream m n p h t =
    let first = t.next.0 in
    let one : AreSpelled IsPdu (p ∷ []) first = (first, [], sym (append-nil first), t.next.1, refl) in
    let past : reverse n.past ≡ reverse m.past ++ p ∷ [] = ap reverse t.past ∙ reverse-cons p m.past in
    record {
      front = h.front ++ first;
      spelled = subst (λ (ps : List Pdu). AreSpelled IsPdu ps (h.front ++ first)) (sym past) (spelled_append (reverse m.past) (p ∷ []) h.front first h.spelled one);
      whole = h.whole ∙ (ap (λ (x : List ℕ). h.front ++ x) t.next.2 ∙ sym (append_assoc h.front first n.rest));
    }

skipped_on : (stream : List ℕ) (m : ConnState) (ps : List Pdu) (n : ConnState) → HasCome stream m → SkipsAll m ps n → HasCome stream n
skipped_on stream m [] n h e = subst (λ (x : ConnState). HasCome stream x) (sym e) h
skipped_on stream m (p ∷ ps) n h all = skipped_on stream all.0 ps n (taken_on stream m all.0 p h all.1.takes) all.2

acted_on : (stream : List ℕ) (m n : ConnState) (act : Act) → HasCome stream m → Acts m act n → HasCome stream n
acted_on stream m n act h (inl a) = taken_on stream m n a.0 h a.1.takes
acted_on stream m n act h (inr s) = subst (λ (x : ConnState). HasCome stream x) (sym s.1.after) (record { front = h.front; spelled = h.spelled; whole = h.whole })

pub goes_on : (stream : List ℕ) (m n : ConnState) (act : Option Act) → HasCome stream m → Goes m (Ok act) n → HasCome stream n
goes_on stream m n None h g = skipped_on stream m g.0 n h g.1
goes_on stream m n (Some act) h g = acted_on stream g.1 n act (skipped_on stream m g.0 g.1 h g.2) g.3

pub leaves_all : (stream : List ℕ) (m : ConnState) (count : ℕ) → HasCome stream m → LeavesUncut m.rest count → LeavesUncut stream count
leaves_all stream m count h l =
    subst (λ (s : List ℕ). LeavesUncut s count) (sym h.whole)
    (record l.0 { pdus = reverse m.past ++ l.0.pdus }, cut_goes_on h.front m.rest (reverse m.past) l.0 h.spelled l.1, l.2)
