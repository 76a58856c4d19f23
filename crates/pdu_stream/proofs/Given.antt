-- What was given of a stream, and its cut.
use Rattle.std.proofs.Common.{◌≡◌, ℕ, ◌⊎◌, inl, inr, List, [], ◌∷◌, ◌++◌, Option, Some, None, Result, Ok, Err, refl, sym, ap, subst, ◌∙◌, append_assoc, append-nil}
use Rattle.pdu_codec.specs.declared.pdu.Pdu.{Pdu}
use Rattle.pdu_codec.specs.declared.fault.PduFault.{PduFault}
use Rattle.pdu_codec.specs.declared.fault.PduFault.TheVariants as faults
use Rattle.pdu_codec.specs.Pdus.{IsPdu, AreSpelled}
use Rattle.pdu_stream.specs.declared.cut.Cut.{Cut}
use Rattle.pdu_stream.specs.Cuts.{IsStop, Remains, IsCut, Fed, IsCause, GivesNext, IsAnswered, HasGiven, TellsNext, with_answer}
use Rattle.pdu_stream.proofs.CutLaws.{spelled_append, not_remains, regrouped, one_next, one_cut, fault_stays}

-- a cut begins with the PDUs that stand in front
pub record Continues (stream : List ℕ) (pdus : List Pdu) (cut : Cut) : Type 0 where
  pub later : List Pdu
  pub whole : cut.pdus ≡ pdus ++ later
  pub is_cut : IsCut stream (record cut { pdus = later })

continues : (ps qs : List Pdu) (a x s front rest : List ℕ) (f : Option PduFault) → AreSpelled IsPdu ps a → s ≡ a ++ x → AreSpelled IsPdu qs front → s ≡ front ++ rest → Remains rest f
    → Continues x ps (record { pdus = qs; rest = rest; fault = f })
continues [] qs a x s front rest f h e k e' r =
    let at : s ≡ x = e ∙ ap (λ (t : List ℕ). t ++ x) h in
    record { later = qs; whole = refl; is_cut = record { front = front; whole = sym at ∙ e'; pdus = k; remains = r } }
continues (p ∷ ps) [] a x s front rest f h e k e' r =
    let sr : s ≡ rest = e' ∙ ap (λ (t : List ℕ). t ++ rest) k in
    let at : rest ≡ h.0 ++ (h.1 ++ x) = sym sr ∙ regrouped s a x h.0 h.1 e h.2 in
    absurd (not_remains p h.0 (h.1 ++ x) f h.3 (subst (λ (t : List ℕ). Remains t f) at r))
continues (p ∷ ps) (q ∷ qs) a x s front rest f h e k e' r =
    let next = one_next p q h.0 k.0 (h.1 ++ x) (k.1 ++ rest) h.3 k.3 (sym (regrouped s a x h.0 h.1 e h.2) ∙ regrouped s front rest k.0 k.1 e' k.2) in
    let c = continues ps qs h.1 x (h.1 ++ x) k.1 rest f h.4 refl k.4 next.1 r in
    record { later = c.later; whole = (λ i. sym next.0 i ∷ c.whole i); is_cut = c.is_cut }

pub cut_continues : (stream front rest : List ℕ) (given : List Pdu) (cut : Cut) → AreSpelled IsPdu given front → stream ≡ front ++ rest → IsCut stream cut → Continues rest given cut
cut_continues stream front rest given cut h e c = continues given cut.pdus front rest stream c.front cut.rest cut.fault h e c.pdus c.whole c.remains

-- ---- what is told

remains_cut : (rest : List ℕ) (f : Option PduFault) → Remains rest f → IsCut rest (record { pdus = []; rest = rest; fault = f })
remains_cut rest f r = record { front = []; whole = refl; pdus = refl; remains = r }

ended : (stream : List ℕ) (given : List Pdu) (fed : Fed) (cut : Cut) (f : Option PduFault) → HasGiven stream given fed → Remains fed.rest f → IsCut stream cut → (cut.pdus ≡ given) × (cut.fault ≡ f)
ended stream given fed cut f h r c =
    let k = cut_continues stream h.front fed.rest given cut h.spelled h.whole c in
    let same = one_cut fed.rest (record cut { pdus = k.later }) (record { pdus = []; rest = fed.rest; fault = f }) k.is_cut (remains_cut fed.rest f r) in
    (k.whole ∙ ap (λ (x : Cut). given ++ x.pdus) same ∙ append-nil given, ap (λ (x : Cut). x.fault) same)

one_given : (p : Pdu) (front others : List ℕ) → IsPdu p front → AreSpelled IsPdu (p ∷ []) front
one_given p front others is = (front, [], sym (append-nil front), is, refl)

answered : (fed : Fed) (f : PduFault) (o : Option PduFault) → IsAnswered fed.rest o → o ≡ Some f → IsStop fed.rest f ⊎ (f ≡ faults.Memory)
answered fed f o h e = subst (IsAnswered fed.rest) e h

cause_of : (stream : List ℕ) (given : List Pdu) (fed : Fed) (f : PduFault) → HasGiven stream given fed → IsCause fed f → IsStop fed.rest f ⊎ (f ≡ faults.Memory)
cause_of stream given fed f h (inl told) = answered fed f fed.fault h.cause told
cause_of stream given fed f h (inr fresh) = fresh.1

tells_fault : (stream : List ℕ) (given : List Pdu) (fed : Fed) (f : PduFault) (cut : Cut) → HasGiven stream given fed → IsStop fed.rest f ⊎ (f ≡ faults.Memory) → IsCut stream cut
    → ((cut.pdus ≡ given) × (cut.fault ≡ Some f)) ⊎ (f ≡ faults.Memory)
tells_fault stream given fed f cut h (inl stop) c = inl (ended stream given fed cut (Some f) h stop c)
tells_fault stream given fed f cut h (inr memory) c = inr memory

pub tells : (stream : List ℕ) (given : List Pdu) (old new : Fed) (answer : Result (Option Pdu) PduFault) (cut : Cut) → HasGiven stream given old → GivesNext old answer new → IsCut stream cut
    → TellsNext cut given answer
tells stream given old new (Ok (Some p)) cut h g c =
    let next = g.1 in
    let spelled = spelled_append given (p ∷ []) h.front next.0 h.spelled (one_given p next.0 new.rest next.1) in
    let whole : stream ≡ (h.front ++ next.0) ++ new.rest = h.whole ∙ ap (λ (x : List ℕ). h.front ++ x) next.2 ∙ sym (append_assoc h.front next.0 new.rest) in
    let k = cut_continues stream (h.front ++ next.0) new.rest (given ++ p ∷ []) cut spelled whole c in
    (k.later, k.whole ∙ append_assoc given (p ∷ []) k.later)
tells stream given old new (Ok None) cut h g c = ended stream given old cut None h g.1 c
tells stream given old new (Err f) cut h g c = tells_fault stream given old f cut h (cause_of stream given old f h g.0) c

pub goes_on : (stream : List ℕ) (given : List Pdu) (old new : Fed) (answer : Result (Option Pdu) PduFault) → HasGiven stream given old → GivesNext old answer new → HasGiven stream (with_answer given answer) new
goes_on stream given old new (Ok (Some p)) h g =
    let next = g.1 in
    record {
      front = h.front ++ next.0;
      spelled = spelled_append given (p ∷ []) h.front next.0 h.spelled (one_given p next.0 new.rest next.1);
      whole = h.whole ∙ ap (λ (x : List ℕ). h.front ++ x) next.2 ∙ sym (append_assoc h.front next.0 new.rest);
      cause = subst (IsAnswered new.rest) (sym g.2) tt;
    }
goes_on stream given old new (Ok None) h g = subst (HasGiven stream given) (sym g.2) h
goes_on stream given old new (Err f) h g =
    let cause : IsAnswered old.rest (Some f) = cause_of stream given old f h g.0 in
    let told : HasGiven stream given (record { rest = old.rest; fault = Some f }) = record { front = h.front; spelled = h.spelled; whole = h.whole; cause = cause } in
    subst (HasGiven stream given) (sym g.1) told

-- ---- with further octets

still_answered : (rest piece : List ℕ) (f : Option PduFault) → IsAnswered rest f → IsAnswered (rest ++ piece) f
still_answered rest piece None h = tt
still_answered rest piece (Some f) (inl stop) = inl (fault_stays rest piece f stop)
still_answered rest piece (Some f) (inr memory) = inr memory

pub push_goes_on : (stream piece : List ℕ) (given : List Pdu) (old : Fed) → HasGiven stream given old → HasGiven (stream ++ piece) given (record { rest = old.rest ++ piece; fault = old.fault })
push_goes_on stream piece given old h = record {
  front = h.front;
  spelled = h.spelled;
  whole = ap (λ (x : List ℕ). x ++ piece) h.whole ∙ append_assoc h.front old.rest piece;
  cause = still_answered old.rest piece old.fault h.cause;
}
