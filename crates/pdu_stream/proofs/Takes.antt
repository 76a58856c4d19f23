-- PDUs taken one after the other.
use Rattle.std.proofs.Common.{◌≡◌, ◌≢◌, ℕ, ◌+◌, ◌<◌, ◌⊎◌, inl, inr, List, [], ◌∷◌, ◌++◌, length, take, drop, get_or, Option, Some, None, Ok, Err, refl, sym, ap, subst, ◌∙◌, append_assoc, append-nil, arith}
use Rattle.std.specs.List.{flat_map}
use Rattle.std.proofs.lemmas.List.{length-append, take-append-drop, drop-drop, take_more, flat_map_more}
use Rattle.pdu_codec.specs.declared.pdu.Pdu.{Pdu}
use Rattle.pdu_codec.specs.declared.fault.PduFault.{PduFault}
use Rattle.pdu_codec.specs.declared.fault.PduFault.TheVariants as faults
use Rattle.pdu_codec.specs.Pdus.{IsPdu, AreSpelled}
use Rattle.pdu_codec.proofs.PduLaws.{pdu_long}
use Rattle.pdu_stream.specs.Cuts.{IsStop, Remains, Fed, IsNext, IsFront, GivesNext, TakesPdus, IsCutSoFar}
use Rattle.pdu_stream.proofs.CutLaws.{spelled_append, fault_stays}

-- the octets that a buffer holds from an index on
abbrev pub fed : List ℕ → ℕ → Option PduFault → Fed
fed items start fault = record { rest = drop start items; fault = fault }

pub next_given : (items : List ℕ) (start : ℕ) (fault : Option PduFault) (old : Fed) (held : List ℕ) (p : Pdu) (size : ℕ) → fed items start fault ≡ old → held ≡ old.rest → fault ≡ None
    → IsFront held (Ok (Some (p, size))) → (old.fault ≡ None) × IsNext old.rest p (drop (start + size) items) × (fault ≡ None)
next_given items start fault old held p size view held_is fresh found =
    let rest_is : held ≡ drop start items = held_is ∙ ap (λ (x : Fed). x.rest) (sym view) in
    let others : drop size held ≡ drop (start + size) items = ap (drop size) rest_is ∙ drop-drop size start items in
    (ap (λ (x : Fed). x.fault) (sym view) ∙ fresh, (take size held, found.1, sym held_is ∙ sym (take-append-drop size held) ∙ ap (λ (t : List ℕ). take size held ++ t) others), fresh)

-- ---- until none is whole or a fault comes

pub record Taken (old : Fed) (before : List Pdu) (new : Fed) (after : List Pdu) : Type 0 where
  pub front : List ℕ
  pub pdus : List Pdu
  pub spelled : AreSpelled IsPdu pdus front
  pub whole : old.rest ≡ front ++ new.rest
  pub added : after ≡ before ++ pdus
  pub fresh : new.fault ≡ None

pub taken_none : (old : Fed) (before : List Pdu) → old.fault ≡ None → Taken old before old before
taken_none old before fresh = record { front = []; pdus = []; spelled = refl; whole = refl; added = sym (append-nil before); fresh = fresh }

pub taken_more : (old mid new : Fed) (before between after : List Pdu) (p : Pdu) → Taken old before mid between → GivesNext mid (Ok (Some p)) new → after ≡ between ++ p ∷ [] → Taken old before new after
taken_more old mid new before between after p t gives e =
    let next = gives.1 in
    let one : AreSpelled IsPdu (p ∷ []) next.0 = (next.0, [], sym (append-nil next.0), next.1, refl) in
    record {
      front = t.front ++ next.0;
      pdus = t.pdus ++ p ∷ [];
      spelled = spelled_append t.pdus (p ∷ []) t.front next.0 t.spelled one;
      whole = t.whole ∙ ap (λ (x : List ℕ). t.front ++ x) next.2 ∙ sym (append_assoc t.front next.0 new.rest);
      added = e ∙ ap (λ (x : List Pdu). x ++ p ∷ []) t.added ∙ append_assoc before t.pdus (p ∷ []);
      fresh = gives.2;
    }

pub taken_less : (mid new : Fed) (p : Pdu) → GivesNext mid (Ok (Some p)) new → length new.rest < length mid.rest
taken_less mid new p gives =
    let next = gives.1 in
    omega (arith, ap length next.2, length-append next.0 new.rest, pdu_long p next.0 next.1)

pub taken_all : (old mid new : Fed) (before after : List Pdu) → Taken old before mid after → GivesNext mid (Ok None) new → TakesPdus old before None new after
taken_all old mid new before after t gives =
    let same : new ≡ mid = gives.2 in
    record {
      front = t.front;
      pdus = t.pdus;
      spelled = t.spelled;
      whole = t.whole ∙ ap (λ (x : Fed). t.front ++ x.rest) (sym same);
      added = t.added;
      said_fault = ap (λ (x : Fed). x.fault) same ∙ gives.0;
      remains = subst (λ (x : Fed). Remains x.rest None) (sym same) gives.1;
    }

some_none : (f : PduFault) (o : Option PduFault) → o ≡ Some f → o ≡ None → ⊥
some_none f o some none = absurd (cc (some, none))

cause : (mid : Fed) (f : PduFault) → mid.fault ≡ None → f ≢ faults.Memory → (mid.fault ≡ Some f) ⊎ ((mid.fault ≡ None) × (IsStop mid.rest f ⊎ (f ≡ faults.Memory))) → IsStop mid.rest f
cause mid f fresh known (inl told) = absurd (some_none f mid.fault told fresh)
cause mid f fresh known (inr (none, inl stop)) = stop
cause mid f fresh known (inr (none, inr memory)) = absurd (known memory)

pub taken_fault : (old mid new : Fed) (before after : List Pdu) (f : PduFault) → Taken old before mid after → GivesNext mid (Err f) new → f ≢ faults.Memory → TakesPdus old before (Some f) new after
taken_fault old mid new before after f t gives known =
    let same : new ≡ record { rest = mid.rest; fault = Some f } = gives.1 in
    record {
      front = t.front;
      pdus = t.pdus;
      spelled = t.spelled;
      whole = t.whole ∙ ap (λ (x : Fed). t.front ++ x.rest) (sym same);
      added = t.added;
      said_fault = ap (λ (x : Fed). x.fault) same;
      remains = subst (λ (x : Fed). IsStop x.rest f) (sym same) (cause mid f t.fresh known gives.0);
    }

-- ---- with a further piece

pub piece_stopped : (stream piece : List ℕ) (given : List Pdu) (old new : Fed) (f : PduFault) → IsCutSoFar stream given old (Some f)
    → new ≡ record { rest = old.rest ++ piece; fault = old.fault } → IsCutSoFar (stream ++ piece) given new (Some f)
piece_stopped stream piece given old new f c e = record {
  front = c.front;
  spelled = c.spelled;
  whole = ap (λ (x : List ℕ). x ++ piece) c.whole ∙ append_assoc c.front old.rest piece ∙ ap (λ (x : Fed). c.front ++ x.rest) (sym e);
  said_fault = ap (λ (x : Fed). x.fault) e ∙ c.said_fault;
  remains = subst (λ (x : Fed). IsStop x.rest f) (sym e) (fault_stays old.rest piece f c.remains);
}

pub piece_taken : (stream piece : List ℕ) (given after : List Pdu) (old mid new : Fed) (fault told : Option PduFault) → IsCutSoFar stream given old fault
    → mid ≡ record { rest = old.rest ++ piece; fault = old.fault } → TakesPdus mid given told new after → IsCutSoFar (stream ++ piece) after new told
piece_taken stream piece given after old mid new fault told c e t = record {
  front = c.front ++ t.front;
  spelled = subst (λ (x : List Pdu). AreSpelled IsPdu x (c.front ++ t.front)) (sym t.added) (spelled_append given t.pdus c.front t.front c.spelled t.spelled);
  whole = ap (λ (x : List ℕ). x ++ piece) c.whole ∙ append_assoc c.front old.rest piece ∙ ap (λ (x : Fed). c.front ++ x.rest) (sym e)
      ∙ ap (λ (x : List ℕ). c.front ++ x) t.whole ∙ sym (append_assoc c.front t.front new.rest);
  said_fault = t.said_fault;
  remains = t.remains;
}

-- the octets of one piece more
pub pieces_more : (pieces : List (List ℕ)) (i : ℕ) (piece : List ℕ) → i < length pieces → piece ≡ get_or pieces i piece
    → flat_map (λ (x : List ℕ). x) (take i pieces) ++ piece ≡ flat_map (λ (x : List ℕ). x) (take (i + 1) pieces)
pieces_more pieces i piece lt e =
    let more : take i pieces ++ piece ∷ [] ≡ take (i + 1) pieces = ap (λ (x : List ℕ). take i pieces ++ x ∷ []) e ∙ sym (take_more pieces i piece lt) in
    flat_map_more (λ (x : List ℕ). x) [] (take i pieces) piece ∙ ap (flat_map (λ (x : List ℕ). x)) more
