-- PDUs are printed one after the other.
use Rattle.std.proofs.Common.{◌≡◌, ℕ, zero, suc, ◌+◌, ◌^◌, ◌<◌, ◌≤◌, List, [], ◌∷◌, ◌++◌, length, map, take, drop, refl, sym, ap, subst, ◌∙◌, append_assoc, append-nil, arith}
use Rattle.std.specs.List.{flat_map, AllByRecursion}
use Rattle.std.proofs.lemmas.List.{length-append, nil_from_length}
use Rattle.pdu_codec.specs.declared.pdu.Pdu.{Pdu}
use Rattle.pdu_codec.specs.Faults.{frag_length}
use Rattle.pdu_codec.specs.Pdus.{IsPdu, AreSpelled}
use Rattle.pdu_codec.proofs.PduLaws.{pdu_long}
use Rattle.pdu_stream.proofs.CutLaws.{pdu_size, same_fronts}
use Rattle.hex.specs.Hex.{IsBytes}
use Rattle.server_counts.specs.Pieces.{IsOnePdu, ArePdus, IsFirstPdu, BeginWithPdu}
use Rattle.server_counts.proofs.Pieces.{piece_pdu, pdus_go_on}
use Rattle.replay_world.specs.Worlds.{Printed}
use Rattle.replay_world.specs.Worlds.Printed.{Answered}
use Rattle.replay_world.specs.Printing.{printed_text, out_text}
use Rattle.replay_world.specs.Answered.{FitsPrinted}
use Rattle.replay_events.specs.Prints.{Prints}

-- ---- lines, one after the other

-- So many PDUs were printed off the front of the octets, and the rest are PDUs.
pub record PrintedSoFar (c : ℕ) (octets left old new : List ℕ) (count : ℕ) : Type 0 where
  pub done : List (List ℕ)
  pub front : List ℕ
  pub whole : octets ≡ front ++ left
  pub cut : AreSpelled IsOnePdu done front
  pub text : new ≡ old ++ out_text (map (Answered c) done)
  pub count_is : count ≡ length done
  pub few : count ≤ length front
  pub rest : ArePdus left

pub starts : (c : ℕ) (octets old : List ℕ) → ArePdus octets → PrintedSoFar c octets octets old old 0
unfolding out_text
starts c octets old are = record {
  done = [];
  front = [];
  whole = refl;
  cut = refl;
  text = sym (append-nil old);
  count_is = refl;
  few = omega arith;
  rest = are;
}

pub begins : (left : List ℕ) → 0 < length left → ArePdus left → BeginWithPdu left
begins left some ([], are) = absurd (omega (arith, ap length are))
begins left some (piece ∷ more, (first, others, whole, is, are)) = (length first, (is.1.0, first, others, whole, piece_pdu piece first is, refl))

text_more : (c : ℕ) (done : List (List ℕ)) (piece : List ℕ) → out_text (map (Answered c) (done ++ piece ∷ [])) ≡ out_text (map (Answered c) done) ++ printed_text (Answered c piece)
unfolding out_text
text_more c [] piece = append-nil (printed_text (Answered c piece))
text_more c (x ∷ done) piece =
    ap (λ (t : List ℕ). printed_text (Answered c x) ++ t) (text_more c done piece) ∙ sym (append_assoc (printed_text (Answered c x)) (out_text (map (Answered c) done)) (printed_text (Answered c piece)))

-- the PDU in front is the first of those that are left
rest_of : (left piece others : List ℕ) (size : ℕ) → 0 < length left → ArePdus left → IsFirstPdu left size → left ≡ piece ++ others → length piece ≡ size → ((q : Pdu) × IsPdu q piece) × ArePdus others
rest_of left piece others size some ([], are) first whole len = absurd (omega (arith, ap length are))
rest_of left piece others size some (one ∷ more, (x, y, e, is, are)) (p, front, rest, e', is', len') whole len =
    let a = same_fronts piece front others rest (sym whole ∙ e') (len ∙ len') in
    let b = same_fronts piece x others y (sym whole ∙ e)
    (ap length a.0 ∙ sym (pdu_size p front rest is') ∙ ap frag_length (sym e' ∙ e) ∙ pdu_size is.1.0 x y (piece_pdu one x is)) in
    ((p, subst (λ (t : List ℕ). IsPdu p t) (sym a.0) is'), (more, subst (λ (t : List ℕ). AreSpelled IsOnePdu more t) (sym b.1) are))

pub prints_on : (c : ℕ) (octets left old new new' piece others : List ℕ) (count size : ℕ) → 0 < length left → PrintedSoFar c octets left old new count → IsFirstPdu left size
    → left ≡ piece ++ others → length piece ≡ size → new' ≡ new ++ printed_text (Answered c piece) → PrintedSoFar c octets others old new' (count + 1)
prints_on c octets left old new new' piece others count size some s first whole len text =
    let r = rest_of left piece others size some s.rest first whole len in
    record {
      done = s.done ++ piece ∷ [];
      front = s.front ++ piece;
      whole = s.whole ∙ ap (λ (t : List ℕ). s.front ++ t) whole ∙ sym (append_assoc s.front piece others);
      cut = pdus_go_on s.done (piece ∷ []) s.front piece s.cut (piece, [], sym (append-nil piece), (refl, r.0), refl);
      text = text ∙ ap (λ (t : List ℕ). t ++ printed_text (Answered c piece)) s.text ∙ append_assoc old (out_text (map (Answered c) s.done)) (printed_text (Answered c piece))
          ∙ ap (λ (t : List ℕ). old ++ t) (sym (text_more c s.done piece));
      count_is = omega (arith, s.count_is, length-append s.done (piece ∷ []));
      few = omega (arith, s.few, length-append s.front piece, pdu_long r.0.0 piece r.0.1);
      rest = r.1;
    }

-- ---- what is printed can be read again

bytes_front : (xs ys : List ℕ) → IsBytes (xs ++ ys) → IsBytes xs
bytes_front [] ys h i = omega arith
bytes_front (x ∷ xs) ys h zero = h zero
bytes_front (x ∷ xs) ys h (suc i) = bytes_front xs ys (λ j. h (suc j)) i

bytes_back : (xs ys : List ℕ) → IsBytes (xs ++ ys) → IsBytes ys
bytes_back [] ys h = h
bytes_back (x ∷ xs) ys h = bytes_back xs ys (λ j. h (suc j))

pieces_fit : (c : ℕ) (pieces : List (List ℕ)) (octets : List ℕ) → c < 2 ^ 64 → IsBytes octets → AreSpelled IsOnePdu pieces octets → AllByRecursion FitsPrinted (map (Answered c) pieces)
pieces_fit c [] octets low bytes are = tt
pieces_fit c (piece ∷ more) octets low bytes (first, others, whole, is, are) =
    let parts : IsBytes (first ++ others) = subst IsBytes whole bytes in
    ((low, subst IsBytes is.0 (bytes_front first others parts)), pieces_fit c more others low (bytes_back first others parts) are)

pub printed : (c : ℕ) (octets left old new : List ℕ) (count : ℕ) → c < 2 ^ 64 → IsBytes octets → length left ≡ 0 → PrintedSoFar c octets left old new count → Prints c octets old count new
printed c octets left old new count low bytes none s =
    let e : octets ≡ s.front = s.whole ∙ ap (λ (t : List ℕ). s.front ++ t) (nil_from_length left none) ∙ append-nil s.front in
    let cut : AreSpelled IsOnePdu s.done octets = subst (λ (t : List ℕ). AreSpelled IsOnePdu s.done t) (sym e) s.cut in
    record { pieces = s.done; cut = cut; text = s.text; fit = pieces_fit c s.done octets low bytes cut; count_is = s.count_is }
