-- The octets of a request, piece by piece.
use Rattle.std.proofs.Common.{◌≡◌, ℕ, zero, suc, ◌+◌, ◌-◌, ◌<◌, ◌≤◌, Bool, true, false, eqb, List, [], ◌∷◌, ◌++◌, length, take, drop, Some, None, refl, sym, ap, subst, ◌∙◌, append_assoc, append-nil, arith, length-append}
use Rattle.std.specs.Prelude.{slice_get}
use Rattle.std.specs.List.{flat_map}
use Rattle.std.proofs.Math.Dec.{eqb-suc-zero}
use Rattle.std.proofs.lemmas.List.{length-take-le, length-drop}
use Rattle.pdu_codec.specs.Pdus.{pdu_octets}
use Rattle.pdu_codec.specs.declared.pdu.Pdu.{Pdu}
use Rattle.pdu_stream.specs.Pieces.{ArePieces, piece_at, octets_at}
use Rattle.pdu_stream.proofs.Covers.{pieces_cover}
use Rattle.conn_asks.specs.Answers.{octets_in}
use Rattle.conn_asks.proofs.Responses.{place_of, inside}
use Rattle.client_core.specs.Octets.{request_fragment, request_fragments}
use Rattle.client_core.specs.declared.requests.Request.{Request}

-- the octets of fragments with these pieces
abbrev pub put_all : Request → Bool → List (List ℕ) → List ℕ
put_all r first pieces = flat_map pdu_octets (request_fragments r.call_id r.op r.maybe first pieces)

abbrev pub fragment : Request → Bool → List ℕ → ℕ → Pdu
fragment r first part later = request_fragment r.call_id r.op r.maybe first part later

-- The octets are those of the first k pieces, and so many octets of the stub are left.
pub record PutSoFar (r : Request) (size k left : ℕ) (octets stub : List ℕ) : Type 0 where
  pub all : List (List ℕ)
  pub are : ArePieces size stub all
  pub each : (i : ℕ) → octets_at stub (piece_at size (length stub) i) ≡ slice_get all i
  pub put : octets ++ put_all r (eqb k 0) (drop k all) ≡ put_all r true all
  pub left_is : left ≡ octets_in (drop k all)
  pub most : left ≤ length stub

pub octets_in-pieces : (size : ℕ) (stub : List ℕ) (pieces : List (List ℕ)) → ArePieces size stub pieces → octets_in pieces ≡ length stub
octets_in-pieces size stub [] are = absurd are
octets_in-pieces size stub (piece ∷ []) are = omega (arith, ap length are.0)
octets_in-pieces size stub (piece ∷ next ∷ others) (later, whole, long, more, are) =
    omega (arith, ap length whole, length-append piece later, octets_in-pieces size later (next ∷ others) are)

pub begins : (r : Request) (size : ℕ) (stub : List ℕ) → 0 < size → PutSoFar r size 0 (length stub) [] stub
begins r size stub some =
    let p = pieces_cover size stub some in
    record { all = p.0; are = p.1; each = p.3; put = refl; left_is = sym (octets_in-pieces size stub p.0 p.1); most = omega arith }

-- the piece at a place in front of the later ones
drop_piece : (k : ℕ) (all : List (List ℕ)) (part : List ℕ) → Some part ≡ slice_get all k → drop k all ≡ part ∷ drop (suc k) all
drop_piece k [] part h = absurd (cc (h))
drop_piece zero (first ∷ others) part h = ap (λ (x : List ℕ). x ∷ others) (cc (h))
drop_piece (suc k) (first ∷ others) part h = drop_piece k others part h

pub record Next (r : Request) (size k left : ℕ) (octets stub part : List ℕ) (count : ℕ) : Type 0 where
  pub enough : count ≤ left
  pub goes_on : (new : List ℕ) → new ≡ octets ++ pdu_octets (fragment r (eqb k 0) part (left - count)) → PutSoFar r size (k + 1) (left - count) new stub

pub next : (r : Request) (size k left : ℕ) (octets stub part : List ℕ) (place : ℕ × ℕ) → piece_at size (length stub) k ≡ Some place → part ≡ take place.1 (drop place.0 stub)
    → PutSoFar r size k left octets stub → Next r size k left octets stub part place.1
unfolding request_fragments
next r size k left octets stub part place at is p =
    let i = inside size (length stub) k place (place_of size (length stub) k place at) in
    let found : Some part ≡ slice_get p.all k = ap (λ (x : List ℕ). Some x) is ∙ (ap (octets_at stub) (sym at) ∙ p.each k) in
    let later = drop (suc k) p.all in
    let front : drop k p.all ≡ part ∷ later = drop_piece k p.all part found in
    let long : length part ≡ place.1 = ap length is ∙ length-take-le place.1 (drop place.0 stub) (omega (arith, i, length-drop place.0 stub)) in
    let left_at : left ≡ length part + octets_in later = p.left_is ∙ ap octets_in front in
    let behind : left - place.1 ≡ octets_in later = omega (arith, left_at, long) in
    record {
      enough = omega (arith, left_at, long);
      goes_on = λ new put.
          (let x = pdu_octets (fragment r (eqb k 0) part (octets_in later)) in
          let here : new ≡ octets ++ x = put ∙ ap (λ (n : ℕ). octets ++ pdu_octets (fragment r (eqb k 0) part n)) behind in
          let whole : octets ++ (x ++ put_all r false later) ≡ put_all r true p.all = ap (λ (ps : List (List ℕ)). octets ++ put_all r (eqb k 0) ps) (sym front) ∙ p.put in
          let so_far : new ++ put_all r (eqb (suc k) 0) later ≡ put_all r true p.all =
          (λ j. here j ++ put_all r (eqb-suc-zero k j) later) ∙ (append_assoc octets x (put_all r false later) ∙ whole) in
          let behind_it : PutSoFar r size (suc k) (left - place.1) new stub = record { all = p.all; are = p.are; each = p.each; put = so_far; left_is = behind; most = omega (arith, p.most) } in
          subst (λ (j : ℕ). PutSoFar r size j (left - place.1) new stub) (omega arith) behind_it);
    }

none_left : (k : ℕ) (all : List (List ℕ)) → None ≡ slice_get all k → drop k all ≡ []
none_left zero [] h = refl
none_left (suc k) [] h = refl
none_left zero (first ∷ others) h = absurd (cc (h))
none_left (suc k) (first ∷ others) h = none_left k others h

pub ends : (r : Request) (size k left : ℕ) (octets stub : List ℕ) → piece_at size (length stub) k ≡ None → PutSoFar r size k left octets stub
    → (all : List (List ℕ)) × ArePieces size stub all × (octets ≡ put_all r true all)
unfolding request_fragments
ends r size k left octets stub at p =
    let none : drop k p.all ≡ [] = none_left k p.all (ap (octets_at stub) (sym at) ∙ p.each k) in
    let put : octets ++ [] ≡ put_all r true p.all = ap (λ (ps : List (List ℕ)). octets ++ put_all r (eqb k 0) ps) (sym none) ∙ p.put in
    (p.all, p.are, sym (append-nil octets) ∙ put)
