-- The octets of a response, piece by piece.
use Rattle.std.proofs.Common.{◌≡◌, ℕ, zero, suc, ◌+◌, ◌-◌, ◌*◌, ◌<◌, ◌≤◌, ◌⊎◌, inl, inr, Bool, true, false, cond, eqb, ltb, List, [], ◌∷◌, ◌++◌, length, take, drop, Option, Some, None, refl, sym, ap, subst, ◌∙◌, append_assoc, append-nil, arith, length-append}
use Rattle.std.specs.Prelude.{◌||◌, min, slice_get}
use Rattle.std.proofs.Math.Dec.{eqb-suc-zero}
use Rattle.std.proofs.Math.Nat.{le-mul_of_pos_right}
use Rattle.std.proofs.lemmas.Bool.{eqb-true, ltb-true}
use Rattle.std.proofs.lemmas.List.{length-take-le, length-drop}
use Rattle.pdu_codec.specs.Pdus.{pdu_octets}
use Rattle.pdu_codec.specs.Constants.{stub_offset, least_fragment}
use Rattle.pdu_stream.specs.Pieces.{piece_size, ArePieces, piece_at, octets_at}
use Rattle.pdu_stream.proofs.Covers.{pieces_cover}
use Rattle.conn_asks.specs.declared.events.Caller.{Caller}
use Rattle.conn_asks.specs.Answers.{octets_in, response_fragment, response_octets}

-- ---- the place of a piece

either : (a b : Bool) → (a || b) ≡ true → (a ≡ true) ⊎ (b ≡ true)
either true b h = inl refl
either false b h = inr h

pub record IsPlace (size n k : ℕ) (place : ℕ × ℕ) : Type 0 where
  pub start : place.0 ≡ k * size
  pub count : place.1 ≡ min size (n - k * size)
  pub inside : (k ≡ 0) ⊎ (k * size < n)

place_by : (test : Bool) (size n k : ℕ) (place : ℕ × ℕ) → (test ≡ true → (k ≡ 0) ⊎ (k * size < n)) → cond test (Some (k * size, min size (n - k * size))) None ≡ Some place → IsPlace size n k place
place_by true size n k place inside h = record { start = cc (h); count = cc (h); inside = inside refl }
place_by false size n k place inside h = absurd (cc (h))

pub place_of : (size n k : ℕ) (place : ℕ × ℕ) → piece_at size n k ≡ Some place → IsPlace size n k place
place_of size n k place h =
    place_by (eqb k 0 || ltb (k * size) n) size n k place
    (λ t. (elim (either (eqb k 0) (ltb (k * size) n) t) [
      | inl first ↦ inl (eqb-true k 0 first)
      | inr lt ↦ inr (ltb-true (k * size) n lt)
    ])) h

pub inside : (size n k : ℕ) (place : ℕ × ℕ) → IsPlace size n k place → place.0 + place.1 ≤ n
inside size n k place p = within p.inside
  where
    within : (k ≡ 0) ⊎ (k * size < n) → place.0 + place.1 ≤ n
    within (inl first) = omega (arith, p.start, p.count, ap (λ (x : ℕ). x * size) first)
    within (inr lt) = omega (arith, p.start, p.count, lt)

pub short : (size n k : ℕ) (place : ℕ × ℕ) → IsPlace size n k place → place.1 ≤ size
short size n k place p = omega (arith, p.count)

pub few : (size n k : ℕ) (place : ℕ × ℕ) → 0 < size → IsPlace size n k place → k ≤ n
few size n k place some p = within p.inside
  where
    within : (k ≡ 0) ⊎ (k * size < n) → k ≤ n
    within (inl first) = omega (arith, first)
    within (inr lt) = omega (arith, lt, le-mul_of_pos_right k some)

-- ---- what is put behind so many pieces

-- The octets are those of the first k pieces, and so many octets of the stub are left.
pub record PutSoFar (c : Caller) (size k left : ℕ) (octets stub : List ℕ) : Type 0 where
  pub all : List (List ℕ)
  pub are : ArePieces size stub all
  pub each : (i : ℕ) → octets_at stub (piece_at size (length stub) i) ≡ slice_get all i
  pub put : octets ++ response_octets c (eqb k 0) (drop k all) ≡ response_octets c true all
  pub left_is : left ≡ octets_in (drop k all)
  pub most : left ≤ length stub

octets_in-pieces : (size : ℕ) (stub : List ℕ) (pieces : List (List ℕ)) → ArePieces size stub pieces → octets_in pieces ≡ length stub
octets_in-pieces size stub [] are = absurd are
octets_in-pieces size stub (piece ∷ []) are = omega (arith, ap length are.0)
octets_in-pieces size stub (piece ∷ next ∷ others) (later, whole, long, more, are) =
    omega (arith, ap length whole, length-append piece later, octets_in-pieces size later (next ∷ others) are)

pub begins : (c : Caller) (size : ℕ) (stub : List ℕ) → 0 < size → PutSoFar c size 0 (length stub) [] stub
begins c size stub some =
    let p = pieces_cover size stub some in
    record { all = p.0; are = p.1; each = p.3; put = refl; left_is = sym (octets_in-pieces size stub p.0 p.1); most = omega arith }

-- the piece at a place in front of the later ones
drop_piece : (k : ℕ) (all : List (List ℕ)) (part : List ℕ) → Some part ≡ slice_get all k → drop k all ≡ part ∷ drop (suc k) all
drop_piece k [] part h = absurd (cc (h))
drop_piece zero (first ∷ others) part h = ap (λ (x : List ℕ). x ∷ others) (cc (h))
drop_piece (suc k) (first ∷ others) part h = drop_piece k others part h

pub record Next (c : Caller) (size k left : ℕ) (octets stub part : List ℕ) (count : ℕ) : Type 0 where
  pub enough : count ≤ left
  pub goes_on : (new : List ℕ) → new ≡ octets ++ pdu_octets (response_fragment c (eqb k 0) part (left - count)) → PutSoFar c size (k + 1) (left - count) new stub

pub next : (c : Caller) (size k left : ℕ) (octets stub part : List ℕ) (place : ℕ × ℕ) → piece_at size (length stub) k ≡ Some place → part ≡ take place.1 (drop place.0 stub)
    → PutSoFar c size k left octets stub → Next c size k left octets stub part place.1
unfolding response_octets
next c size k left octets stub part place at is p =
    let i = inside size (length stub) k place (place_of size (length stub) k place at) in
    let found : Some part ≡ slice_get p.all k = ap (λ (x : List ℕ). Some x) is ∙ (ap (octets_at stub) (sym at) ∙ p.each k) in
    let later = drop (suc k) p.all in
    let front : drop k p.all ≡ part ∷ later = drop_piece k p.all part found in
    let long : length part ≡ place.1 = ap length is ∙ length-take-le place.1 (drop place.0 stub) (omega (arith, i, length-drop place.0 stub)) in
    let left_at : left ≡ length part + octets_in later = p.left_is ∙ ap octets_in front in
    let behind : left - place.1 ≡ octets_in later = omega (arith, left_at, long) in
    record {
      enough = omega (arith, left_at, long);
      goes_on = λ new put.
          (let x = pdu_octets (response_fragment c (eqb k 0) part (octets_in later)) in
          let here : new ≡ octets ++ x = put ∙ ap (λ (n : ℕ). octets ++ pdu_octets (response_fragment c (eqb k 0) part n)) behind in
          let whole : octets ++ (x ++ response_octets c false later) ≡ response_octets c true p.all = ap (λ (ps : List (List ℕ)). octets ++ response_octets c (eqb k 0) ps) (sym front) ∙ p.put in
          let so_far : new ++ response_octets c (eqb (suc k) 0) later ≡ response_octets c true p.all =
          (λ j. here j ++ response_octets c (eqb-suc-zero k j) later) ∙ (append_assoc octets x (response_octets c false later) ∙ whole) in
          let behind_it : PutSoFar c size (suc k) (left - place.1) new stub = record { all = p.all; are = p.are; each = p.each; put = so_far; left_is = behind; most = omega (arith, p.most) } in
          subst (λ (j : ℕ). PutSoFar c size j (left - place.1) new stub) (omega arith) behind_it);
    }

none_left : (k : ℕ) (all : List (List ℕ)) → None ≡ slice_get all k → drop k all ≡ []
none_left zero [] h = refl
none_left (suc k) [] h = refl
none_left zero (first ∷ others) h = absurd (cc (h))
none_left (suc k) (first ∷ others) h = none_left k others h

pub ends : (c : Caller) (size k left : ℕ) (octets stub : List ℕ) → piece_at size (length stub) k ≡ None → PutSoFar c size k left octets stub
    → (all : List (List ℕ)) × ArePieces size stub all × (octets ≡ response_octets c true all)
unfolding response_octets
ends c size k left octets stub at p =
    let none : drop k p.all ≡ [] = none_left k p.all (ap (octets_at stub) (sym at) ∙ p.each k) in
    let put : octets ++ [] ≡ response_octets c true p.all = ap (λ (ps : List (List ℕ)). octets ++ response_octets c (eqb k 0) ps) (sym none) ∙ p.put in
    (p.all, p.are, sym (append-nil octets) ∙ put)

-- ---- the measure

pub fewer : (n k : ℕ) → k ≤ n → suc n - (k + 1) < suc n - k
fewer n k le = omega (arith, le)

pub some_room : (most : ℕ) → least_fragment ≤ most → 0 < piece_size most stub_offset
some_room most wide = omega (arith, wide)
