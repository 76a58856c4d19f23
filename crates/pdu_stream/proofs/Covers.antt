-- The pieces of a stub cover it.
use Rattle.std.proofs.Common.{◌≡◌, ℕ, zero, suc, ◌+◌, ◌-◌, ◌*◌, ◌<◌, ◌≤◌, ◌⊎◌, inl, inr, Bool, false, cond, eqb, ltb, List, [], ◌∷◌, ◌++◌, length, take, drop, Option, Some, None, refl, sym, ap, subst, ◌∙◌, append-nil, arith}
use Rattle.std.specs.Prelude.{min, slice_get, map}
use Rattle.std.proofs.Math.Dec.{eqb-suc-zero}
use Rattle.std.specs.List.{flat_map}
use Rattle.std.proofs.lemmas.Bool.{cases_lt, lt-ltb, le-ltb, or_left, or_right, or_from}
use Rattle.std.proofs.lemmas.List.{length-append, length-drop, length-take-le, take_all, take-append-drop, drop-drop}
use Rattle.pdu_stream.specs.Fragments.{Fragment, stub_of, joined_of}
use Rattle.pdu_stream.specs.Pieces.{ArePieces, piece_at, octets_at}
use Rattle.pdu_stream.proofs.CutLaws.{same_fronts}

-- ---- one way

same_pieces : (p : List ℕ) (ps : List (List ℕ)) (q : List ℕ) (qs : List (List ℕ)) (size : ℕ) (stub : List ℕ) → ArePieces size stub (p ∷ ps) → ArePieces size stub (q ∷ qs) → p ∷ ps ≡ q ∷ qs
same_pieces p [] q [] size stub h k = ap (λ (x : List ℕ). x ∷ []) (sym h.0 ∙ k.0)
same_pieces p [] q (q' ∷ qs) size stub h k =
    absurd (omega (arith, ap length h.0, h.1, ap length k.1, length-append q k.0, k.2, k.3))
same_pieces p (p' ∷ ps) q [] size stub h k =
    absurd (omega (arith, ap length k.0, k.1, ap length h.1, length-append p h.0, h.2, h.3))
same_pieces p (p' ∷ ps) q (q' ∷ qs) size stub h k =
    let same = same_fronts p q h.0 k.0 (sym h.1 ∙ k.1) (h.2 ∙ sym k.2) in
    let later = same_pieces p' ps q' qs size k.0 (subst (λ (x : List ℕ). ArePieces size x (p' ∷ ps)) same.1 h.4) k.4 in
    λ i. same.0 i ∷ later i

pub one_cutting : (size : ℕ) (stub : List ℕ) (a b : List (List ℕ)) → ArePieces size stub a → ArePieces size stub b → a ≡ b
one_cutting size stub [] b h k = absurd h
one_cutting size stub (p ∷ ps) [] h k = absurd k
one_cutting size stub (p ∷ ps) (q ∷ qs) h k = same_pieces p ps q qs size stub h k

-- ---- places

abbrev place : ℕ → ℕ → ℕ → Option (ℕ × ℕ)
place size n k = Some (k * size, min size (n - k * size))

at_some : (size n k : ℕ) → (k ≡ 0) ⊎ (k * size < n) → piece_at size n k ≡ place size n k
at_some size n k (inl first) = ap (λ (b : Bool). cond b (place size n k) None) (or_left (eqb k 0) (ltb (k * size) n) (ap (λ (x : ℕ). eqb x 0) first))
at_some size n k (inr lt) = ap (λ (b : Bool). cond b (place size n k) None) (or_right (eqb k 0) (ltb (k * size) n) (lt-ltb (k * size) n lt))

at_none : (size n k : ℕ) → eqb k 0 ≡ false → n ≤ k * size → piece_at size n k ≡ None
at_none size n k later le = ap (λ (b : Bool). cond b (place size n k) None) (or_from (eqb k 0) (ltb (k * size) n) later (le-ltb (k * size) n le))

abbrev at : ℕ → List ℕ → ℕ → Option (List ℕ)
at size stub k = octets_at stub (piece_at size (length stub) k)

abbrev some_octets : List ℕ → Option (List ℕ)
some_octets x = Some x

octets_same : (stub : List ℕ) (a b n : ℕ) → a ≡ b → some_octets (take n (drop a stub)) ≡ some_octets (take n (drop b stub))
octets_same stub a b n e = ap (λ (x : ℕ). some_octets (take n (drop x stub))) e

-- the first piece
at_first : (size : ℕ) (stub : List ℕ) → at size stub 0 ≡ some_octets (take size stub)
at_first size stub =
    ap (octets_at stub) (at_some size (length stub) 0 (inl refl))
    ∙ octets_same stub (0 * size) 0 (min size (length stub - 0 * size)) (omega arith)
    ∙ elim (cases_lt size (length stub)) [
      | inl lt ↦ ap (λ (x : ℕ). some_octets (take x stub)) (omega arith)
      | inr le ↦ ap some_octets (take_all (min size (length stub - 0 * size)) stub (omega arith) ∙ sym (take_all size stub le))
    ]

suc_mul : (k size : ℕ) → suc k * size ≡ size + k * size
suc_mul k size = omega arith

-- a later piece is one of what is after the first
at_later : (size : ℕ) (stub : List ℕ) (k : ℕ) → size < length stub → at size stub (suc k) ≡ at size (drop size stub) k
at_later size stub k more =
    let n = length stub in
    let rest = drop size stub in
    let len : length rest ≡ n - size = length-drop size stub in
    elim (cases_lt (size + k * size) n) [
      | inl lt ↦
          let here : suc k * size < n = omega (arith, suc_mul k size, lt) in
          let there : k * size < length rest = omega (arith, len, lt) in
          let moved : take (min size (n - suc k * size)) (drop (suc k * size) stub) ≡ take (min size (length rest - k * size)) (drop (k * size) rest) =
          (λ i. take (same_size k lt i) (drop (suc_mul k size i) stub)) ∙ ap (take (min size (length rest - k * size))) (sym (drop-drop (k * size) size stub)) in
          ap (octets_at stub) (at_some size n (suc k) (inr here)) ∙ ap some_octets moved ∙ sym (ap (octets_at rest) (at_some size (length rest) k (inr there)))
      | inr le ↦ past k le
    ]
  where
    same_size : (k : ℕ) → size + k * size < length stub → min size (length stub - suc k * size) ≡ min size (length (drop size stub) - k * size)
    same_size k lt = ap (min size) (omega (arith, suc_mul k size, length-drop size stub))

    past : (k : ℕ) → length stub ≤ size + k * size → at size stub (suc k) ≡ at size (drop size stub) k
    past zero le = absurd (omega arith)
    past (suc k) le =
        ap (octets_at stub) (at_none size (length stub) (suc (suc k)) (eqb-suc-zero (suc k)) (omega (arith, suc_mul (suc k) size)))
        ∙ sym (ap (octets_at (drop size stub)) (at_none size (length (drop size stub)) (suc k) (eqb-suc-zero k) (omega (arith, length-drop size stub))))

-- ---- all pieces

abbrev joined : List (List ℕ) → List ℕ
joined pieces = flat_map (λ (piece : List ℕ). piece) pieces

pub record Covers (size : ℕ) (stub : List ℕ) : Type 0 where
  pub first : List ℕ
  pub others : List (List ℕ)
  pub are : ArePieces size stub (first ∷ others)
  pub whole : joined (first ∷ others) ≡ stub
  pub each : (k : ℕ) → at size stub k ≡ slice_get (first ∷ others) k

short_each : (size : ℕ) (stub : List ℕ) → length stub ≤ size → 0 < size → (k : ℕ) → at size stub k ≡ slice_get (stub ∷ []) k
short_each size stub le some zero = at_first size stub ∙ ap some_octets (take_all size stub le)
short_each size stub le some (suc k) = ap (octets_at stub) (at_none size (length stub) (suc k) (eqb-suc-zero k) (omega (arith, suc_mul k size, le)))

short : (size : ℕ) (stub : List ℕ) → length stub ≤ size → 0 < size → Covers size stub
short size stub le some = record { first = stub; others = []; are = (refl, le); whole = append-nil stub; each = short_each size stub le some }

longer_each : (size : ℕ) (stub q : List ℕ) (qs : List (List ℕ)) → size < length stub → ((k : ℕ) → at size (drop size stub) k ≡ slice_get (q ∷ qs) k) → (k : ℕ) → at size stub k ≡ slice_get (take size stub ∷ q ∷ qs) k
longer_each size stub q qs more each zero = at_first size stub
longer_each size stub q qs more each (suc k) = at_later size stub k more ∙ each k

longer : (size : ℕ) (stub : List ℕ) → size < length stub → Covers size (drop size stub) → Covers size stub
longer size stub more c = record {
  first = take size stub;
  others = c.first ∷ c.others;
  are = (drop size stub, sym (take-append-drop size stub), length-take-le size stub (omega arith), omega (arith, length-drop size stub), c.are);
  whole = ap (λ (x : List ℕ). take size stub ++ x) c.whole ∙ take-append-drop size stub;
  each = longer_each size stub c.first c.others more c.each;
}

covers_within : (n size : ℕ) (stub : List ℕ) → 0 < size → length stub ≤ n → Covers size stub
covers_within zero size stub some le = short size stub (omega arith) some
covers_within (suc n) size stub some le = elim (cases_lt size (length stub)) [
  | inl more ↦ longer size stub more (covers_within n size (drop size stub) some (omega (arith, length-drop size stub)))
  | inr few ↦ short size stub few some
]

pub pieces_cover : (size : ℕ) (stub : List ℕ) → 0 < size
    → (pieces : List (List ℕ)) × ArePieces size stub pieces × (joined pieces ≡ stub) × ((k : ℕ) → octets_at stub (piece_at size (length stub) k) ≡ slice_get pieces k)
pieces_cover size stub some = let c = covers_within (length stub) size stub some (omega arith) in (c.first ∷ c.others, c.are, c.whole, c.each)

-- ---- fragments with the pieces

whole_same : (size : ℕ) (stub p : List ℕ) (ps : List (List ℕ)) → ArePieces size stub (p ∷ ps) → joined (p ∷ ps) ≡ stub
whole_same size stub p [] h = append-nil p ∙ sym h.0
whole_same size stub p (q ∷ qs) h = ap (λ (x : List ℕ). p ++ x) (whole_same size h.0 q qs h.4) ∙ sym h.1

parts_same : (fs : List Fragment) → flat_map stub_of fs ≡ joined (map stub_of fs)
parts_same [] = refl
parts_same (f ∷ fs) = ap (λ (x : List ℕ). stub_of f ++ x) (parts_same fs)

pub pieces_join : (size : ℕ) (stub : List ℕ) (first : Fragment) (later : List Fragment) (cancelled : Bool) → ArePieces size stub (map stub_of (first ∷ later)) → (joined_of first later cancelled).stub ≡ stub
unfolding joined_of
pieces_join size stub first later cancelled h = parts_same (first ∷ later) ∙ whole_same size stub (stub_of first) (map stub_of later) h
