-- Steps of the walk over a value.
use Rattle.std.proofs.Common.{◌≡◌, ℕ, zero, suc, ◌+◌, ◌-◌, ◌<◌, ◌≤◌, nat_lt, append_assoc, Bool, true, false, List, [], ◌∷◌, ◌++◌, length, drop, map, get_or, add-one, drop-cons, Option, Some, None, Result, Ok, Err, refl, sym, ap, subst, ◌∙◌, arith}
use Rattle.std.specs.Prelude.{OnOk, ◌&&◌, ◌||◌, ◌==◌, slice_get}
use Rattle.std.proofs.lemmas.Bool.{lt-ltb}
use Rattle.std.proofs.lemmas.List.{drop_all, append-nil}
use Rattle.rpc_base.specs.declared.identifiers.Order.{Order}
use Rattle.rpc_base.specs.Fields.{IsOctets}
use Rattle.ndr_value.specs.declared.shape.ArrayKind.{ArrayKind}
use Rattle.ndr_value.specs.declared.shape.Count.{Count}
use Rattle.ndr_scalars.specs.Scalars.{up, written}
use Rattle.ndr_value.specs.declared.shape.Shape.{Shape}
use Rattle.ndr_value.specs.declared.value.Value.{Value}
use Rattle.ndr_value.specs.Forms.{Form, Forms, OfByte, OfNamed, form, forms, then_form}
use Rattle.ndr_value.specs.Values.{Val, VByte, VStruct, VArray, count_of, Vals, no_val, then_val, val, vals, bytes}
use Rattle.ndr_table.specs.Aligned.{is_last}
use Rattle.ndr_model.specs.Part.{opens_with}
use Rattle.ndr_model.specs.Named.{Call}
use Rattle.ndr_model.specs.Pieces.{Given, Behind, Piece, only, joined, then_piece, number}
use Rattle.ndr_model.specs.Fronts.{front, front_at, front_last, size_of, array_counts, front_array}
use Rattle.ndr_model.specs.Written.{Writing, leaf, flat, flat_at, opening, members, struct_piece, elements, array_piece, each_behind, with_behind, whole, deep}
use Rattle.ndr_write.specs.declared.state.Pending.{Pending}
use Rattle.ndr_write.specs.Views.{behind_of, followed, octets_only}
use Rattle.ndr_write.proofs.Chains.{piece, followed_none, followed_then, octets_more}

pub not_zero : (n : ℕ) → (n == 0) ≡ false → n ≡ 0 → ⊥
not_zero zero e = absurd cc
not_zero (suc n) e = λ f. absurd (omega (arith, f))

-- what follows from what a call did
pub then_so : {A E : Type 0} {P Q : Type 0} (r : Result A E) → (P → Q) → OnOk r P → OnOk r Q
then_so (Ok x) f h = f h
then_so (Err e) f h = tt

pub drop_more : {A : Type 0} (xs : List A) (i : ℕ) (x : A) → i < length xs → x ≡ get_or xs i x → drop i xs ≡ x ∷ drop (i + 1) xs
drop_more xs i x lt is = rw (add-one, drop-cons xs i x lt, ← is) refl

module _ (types : List Form) (order : Order) (call : Call) where
  pub front_step : (n : ℕ) (body : Vals) (s : Form) (v : Val) → (n ≡ 0 → ⊥) → front types order call n body s v ≡ front_at types order call (front types order call (n - 1)) body s v
  unfolding front
  front_step zero body s v h = absurd (h refl)
  front_step (suc n) body s v h = let e : suc n - 1 ≡ n = omega arith in rw e refl

  flat_step : (n : ℕ) (body : Vals) (moved : Bool) (s : Form) (v : Val) (i : ℕ) (g : Given) → (n ≡ 0 → ⊥)
      → flat types order call n body moved s v i g ≡ flat_at types order call (front types order call (n - 1)) (flat types order call (n - 1)) body moved s v i g
  unfolding flat
  flat_step zero body moved s v i g h = absurd (h refl)
  flat_step (suc n) body moved s v i g h = let e : suc n - 1 ≡ n = omega arith in rw e refl

  pub flat_so : (n : ℕ) (body : Vals) (moved : Bool) (s : Form) (v : Val) (p q : Piece) → (n ≡ 0 → ⊥)
      → q ≡ followed p (flat_at types order call (front types order call (n - 1)) (flat types order call (n - 1)) body moved s v) → q ≡ followed p (flat types order call n body moved s v)
  flat_so n body moved s v p q h e = rw (flat_step n body moved s v (length p.octets) p.given h) e

  -- no constructs are left
  pub flat_zero : (n : ℕ) (body : Vals) (moved : Bool) (s : Form) (v : Val) (p : Piece) → n ≡ 0 → p ≡ followed p (flat types order call n body moved s v)
  unfolding flat
  flat_zero zero body moved s v p e = sym (followed_none p)
  flat_zero (suc n) body moved s v p e = absurd (omega (arith, e))

  pub whole_zero : (n : ℕ) (b : Behind) (p : Piece) → n ≡ 0 → p ≡ followed p (whole types order call n b)
  unfolding whole
  whole_zero zero b p e = sym (followed_none p)
  whole_zero (suc n) b p e = absurd (omega (arith, e))

  pub member_more : (go : Writing) (body : Vals) (moved last : Bool) (rest others : List Shape) (s : Shape) (values : List Value) (i : ℕ) (v : Value) (p q total : Piece) → i < length values → v ≡ get_or values i v
      → rest ≡ s ∷ others → last ≡ (moved && is_last (forms others)) → q ≡ followed p (go body last (form s) (val v))
      → followed p (members types order call go body moved (forms rest) (vals (drop i values))) ≡ total → followed q (members types order call go body moved (forms others) (vals (drop (i + 1) values))) ≡ total
  member_more go body moved last rest others s values i v p q total lt is r l e so_far =
      let k : drop i values ≡ v ∷ drop (i + 1) values = drop_more values i v lt is in
      let one : followed p (members types order call go body moved (forms rest) (vals (drop i values))) ≡ followed q (members types order call go body moved (forms others) (vals (drop (i + 1) values))) =
      rw (r, k, e, l) (sym (followed_then p (go body (moved && is_last (forms others)) (form s) (val v)) (members types order call go body moved (forms others) (vals (drop (i + 1) values))))) in
      sym one ∙ so_far

  pub element_more : (go : Writing) (body : Vals) (s : Form) (values : List Value) (i : ℕ) (v : Value) (p q total : Piece) → i < length values → v ≡ get_or values i v
      → q ≡ followed p (go body false s (val v))
      → followed p (elements types order call go body s (vals (drop i values))) ≡ total → followed q (elements types order call go body s (vals (drop (i + 1) values))) ≡ total
  element_more go body s values i v p q total lt is e so_far =
      let k : drop i values ≡ v ∷ drop (i + 1) values = drop_more values i v lt is in
      let one : followed p (elements types order call go body s (vals (drop i values))) ≡ followed q (elements types order call go body s (vals (drop (i + 1) values))) =
      rw (k, e) (sym (followed_then p (go body false s (val v)) (elements types order call go body s (vals (drop (i + 1) values))))) in
      sym one ∙ so_far

  pub elements_done : (go : Writing) (body : Vals) (s : Form) (values : List Value) (i : ℕ) (p total : Piece) → length values ≤ i
      → followed p (elements types order call go body s (vals (drop i values))) ≡ total → p ≡ total
  elements_done go body s values i p total le so_far =
      let k : drop i values ≡ [] = drop_all i values le in
      let one : followed p (elements types order call go body s (vals (drop i values))) ≡ p = rw k (followed_none p) in
      sym one ∙ so_far

  -- ---- leaves

  -- of that shape a value is written as a part without parts
  abbrev pub AsLeaf : ℕ → Vals → Bool → Val → Piece → Piece → Shape → Type 0
  AsLeaf n body moved v p q s = q ≡ followed p (octets_only (leaf types order call moved (form s) v)) → q ≡ followed p (flat_at types order call (front types order call n) (flat types order call n) body moved (form s) v)

  -- ---- names

  pub name_so : (n c : ℕ) (body : Vals) (moved : Bool) (switch : Option Count) (s : Form) (v : Val) (p q : Piece) → (n ≡ 0 → ⊥) → slice_get types c ≡ Some s
      → q ≡ followed p (flat types order call (n - 1) body moved s v) → q ≡ followed p (flat types order call n body moved (OfNamed c switch) v)
  name_so n c body moved switch s v p q h is e = flat_so n body moved (OfNamed c switch) v p q h (rw is e)

  -- ---- octets

  -- no constructs are left
  pub none_written : (n : ℕ) (body : Vals) (ns : List ℕ) (p : Piece) → n ≡ 0 → p ≡ followed p (elements types order call (flat types order call n) body OfByte (bytes ns))
  none_written n body [] p e = sym (followed_none p)
  none_written n body (x ∷ xs) p e =
      let rest = elements types order call (flat types order call n) body OfByte (bytes xs) in
      none_written n body xs p e ∙ ap (λ (q : Piece). followed q rest) (flat_zero n body false OfByte (VByte x) p e) ∙ followed_then p (flat types order call n body false OfByte (VByte x)) rest

  octet_written : (x i : ℕ) → x < 256 → number order 1 x i ≡ x ∷ []
  unfolding written
  octet_written x i lt =
      let f : nat_lt x 256 ≡ true = lt-ltb x 256 lt in
      let g : up i 1 - i ≡ 0 = omega arith in
      rw (f, g) refl

  octet_flat : (n : ℕ) (body : Vals) (x : ℕ) (p : Piece) → (n ≡ 0 → ⊥) → x < 256 → followed p (flat types order call n body false OfByte (VByte x)) ≡ piece (p.octets ++ x ∷ []) p.given p.behind
  octet_flat n body x p h lt =
      sym (flat_so n body false OfByte (VByte x) p (piece (p.octets ++ x ∷ []) p.given p.behind) h
      (rw (octet_written x (length p.octets) lt) (sym (ap (λ b. piece (p.octets ++ x ∷ []) p.given b) (append-nil p.behind)))))

  -- octets that are written all at once
  pub all_written : (n : ℕ) (body : Vals) (ns : List ℕ) (p : Piece) → (n ≡ 0 → ⊥) → IsOctets ns → piece (p.octets ++ ns) p.given p.behind ≡ followed p (elements types order call (flat types order call n) body OfByte (bytes ns))
  all_written n body [] p h fits = ap (λ b. piece (p.octets ++ []) p.given b) (sym (append-nil p.behind))
  all_written n body (x ∷ xs) p h fits =
      let rest = elements types order call (flat types order call n) body OfByte (bytes xs) in
      let q = piece (p.octets ++ x ∷ []) p.given p.behind in
      ap (λ ys. piece ys p.given p.behind) (sym (append_assoc p.octets (x ∷ []) xs))
      ∙ all_written n body xs q h (λ i. fits (suc i))
      ∙ ap (λ (r : Piece). followed r rest) (sym (octet_flat n body x p h (fits 0)))
      ∙ followed_then p (flat types order call n body false OfByte (VByte x)) rest

  -- ---- the last member

  module _ (go : Vals → Form → Val → ℕ) (body : Vals) where
    pub last_none : (ss : List Shape) (vs : List Value) → (length ss ≡ 0 → ⊥) → length vs ≤ length ss - 1 → 0 ≡ front_last types order call go body (forms ss) (vals vs)
    last_none [] vs h le = absurd (h refl)
    last_none (s ∷ ss) [] h le = refl
    last_none (s ∷ []) (v ∷ vs) h le = absurd (omega (arith, le))
    last_none (s ∷ t ∷ ss) (v ∷ vs) h le = last_none (t ∷ ss) vs (λ e. absurd (omega (arith, e))) (omega (arith, le))

    pub last_some : (ss : List Shape) (vs : List Value) (k : ℕ) (s : Shape) (v : Value) → length ss ≡ suc k → slice_get vs k ≡ Some v → s ≡ get_or ss k s
        → go body (form s) (val v) ≡ front_last types order call go body (forms ss) (vals vs)
    last_some [] vs k s v e is at = absurd (omega (arith, e))
    last_some (x ∷ ss) [] k s v e is at = absurd cc
    last_some (x ∷ []) (y ∷ vs) zero s v e is at = let f : y ≡ v = cc in rw (at, ← f) refl
    last_some (x ∷ []) (y ∷ vs) (suc k) s v e is at = absurd (omega (arith, e))
    last_some (x ∷ t ∷ ss) (y ∷ vs) zero s v e is at = absurd (omega (arith, e))
    last_some (x ∷ t ∷ ss) (y ∷ vs) (suc k) s v e is at = last_some (t ∷ ss) vs k s v (omega (arith, e)) is at

  -- ---- a part in front of others

  pub struct_so : (size : Vals → Form → Val → ℕ) (go : Writing) (moved fronted : Bool) (ss : Forms) (v : Val) (vs us ws : Vals) (p q : Piece) (ys : List ℕ) → v ≡ VStruct vs → us ≡ vs → ws ≡ vs → fronted ≡ (moved || opens_with types ss)
      → ys ≡ p.octets ++ opening types order call size moved ss us (length p.octets) → q ≡ followed (piece ys p.given p.behind) (members types order call go ws fronted ss ws)
      → q ≡ followed p (struct_piece types order call size go moved ss v)
  struct_so size go moved fronted ss v vs us ws p q ys is first second f ys_is e =
      let m = moved || opens_with types ss in
      let open_in = opening types order call size moved ss vs in
      let ys_so : ys ≡ p.octets ++ open_in (length p.octets) = ys_is ∙ ap (λ (xs : Vals). p.octets ++ opening types order call size moved ss xs (length p.octets)) first in
      e ∙ ap (λ (xs : Vals). followed (piece ys p.given p.behind) (members types order call go xs fronted ss xs)) second
      ∙ ap (λ b. followed (piece ys p.given p.behind) (members types order call go vs b ss vs)) f
      ∙ ap (λ (r : Piece). followed r (members types order call go vs m ss vs)) (octets_more p.octets ys (open_in (length p.octets)) p.given p.behind ys_so)
      ∙ followed_then p (octets_only open_in) (members types order call go vs m ss vs)
      ∙ sym (ap (λ (y : Val). followed p (struct_piece types order call size go moved ss y)) is)

  pub array_so : (go : Writing) (body : Vals) (moved : Bool) (kind : ArrayKind) (s : Form) (n : ℕ) (v : Val) (vs ws : Vals) (p q : Piece) (ys : List ℕ) → v ≡ VArray vs → ws ≡ vs → n ≡ count_of vs
      → ys ≡ p.octets ++ array_counts types order call body moved kind n (length p.octets) → q ≡ followed (piece ys p.given p.behind) (elements types order call go body s ws)
      → q ≡ followed p (array_piece types order call go body moved kind s v)
  array_so go body moved kind s n v vs ws p q ys is same count ys_is e =
      let counts_in = array_counts types order call body moved kind (count_of vs) in
      let ys_so : ys ≡ p.octets ++ counts_in (length p.octets) = ys_is ∙ ap (λ (k : ℕ). p.octets ++ array_counts types order call body moved kind k (length p.octets)) count in
      e ∙ ap (λ (xs : Vals). followed (piece ys p.given p.behind) (elements types order call go body s xs)) same
      ∙ ap (λ (r : Piece). followed r (elements types order call go body s vs)) (octets_more p.octets ys (counts_in (length p.octets)) p.given p.behind ys_so)
      ∙ followed_then p (octets_only counts_in) (elements types order call go body s vs)
      ∙ sym (ap (λ (y : Val). followed p (array_piece types order call go body moved kind s y)) is)

  pub array_front : (body : Vals) (kind : ArrayKind) (n : ℕ) (v : Val) (vs : Vals) → v ≡ VArray vs → n ≡ count_of vs → size_of types order call body kind n ≡ front_array types order call body kind v
  array_front body kind n v vs is count = ap (λ (k : ℕ). size_of types order call body kind k) count ∙ sym (ap (λ (y : Val). front_array types order call body kind y) is)

  no_members : (go : Writing) (body : Vals) (moved : Bool) (rest : List Shape) (p : Piece) → followed p (members types order call go body moved (forms rest) no_val) ≡ p
  no_members go body moved [] p = followed_none p
  no_members go body moved (s ∷ ss) p = followed_none p

  pub members_done : (go : Writing) (body : Vals) (moved : Bool) (rest : List Shape) (values : List Value) (i : ℕ) (p total : Piece) → length values ≤ i
      → followed p (members types order call go body moved (forms rest) (vals (drop i values))) ≡ total → p ≡ total
  members_done go body moved rest values i p total le so_far =
      sym (no_members go body moved rest p) ∙ ap (λ (xs : List Value). followed p (members types order call go body moved (forms rest) (vals xs))) (sym (drop_all i values le)) ∙ so_far

  -- ---- referents

  whole_step : (n : ℕ) (b : Behind) (i : ℕ) (g : Given) → (n ≡ 0 → ⊥)
      → whole types order call n b i g ≡ with_behind types order call (whole types order call (n - 1)) (flat types order call deep b.body false b.shape b.value i g) i
  unfolding whole
  whole_step zero b i g h = absurd (h refl)
  whole_step (suc n) b i g h = let e : suc n - 1 ≡ n = omega arith in rw e refl

  pub whole_so : (n : ℕ) (b : Behind) (xs ys : List ℕ) (g h : Given) (cs : List Behind) (q : Piece) → (n ≡ 0 → ⊥) → piece ys h cs ≡ followed (piece xs g []) (flat types order call deep b.body false b.shape b.value)
      → q ≡ followed (piece ys h []) (each_behind types order call (whole types order call (n - 1)) cs) → q ≡ followed (piece xs g []) (whole types order call n b)
  whole_so n b xs ys g h cs q nz e f =
      let go = whole types order call (n - 1) in
      let a = flat types order call deep b.body false b.shape b.value (length xs) g in
      let p = piece xs g [] in
      f ∙ ap (λ (r : Piece). followed (piece r.octets r.given []) (each_behind types order call go r.behind)) e
      ∙ followed_then p (λ i y. only a.octets a.given) (each_behind types order call go a.behind)
      ∙ sym (ap (λ (r : Piece). joined p r) (whole_step n b (length xs) g nz))
