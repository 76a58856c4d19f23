-- The counts and texts that are read are those that stand there.
use Rattle.std.proofs.Common.{◌≡◌, ℕ, ◌+◌, ◌-◌, ◌≤◌, true, false, List, length, take, drop, Option, Some, None, Result, Ok, Err, refl, sym, ap, subst, ◌∙◌, arith}
use Rattle.std.specs.Prelude.{position, nat_lt, ◌==◌, if◌then◌else◌, IfOk, IsOkAnd, MatchResult}
use Rattle.std.proofs.lemmas.Bool.{ltb-false, le-ltb}
use Rattle.rpc_base.specs.declared.identifiers.Order.{Order}
use Rattle.ndr_value.specs.declared.shape.ArrayKind.{ArrayKind}
use Rattle.ndr_value.specs.declared.shape.ArrayKind.TheVariants.{Fixed, Varying, Conformant, ConformantVarying}
use Rattle.ndr_scalars.specs.Scalars.{up, number_at, Scalar}
use Rattle.ndr_scalars.proofs.Laws.{number_stands, number_read}
use Rattle.ndr_arrays.specs.declared.counts.Counts.{Counts}
use Rattle.ndr_arrays.specs.declared.counts.CountFault.{CountFault}
use Rattle.ndr_arrays.specs.declared.counts.CountFault.TheVariants.{Bound}
use Rattle.ndr_arrays.specs.declared.counts.CountFault.TheVariants as counting
use Rattle.ndr_arrays.specs.declared.texts.TextFault.{TextFault}
use Rattle.ndr_arrays.specs.declared.texts.TextFault.TheVariants as texts
use Rattle.ndr_arrays.specs.Bind.{◌>>=◌}
use Rattle.ndr_arrays.specs.Counted.{counts, HasMost, moved_most, a_most, HasActual, HasCounts, of_fixed, of_varying, of_conformant, of_both, or_short, word_at, most_at, within_most, actual_at, counts_at}
use Rattle.ndr_arrays.specs.Texts.{HasLimit, of_size, of_count, IsText, in_text, before_nul, cells_at, text_in, limit_at, counted_at, text_at}
use Rattle.ndr_arrays.proofs.Steps.{bind_ok, through, unless_ok, when_ok, ok_is}

short_ok : {A : Type 0} (n : ℕ) (o : Option A) (x : A) → or_short n o ≡ Ok x → o ≡ Some x
short_ok n None x e = absurd cc
short_ok n (Some y) x e = cc

eq_zero : (n : ℕ) → (n == 0) ≡ true → n ≡ 0
eq_zero n e = grind (arith)

module _ (order : Order) (octets : List ℕ) where
  -- ---- what is read stands there

  word_stands : (i : ℕ) (x : ℕ × ℕ) → word_at order octets i ≡ Ok x → Scalar order octets 4 x.0 i x.1
  word_stands i x e = number_stands order 4 octets i x (short_ok (length octets) (number_at order 4 octets i) x e)

  most_stands : (moved : Option ℕ) (i : ℕ) (x : ℕ × ℕ) → most_at order octets moved i ≡ Ok x → HasMost order octets moved x.0 i x.1
  most_stands None i x e = a_most (word_stands i x e)
  most_stands (Some m) i x e = subst (λ (y : ℕ × ℕ). HasMost order octets (Some m) y.0 i y.1) (ok_is CountFault (m, i) x e) moved_most

  actual_stands : (most i : ℕ) (x : Counts × ℕ) → actual_at order octets most i ≡ Ok x → (x.0.most ≡ most) × HasActual order octets most x.0.actual i x.1
  actual_stands most i x e =
      let a = bind_ok (word_at order octets i) (λ y. (if y.0 == 0 then within_most order octets most y.1 else Err (Bound (up i 4)))) x e in
      let w = when_ok (a.0.0 == 0) (Bound (up i 4)) (within_most order octets most a.0.1) x a.2 in
      let b = bind_ok (word_at order octets a.0.1) (λ y. (if nat_lt most y.0 then Err (Bound (up a.0.1 4)) else Ok (counts most y.0, y.1))) x w.1 in
      let u = unless_ok (nat_lt most b.0.0) (Bound (up a.0.1 4)) (Ok (counts most b.0.0, b.0.1)) x b.2 in
      let offset : Scalar order octets 4 0 i a.0.1 = subst (λ (n : ℕ). Scalar order octets 4 n i a.0.1) (eq_zero a.0.0 w.0) (word_stands i a.0 a.1) in
      subst (λ (y : Counts × ℕ). (y.0.most ≡ most) × HasActual order octets most y.0.actual i y.1) (ok_is CountFault (counts most b.0.0, b.0.1) x u.1)
      (refl, record { h = a.0.1; offset = offset; actual_count = word_stands a.0.1 b.0 b.1; fits = ltb-false _ _ u.0 })

  pub counts_stand : (moved : Option ℕ) (kind : ArrayKind) (i : ℕ) (x : Counts × ℕ) → counts_at order octets kind moved i ≡ Ok x → HasCounts order octets moved kind x.0 i x.1
  counts_stand moved (Fixed n) i x e = subst (λ (y : Counts × ℕ). HasCounts order octets moved (Fixed n) y.0 i y.1) (ok_is CountFault (counts n n, i) x e) of_fixed
  counts_stand moved (Varying n c) i x e =
      let a = actual_stands n i x e in
      subst (λ (m : ℕ). HasCounts order octets moved (Varying n c) (counts m x.0.actual) i x.1) (sym a.0) (of_varying a.1)
  counts_stand moved (Conformant c) i x e =
      let a = bind_ok (most_at order octets moved i) (λ y. Ok (counts y.0 y.0, y.1)) x e in
      subst (λ (y : Counts × ℕ). HasCounts order octets moved (Conformant c) y.0 i y.1) (ok_is CountFault (counts a.0.0 a.0.0, a.0.1) x a.2) (of_conformant (most_stands moved i a.0 a.1))
  counts_stand moved (ConformantVarying c d) i x e =
      let a = bind_ok (most_at order octets moved i) (λ y. actual_at order octets y.0 y.1) x e in
      let b = actual_stands a.0.0 a.0.1 x a.2 in
      subst (λ (m : ℕ). HasCounts order octets moved (ConformantVarying c d) (counts m x.0.actual) i x.1) (sym b.0) (of_both (most_stands moved i a.0 a.1) b.1)

  -- ---- what stands there is read

  word_read : (n i j : ℕ) → Scalar order octets 4 n i j → word_at order octets i ≡ Ok (n, j)
  word_read n i j s = ap (or_short (length octets)) (number_read order 4 octets n i j s)

  most_read : {moved : Option ℕ} {m i j : ℕ} → HasMost order octets moved m i j → most_at order octets moved i ≡ Ok (m, j)
  most_read moved_most = refl
  most_read (a_most {most = m} {i = i} {j = j} s) = word_read m i j s

  within_read : (most actual i j : ℕ) → actual ≤ most → Scalar order octets 4 actual i j → within_most order octets most i ≡ Ok (counts most actual, j)
  within_read most actual i j fits s =
      let f : nat_lt most actual ≡ false = le-ltb _ _ fits in
      through (word_at order octets i) (λ y. (if nat_lt most y.0 then Err (Bound (up i 4)) else Ok (counts most y.0, y.1))) (actual, j) (word_read actual i j s) ∙ rw f refl

  actual_read : (most actual i j : ℕ) → HasActual order octets most actual i j → actual_at order octets most i ≡ Ok (counts most actual, j)
  actual_read most actual i j h =
      through (word_at order octets i) (λ y. (if y.0 == 0 then within_most order octets most y.1 else Err (Bound (up i 4)))) (0, h.h) (word_read 0 i h.h h.offset)
      ∙ within_read most actual h.h j h.fits h.actual_count

  pub counts_read : {moved : Option ℕ} {kind : ArrayKind} {c : Counts} {i j : ℕ} → HasCounts order octets moved kind c i j → counts_at order octets kind moved i ≡ Ok (c, j)
  counts_read of_fixed = refl
  counts_read (of_varying {n = n} {actual = a} {i = i} {j = j} h) = actual_read n a i j h
  counts_read {moved} (of_conformant {most = m} {i = i} {j = j} h) = through (most_at order octets moved i) (λ y. Ok (counts y.0 y.0, y.1)) (m, j) (most_read h)
  counts_read {moved} (of_both {most = m} {actual = a} {i = i} {h = k} {j = j} f h) =
      through (most_at order octets moved i) (λ y. actual_at order octets y.0 y.1) (m, k) (most_read f) ∙ actual_read m a k j h

  pub counts_found : (moved : Option ℕ) (kind : ArrayKind) (i : ℕ) (r : Result (Counts × ℕ) CountFault) → r ≡ counts_at order octets kind moved i → IfOk r (λ x. HasCounts order octets moved kind x.0 i x.1)
  counts_found moved kind i (Ok x) e = counts_stand moved kind i x (sym e)
  counts_found moved kind i (Err d) e = tt

in_text_ok : {A : Type 0} (r : Result A CountFault) (x : A) → in_text r ≡ Ok x → r ≡ Ok x
in_text_ok (Ok y) x e = cc
in_text_ok (Err (counting.Short n)) x e = absurd cc
in_text_ok (Err (counting.Bound i)) x e = absurd cc

nul_ok : (cells : List ℕ) (i : ℕ) (o : Option ℕ) (text : List ℕ) → before_nul cells i o ≡ Ok text → (n : ℕ) × (o ≡ Some n) × (take n cells ≡ text)
nul_ok cells i None text e = absurd cc
nul_ok cells i (Some n) text e = (n, refl, cc)

module _ (order : Order) (octets : List ℕ) where
  limit_stands : (size moved : Option ℕ) (i : ℕ) (x : ℕ × ℕ) → limit_at order octets size moved i ≡ Ok x → HasLimit order octets moved size x.0 i x.1
  limit_stands (Some most) moved i x e = subst (λ (y : ℕ × ℕ). HasLimit order octets moved (Some most) y.0 i y.1) (ok_is CountFault (most, i) x e) of_size
  limit_stands None moved i x e = of_count (most_stands order octets moved i x e)

  text_made : (size moved : Option ℕ) (i most actual h k nul : ℕ) (cells text : List ℕ) (end : ℕ) → HasLimit order octets moved size most i h → HasActual order octets most actual h k
      → k + actual ≤ length octets → take actual (drop k octets) ≡ cells → k + actual ≡ end → position (λ c. c == 0) cells ≡ Some nul → take nul cells ≡ text → IsText order octets size moved text i end
  text_made size moved i most actual h k nul cells text end limit counted long cells-is end-is nul-is text-is = record {
    most = most;
    actual = actual;
    h = h;
    k = k;
    limit = limit;
    counted = counted;
    ends = sym end-is;
    within = subst (λ (z : ℕ). z ≤ length octets) end-is long;
    nul = nul;
    first_nul = rw cells-is nul-is;
    is = rw cells-is (sym text-is);
  }

  pub text_stands : (size moved : Option ℕ) (i : ℕ) (x : List ℕ × ℕ) → text_at order octets size moved i ≡ Ok x → IsText order octets size moved x.0 i x.1
  text_stands size moved i x e =
      let a = bind_ok (in_text (counted_at order octets size moved i)) (λ y. cells_at octets y.1 y.0.actual >>= λ z. text_in (y.1 - 4) z) x e in
      let l = bind_ok (limit_at order octets size moved i) (λ y. actual_at order octets y.0 y.1) a.0 (in_text_ok (counted_at order octets size moved i) a.0 a.1) in
      let m = actual_stands order octets l.0.0 l.0.1 a.0 l.2 in
      let c = bind_ok (cells_at octets a.0.1 a.0.0.actual) (λ z. text_in (a.0.1 - 4) z) x a.2 in
      let u = unless_ok (nat_lt (length octets) (a.0.1 + a.0.0.actual)) (texts.Short (length octets)) (Ok (take a.0.0.actual (drop a.0.1 octets), a.0.1 + a.0.0.actual)) c.0 c.1 in
      let g = ok_is TextFault (take a.0.0.actual (drop a.0.1 octets), a.0.1 + a.0.0.actual) c.0 u.1 in
      let f = bind_ok (before_nul c.0.0 (a.0.1 - 4) (position (λ c. c == 0) c.0.0)) (λ text. Ok (text, c.0.1)) x c.2 in
      let n = nul_ok c.0.0 (a.0.1 - 4) (position (λ c. c == 0) c.0.0) f.0 f.1 in
      subst (λ (y : List ℕ × ℕ). IsText order octets size moved y.0 i y.1) (ok_is TextFault (f.0, c.0.1) x f.2)
      (text_made size moved i l.0.0 a.0.0.actual l.0.1 a.0.1 n.0 c.0.0 f.0 c.0.1 (limit_stands size moved i l.0 l.1) m.1
      (ltb-false _ _ u.0) (ap (λ (p : List ℕ × ℕ). p.0) g) (ap (λ (p : List ℕ × ℕ). p.1) g) n.1 n.2)

  limit_read : {size moved : Option ℕ} {most i j : ℕ} → HasLimit order octets moved size most i j → limit_at order octets size moved i ≡ Ok (most, j)
  limit_read of_size = refl
  limit_read (of_count h) = most_read order octets h

  read_so : (size moved : Option ℕ) (i j k nul most actual : ℕ) (text : List ℕ) → counted_at order octets size moved i ≡ Ok (counts most actual, k) → nat_lt (length octets) (k + actual) ≡ false
      → position (λ c. c == 0) (take actual (drop k octets)) ≡ Some nul → j ≡ k + actual → text ≡ take nul (take actual (drop k octets)) → text_at order octets size moved i ≡ Ok (text, j)
  read_so size moved i j k nul most actual text counted long has end-is text-is =
      ap (λ r. in_text r >>= λ x. cells_at octets x.1 x.0.actual >>= λ y. text_in (x.1 - 4) y) counted ∙ rw (long, has, end-is, text-is) refl

  pub text_read : (size moved : Option ℕ) (text : List ℕ) (i j : ℕ) → IsText order octets size moved text i j → text_at order octets size moved i ≡ Ok (text, j)
  text_read size moved text i j t =
      let counted : counted_at order octets size moved i ≡ Ok (counts t.most t.actual, t.k) =
      through (limit_at order octets size moved i) (λ x. actual_at order octets x.0 x.1) (t.most, t.h) (limit_read t.limit) ∙ actual_read order octets t.most t.actual t.h t.k t.counted in
      let long : nat_lt (length octets) (t.k + t.actual) ≡ false = le-ltb _ _ (omega (arith, t.ends, t.within)) in
      read_so size moved i j t.k t.nul t.most t.actual text counted long t.first_nul t.ends t.is

module _ {R : Type 0} (view : R → List ℕ × ℕ) (order : Order) (octets : List ℕ) (size moved : Option ℕ) (i : ℕ) where
  pub text_found : (r : Result R TextFault) → MatchResult r (λ x. text_at order octets size moved i ≡ Ok (view x)) (λ e. text_at order octets size moved i ≡ Err e)
      → IfOk r (λ x. IsText order octets size moved (view x).0 i (view x).1)
  text_found (Ok x) e = text_stands order octets size moved i (view x) e
  text_found (Err d) e = tt

  as_ok : (o : Result (List ℕ × ℕ) TextFault) (d : TextFault) (y : List ℕ × ℕ) → o ≡ Err d → o ≡ Ok y → ⊥
  as_ok (Ok x) d y e f = absurd cc
  as_ok (Err x) d y e f = absurd cc

  pub text_only : (r : Result R TextFault) → MatchResult r (λ x. text_at order octets size moved i ≡ Ok (view x)) (λ e. text_at order octets size moved i ≡ Err e)
      → (text : List ℕ) (j : ℕ) → IsText order octets size moved text i j → IsOkAnd r (λ x. ((view x).0 ≡ text) × ((view x).1 ≡ j))
  text_only (Ok x) e text j t =
      let same : view x ≡ (text, j) = ok_is TextFault (view x) (text, j) (sym e ∙ text_read order octets size moved text i j t) in
      (ap (λ (y : List ℕ × ℕ). y.0) same, ap (λ (y : List ℕ × ℕ). y.1) same)
  text_only (Err d) e text j t = absurd (as_ok (text_at order octets size moved i) d (text, j) e (text_read order octets size moved text i j t))
