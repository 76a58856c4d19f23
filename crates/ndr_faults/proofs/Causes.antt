-- A piece that isn't read has its cause.
use Rattle.std.proofs.Common.{◌≡◌, ℕ, zero, suc, ◌+◌, ◌-◌, ◌^◌, ◌<◌, ◌≤◌, ℤ, pos, Bool, true, false, List, length, take, drop, Option, Some, None, Result, Ok, Err, refl, ap, subst, arith}
use Rattle.std.specs.Prelude.{position, nat_lt, ◌==◌, if◌then◌else◌}
use Rattle.std.proofs.lemmas.Bool.{ltb-false, ltb-true}
use Rattle.rpc_base.specs.declared.identifiers.Order.{Order}
use Rattle.rpc_base.specs.Fields.{wire_of}
use Rattle.ndr_value.specs.declared.shape.ArrayKind.{ArrayKind}
use Rattle.ndr_value.specs.declared.shape.ArrayKind.TheVariants.{Fixed, Varying, Conformant, ConformantVarying}
use Rattle.ndr_value.specs.Forms.{Form, OfBool, OfChar, OfInt, OfUint, OfEnum, OfStruct, Forms, Body, ArmForms}
use Rattle.ndr_value.specs.Fits.{selected}
use Rattle.ndr_table.specs.Sound.{is_tag}
use Rattle.ndr_scalars.specs.Scalars.{up, octets_of, signed, number_in, number_at, Scalar}
use Rattle.ndr_scalars.proofs.Laws.{number_stands}
use Rattle.ndr_arrays.specs.declared.counts.Counts.{Counts}
use Rattle.ndr_arrays.specs.declared.counts.CountFault.{CountFault}
use Rattle.ndr_arrays.specs.declared.counts.CountFault.TheVariants as counting
use Rattle.ndr_arrays.specs.declared.texts.TextFault.{TextFault}
use Rattle.ndr_arrays.specs.declared.texts.TextFault.TheVariants as texts
use Rattle.ndr_arrays.specs.Bind.{◌>>=◌}
use Rattle.ndr_arrays.proofs.Steps.{bind_ok, unless_ok, when_ok, ok_is}
use Rattle.ndr_arrays.specs.Counted.{counts, HasMost, moved_most, a_most, HasActual, or_short, word_at, most_at, within_most, actual_at, counts_at}
use Rattle.ndr_arrays.specs.Texts.{HasLimit, of_size, of_count, in_text, before_nul, cells_at, text_in, limit_at, counted_at, text_at}
use Rattle.ndr_model.specs.declared.departure.Departure.{Departure}
use Rattle.ndr_model.specs.declared.departure.Departure.TheVariants.{Short, Bound, Tag, Text}
use Rattle.ndr_model.specs.Part.{tag_size, opens_with, in_place}
use Rattle.ndr_model.specs.Reading.{unless_short, of_counts, of_text, unnamed, number, name_at, wire_at, chars_at, array_at, tag_at, opened_at, begun, struct_at}
use Rattle.ndr_model.proofs.Pieces.{number_is, opened_is}
use Rattle.ndr_faults.specs.Causes.{IsCut, MostOff, most_cut, ActualOff, offset_cut, an_offset, actual_cut, actual_above, CountsOff, varying_off, conformant_off, most_off, actual_off, TextOff, limit_off, counted_off, chars_cut, no_nul, TagOff, tag_cut, too_large, no_name_no_arm, no_name_an_arm, StructureOff, front_cut, gap_cut}

-- the first fails, or what goes on with it
pub data Stops {A B E : Type 0} (r : Result A E) (f : A → Result B E) (d : E) : Type 0 where
  first_stops : r ≡ Err d → Stops r f d
  next_stops : (x : A) → r ≡ Ok x → f x ≡ Err d → Stops r f d

abbrev pub failing : (A : Type 0) {E : Type 0} → E → Result A E
failing A d = Err d

pub err_is : (A : Type 0) {E : Type 0} (c d : E) → failing A c ≡ failing A d → c ≡ d
err_is A c d e = cc

pub stops : {A B E : Type 0} (r : Result A E) (f : A → Result B E) (d : E) → (r >>= f) ≡ Err d → Stops r f d
stops (Ok x) f d e = next_stops x refl e
stops {A} {B} (Err c) f d e = first_stops (ap Err (err_is B c d e))

pub never : {A E : Type 0} (x : A) (d : E) → Ok x ≡ Err d → ⊥
never x d e = absurd cc

-- a reading that goes on with what can't fail
pub mapped_stops : {A B E : Type 0} (r : Result A E) (f : A → B) (d : E) → (r >>= λ x. Ok (f x)) ≡ Err d → r ≡ Err d
mapped_stops (Ok x) f d e = absurd (never (f x) d e)
mapped_stops {A} {B} (Err c) f d e = ap Err (err_is B c d e)

pub if_stops : {A E : Type 0} (b : Bool) (c d : E) (x : A) → (if b then Err c else Ok x) ≡ Err d → (b ≡ true) × (c ≡ d)
if_stops {A} true c d x e = (refl, err_is A c d e)
if_stops false c d x e = absurd (never x d e)

pub else_stops : {A E : Type 0} (b : Bool) (c d : E) (x : A) → (if b then Ok x else Err c) ≡ Err d → (b ≡ false) × (c ≡ d)
else_stops true c d x e = absurd (never x d e)
else_stops {A} false c d x e = (refl, err_is A c d e)

none_if : {A : Type 0} (b : Bool) (x : A) → (if b then None else Some x) ≡ None → b ≡ true
none_if true x e = refl
none_if false x e = absurd cc

-- ---- numbers

module _ (order : Order) (octets : List ℕ) where
  cut_is : (size i : ℕ) → number_at order size octets i ≡ None → IsCut octets (octets_of size) i
  unfolding number_at
  cut_is size i e =
      ltb-true _ _ (none_if (nat_lt (length octets) (up i (octets_of size) + octets_of size)) (number_in order size (take (octets_of size) (drop (up i (octets_of size)) octets)), up i (octets_of size) + octets_of size) e)

  word_off : (i : ℕ) (f : CountFault) → word_at order octets i ≡ Err f → IsCut octets 4 i × (counting.Short (length octets) ≡ f)
  word_off i f e = by (number_at order 4 octets i) refl e
    where
      by : (o : Option (ℕ × ℕ)) → number_at order 4 octets i ≡ o → or_short (length octets) o ≡ Err f → IsCut octets 4 i × (counting.Short (length octets) ≡ f)
      by None is g = (cut_is 4 i is, err_is (ℕ × ℕ) (counting.Short (length octets)) f g)
      by (Some x) is g = absurd (never x f g)

  word_is : (i : ℕ) (x : ℕ × ℕ) → word_at order octets i ≡ Ok x → Scalar order octets 4 x.0 i x.1
  word_is i x e = number_stands order 4 octets i x (by (number_at order 4 octets i) e)
    where
      by : (o : Option (ℕ × ℕ)) → or_short (length octets) o ≡ Ok x → o ≡ Some x
      by None g = absurd cc
      by (Some y) g = cc

  pub number_off : (size i : ℕ) (d : Departure) → number order octets size i ≡ Err d → IsCut octets (octets_of size) i × (Short (length octets) ≡ d)
  number_off size i d e = by (number_at order size octets i) refl e
    where
      by : (o : Option (ℕ × ℕ)) → number_at order size octets i ≡ o → unless_short (length octets) o ≡ Err d → IsCut octets (octets_of size) i × (Short (length octets) ≡ d)
      by None is g = (cut_is size i is, err_is (ℕ × ℕ) (Short (length octets)) d g)
      by (Some x) is g = absurd (never x d g)

-- ---- counts

abbrev as_departure : CountFault → Departure
as_departure (counting.Short n) = Short n
as_departure (counting.Bound i) = Bound i

counts_fail : {A : Type 0} (r : Result A CountFault) (d : Departure) → of_counts r ≡ Err d → (f : CountFault) × (r ≡ Err f) × (as_departure f ≡ d)
counts_fail (Ok x) d e = absurd (never x d e)
counts_fail {A} (Err (counting.Short n)) d e = (counting.Short n, refl, err_is A (Short n) d e)
counts_fail {A} (Err (counting.Bound i)) d e = (counting.Bound i, refl, err_is A (Bound i) d e)

eq_zero : (n : ℕ) → (n == 0) ≡ true → n ≡ 0
eq_zero n e = grind (arith)

not_zero : (n : ℕ) → (n == 0) ≡ false → (k : ℕ) × (n ≡ suc k)
not_zero zero e = absurd cc
not_zero (suc n) e = (n, refl)

module _ (order : Order) (octets : List ℕ) where
  most_fails : (moved : Option ℕ) (i : ℕ) (f : CountFault) → most_at order octets moved i ≡ Err f → MostOff order octets moved i (as_departure f)
  most_fails None i f e = let x = word_off order octets i f e in subst (λ (z : CountFault). MostOff order octets None i (as_departure z)) x.1 (most_cut x.0)
  most_fails (Some most) i f e = absurd (never (most, i) f e)

  most_is : (moved : Option ℕ) (i : ℕ) (x : ℕ × ℕ) → most_at order octets moved i ≡ Ok x → HasMost order octets moved x.0 i x.1
  most_is None i x e = a_most (word_is order octets i x e)
  most_is (Some most) i x e = let same : (most, i) ≡ x = cc in subst (λ (y : ℕ × ℕ). HasMost order octets (Some most) y.0 i y.1) same moved_most

  within_fails : (most i j : ℕ) (f : CountFault) → Scalar order octets 4 0 i j → within_most order octets most j ≡ Err f → ActualOff order octets most i (as_departure f)
  within_fails most i j f at e = by (stops (word_at order octets j) (λ x. (if nat_lt most x.0 then Err (counting.Bound (up j 4)) else Ok (counts most x.0, x.1))) f e)
    where
      by : Stops {B = Counts × ℕ} (word_at order octets j) (λ x. (if nat_lt most x.0 then Err (counting.Bound (up j 4)) else Ok (counts most x.0, x.1))) f → ActualOff order octets most i (as_departure f)
      by (first_stops g) = let x = word_off order octets j f g in subst (λ (z : CountFault). ActualOff order octets most i (as_departure z)) x.1 (actual_cut at x.0)
      by (next_stops x g h) =
          let y = if_stops (nat_lt most x.0) (counting.Bound (up j 4)) f (counts most x.0, x.1) h in
          subst (λ (z : CountFault). ActualOff order octets most i (as_departure z)) y.1 (actual_above at (word_is order octets j x g) (ltb-true _ _ y.0))

  actual_fails : (most i : ℕ) (f : CountFault) → actual_at order octets most i ≡ Err f → ActualOff order octets most i (as_departure f)
  actual_fails most i f e = by (stops (word_at order octets i) (λ x. (if x.0 == 0 then within_most order octets most x.1 else Err (counting.Bound (up i 4)))) f e)
    where
      next : (x : ℕ × ℕ) (b : Bool) → (x.0 == 0) ≡ b → Scalar order octets 4 x.0 i x.1 → (if b then within_most order octets most x.1 else Err (counting.Bound (up i 4))) ≡ Err f → ActualOff order octets most i (as_departure f)
      next x true is at g = within_fails most i x.1 f (subst (λ (n : ℕ). Scalar order octets 4 n i x.1) (eq_zero x.0 is) at) g
      next x false is at g =
          let k = not_zero x.0 is in
          subst (λ (z : CountFault). ActualOff order octets most i (as_departure z)) (err_is (Counts × ℕ) (counting.Bound (up i 4)) f g) (an_offset (subst (λ (n : ℕ). Scalar order octets 4 n i x.1) k.1 at))

      by : Stops {B = Counts × ℕ} (word_at order octets i) (λ x. (if x.0 == 0 then within_most order octets most x.1 else Err (counting.Bound (up i 4)))) f → ActualOff order octets most i (as_departure f)
      by (first_stops g) = let x = word_off order octets i f g in subst (λ (z : CountFault). ActualOff order octets most i (as_departure z)) x.1 (offset_cut x.0)
      by (next_stops x g h) = next x (x.0 == 0) refl (word_is order octets i x g) h

  counts_fails : (kind : ArrayKind) (moved : Option ℕ) (i : ℕ) (f : CountFault) → counts_at order octets kind moved i ≡ Err f → CountsOff order octets moved kind i (as_departure f)
  counts_fails (Fixed n) moved i f e = absurd (never (counts n n, i) f e)
  counts_fails (Varying n c) moved i f e = varying_off (actual_fails n i f e)
  counts_fails (Conformant c) moved i f e = conformant_off (most_fails moved i f (mapped_stops (most_at order octets moved i) (λ x. (counts x.0 x.0, x.1)) f e))
  counts_fails (ConformantVarying c d) moved i f e = by (stops (most_at order octets moved i) (λ x. actual_at order octets x.0 x.1) f e)
    where
      by : Stops (most_at order octets moved i) (λ x. actual_at order octets x.0 x.1) f → CountsOff order octets moved (ConformantVarying c d) i (as_departure f)
      by (first_stops g) = most_off (most_fails moved i f g)
      by (next_stops x g h) = actual_off (most_is moved i x g) (actual_fails x.0 x.1 f h)

  pub array_fails : (kind : ArrayKind) (moved : Option ℕ) (i : ℕ) (d : Departure) → array_at order octets kind moved i ≡ Err d → CountsOff order octets moved kind i d
  array_fails kind moved i d e =
      let x = counts_fail (counts_at order octets kind moved i) d e in
      subst (λ (z : Departure). CountsOff order octets moved kind i z) x.2 (counts_fails kind moved i x.0 x.1)

-- ---- texts

abbrev as_text : TextFault → Departure
as_text (texts.Short n) = Short n
as_text (texts.Bound i) = Bound i
as_text (texts.Text i) = Text i

text_fail : {A : Type 0} (r : Result A TextFault) (d : Departure) → of_text r ≡ Err d → (f : TextFault) × (r ≡ Err f) × (as_text f ≡ d)
text_fail (Ok x) d e = absurd (never x d e)
text_fail {A} (Err (texts.Short n)) d e = (texts.Short n, refl, err_is A (Short n) d e)
text_fail {A} (Err (texts.Bound i)) d e = (texts.Bound i, refl, err_is A (Bound i) d e)
text_fail {A} (Err (texts.Text i)) d e = (texts.Text i, refl, err_is A (Text i) d e)

in_text_fail : {A : Type 0} (r : Result A CountFault) (f : TextFault) → in_text r ≡ Err f → (g : CountFault) × (r ≡ Err g) × (as_departure g ≡ as_text f)
in_text_fail (Ok x) f e = absurd (never x f e)
in_text_fail {A} (Err (counting.Short n)) f e = (counting.Short n, refl, ap as_text (err_is A (texts.Short n) f e))
in_text_fail {A} (Err (counting.Bound i)) f e = (counting.Bound i, refl, ap as_text (err_is A (texts.Bound i) f e))

in_text_ok : {A : Type 0} (r : Result A CountFault) (x : A) → in_text r ≡ Ok x → r ≡ Ok x
in_text_ok (Ok y) x e = cc
in_text_ok (Err (counting.Short n)) x e = absurd cc
in_text_ok (Err (counting.Bound i)) x e = absurd cc

nul_fails : (cells : List ℕ) (i : ℕ) (o : Option ℕ) (f : TextFault) → before_nul cells i o ≡ Err f → (o ≡ None) × (texts.Text i ≡ f)
nul_fails cells i None f e = (refl, err_is (List ℕ) (texts.Text i) f e)
nul_fails cells i (Some n) f e = absurd (never (take n cells) f e)

module _ (order : Order) (octets : List ℕ) where
  actual_is : (most i : ℕ) (x : Counts × ℕ) → actual_at order octets most i ≡ Ok x → HasActual order octets most x.0.actual i x.1
  actual_is most i x e =
      let a = bind_ok (word_at order octets i) (λ y. (if y.0 == 0 then within_most order octets most y.1 else Err (counting.Bound (up i 4)))) x e in
      let w = when_ok (a.0.0 == 0) (counting.Bound (up i 4)) (within_most order octets most a.0.1) x a.2 in
      let b = bind_ok (word_at order octets a.0.1) (λ y. (if nat_lt most y.0 then Err (counting.Bound (up a.0.1 4)) else Ok (counts most y.0, y.1))) x w.1 in
      let u = unless_ok (nat_lt most b.0.0) (counting.Bound (up a.0.1 4)) (Ok (counts most b.0.0, b.0.1)) x b.2 in
      let offset : Scalar order octets 4 0 i a.0.1 = subst (λ (n : ℕ). Scalar order octets 4 n i a.0.1) (eq_zero a.0.0 w.0) (word_is order octets i a.0 a.1) in
      subst (λ (y : Counts × ℕ). HasActual order octets most y.0.actual i y.1) (ok_is CountFault (counts most b.0.0, b.0.1) x u.1)
      (record { h = a.0.1; offset = offset; actual_count = word_is order octets a.0.1 b.0 b.1; fits = ltb-false _ _ u.0 })

  limit_is : (size moved : Option ℕ) (i : ℕ) (x : ℕ × ℕ) → limit_at order octets size moved i ≡ Ok x → HasLimit order octets moved size x.0 i x.1
  limit_is (Some most) moved i x e = subst (λ (y : ℕ × ℕ). HasLimit order octets moved (Some most) y.0 i y.1) (ok_is CountFault (most, i) x e) of_size
  limit_is None moved i x e = of_count (most_is order octets moved i x e)

  limit_fails : (size moved : Option ℕ) (i : ℕ) (f : CountFault) → limit_at order octets size moved i ≡ Err f → TextOff order octets size moved i (as_departure f)
  limit_fails (Some most) moved i f e = absurd (never (most, i) f e)
  limit_fails None moved i f e = limit_off (most_fails order octets moved i f e)

  counted_fails : (size moved : Option ℕ) (i : ℕ) (f : CountFault) → counted_at order octets size moved i ≡ Err f → TextOff order octets size moved i (as_departure f)
  counted_fails size moved i f e = by (stops (limit_at order octets size moved i) (λ x. actual_at order octets x.0 x.1) f e)
    where
      by : Stops (limit_at order octets size moved i) (λ x. actual_at order octets x.0 x.1) f → TextOff order octets size moved i (as_departure f)
      by (first_stops g) = limit_fails size moved i f g
      by (next_stops x g h) = counted_off (limit_is size moved i x g) (actual_fails order octets x.0 x.1 f h)

  -- the octets of a text whose counts stand
  cells_fail : (size moved : Option ℕ) (i most h : ℕ) (x : Counts × ℕ) (f : TextFault) → HasLimit order octets moved size most i h → HasActual order octets most x.0.actual h x.1
      → (cells_at octets x.1 x.0.actual >>= λ y. text_in (x.1 - 4) y) ≡ Err f → TextOff order octets size moved i (as_text f)
  cells_fail size moved i most h x f limit actual e = by (nat_lt (length octets) (x.1 + x.0.actual)) refl e
    where
      cells : List ℕ
      cells = take x.0.actual (drop x.1 octets)

      by : (b : Bool) → nat_lt (length octets) (x.1 + x.0.actual) ≡ b → ((if b then Err (texts.Short (length octets)) else Ok (cells, x.1 + x.0.actual)) >>= λ y. text_in (x.1 - 4) y) ≡ Err f → TextOff order octets size moved i (as_text f)
      by true is g = subst (λ (z : TextFault). TextOff order octets size moved i (as_text z)) (err_is (List ℕ × ℕ) (texts.Short (length octets)) f g) (chars_cut limit actual (ltb-true _ _ is))
      by false is g =
          let n = nul_fails cells (x.1 - 4) (position (λ c. c == 0) cells) f (mapped_stops (before_nul cells (x.1 - 4) (position (λ c. c == 0) cells)) (λ text. (text, x.1 + x.0.actual)) f g) in
          subst (λ (z : TextFault). TextOff order octets size moved i (as_text z)) n.1 (no_nul limit actual (ltb-false _ _ is) n.0)

  text_fails : (size moved : Option ℕ) (i : ℕ) (f : TextFault) → text_at order octets size moved i ≡ Err f → TextOff order octets size moved i (as_text f)
  text_fails size moved i f e = by (stops (in_text (counted_at order octets size moved i)) (λ x. cells_at octets x.1 x.0.actual >>= λ y. text_in (x.1 - 4) y) f e)
    where
      by : Stops (in_text (counted_at order octets size moved i)) (λ x. cells_at octets x.1 x.0.actual >>= λ y. text_in (x.1 - 4) y) f → TextOff order octets size moved i (as_text f)
      by (first_stops g) =
          let y = in_text_fail (counted_at order octets size moved i) f g in
          subst (λ (z : Departure). TextOff order octets size moved i z) y.2 (counted_fails size moved i y.0 y.1)
      by (next_stops x g h) =
          let l = bind_ok (limit_at order octets size moved i) (λ y. actual_at order octets y.0 y.1) x (in_text_ok (counted_at order octets size moved i) x g) in
          cells_fail size moved i l.0.0 l.0.1 x f (limit_is size moved i l.0 l.1) (actual_is l.0.0 l.0.1 x l.2) h

  pub chars_fail : (size moved : Option ℕ) (i : ℕ) (d : Departure) → chars_at order octets size moved i ≡ Err d → TextOff order octets size moved i d
  chars_fail size moved i d e =
      let x = text_fail (text_at order octets size moved i) d e in
      subst (λ (z : Departure). TextOff order octets size moved i z) x.2 (text_fails size moved i x.0 x.1)

-- ---- names, handles and tags

module _ (order : Order) (octets : List ℕ) where
  -- a name of an enumeration
  pub data NameOff (count i : ℕ) (d : Departure) : Type 0 where
    name_cut : IsCut octets 2 i → Short (length octets) ≡ d → NameOff count i d
    above : (n j : ℕ) → Scalar order octets 2 n i j → count ≤ n → Text (up i 2) ≡ d → NameOff count i d

  pub name_fails : (count i : ℕ) (d : Departure) → name_at order octets count i ≡ Err d → NameOff count i d
  name_fails count i d e = by (stops (number order octets 2 i) (λ x. (if nat_lt x.0 count then Ok x else Err (Text (up i 2)))) d e)
    where
      by : Stops (number order octets 2 i) (λ x. (if nat_lt x.0 count then Ok x else Err (Text (up i 2)))) d → NameOff count i d
      by (first_stops g) = let x = number_off order octets 2 i d g in name_cut x.0 x.1
      by (next_stops x g h) = let y = else_stops (nat_lt x.0 count) (Text (up i 2)) d x h in above x.0 x.1 (number_is order octets 2 i x g) (ltb-false _ _ y.0) y.1

  pub wire_fails : (i : ℕ) (d : Departure) → wire_at order octets i ≡ Err d → (length octets < up i 4 + 20) × (Short (length octets) ≡ d)
  wire_fails i d e =
      let x = if_stops (nat_lt (length octets) (up i 4 + 20)) (Short (length octets)) d (wire_of order (take 20 (drop (up i 4) octets)), up i 4 + 20) e in
      (ltb-true _ _ x.0, x.1)

  tag_short : (arms : ArmForms) (t : Form) (i : ℕ) (d : Departure) → IsCut octets (tag_size t) i → Short (length octets) ≡ d → TagOff order octets arms t i d
  tag_short arms t i d c same = subst (λ (z : Departure). TagOff order octets arms t i z) same (tag_cut c)

  pub tag_fails : (t : Form) (arms : ArmForms) (i : ℕ) (d : Departure) → is_tag t ≡ true → tag_at order octets t arms i ≡ Err d → TagOff order octets arms t i d
  tag_fails OfBool arms i d is e =
      let x = number_off order octets 1 i d (mapped_stops (number order octets 1 i) (λ x. (pos (if x.0 == 0 then 0 else 1), x.1)) d e) in tag_short arms OfBool i d x.0 x.1
  tag_fails OfChar arms i d is e =
      let x = number_off order octets 1 i d (mapped_stops (number order octets 1 i) (λ x. (pos x.0, x.1)) d e) in tag_short arms OfChar i d x.0 x.1
  tag_fails (OfInt size) arms i d is e =
      let x = number_off order octets size i d (mapped_stops (number order octets size i) (λ x. (signed size x.0, x.1)) d e) in tag_short arms (OfInt size) i d x.0 x.1
  tag_fails (OfUint size) arms i d is e = by (stops (number order octets size i) (λ x. (if nat_lt x.0 (2 ^ 63) then Ok (pos x.0, x.1) else Err (Tag (up i (octets_of size))))) d e)
    where
      by : Stops {B = ℤ × ℕ} (number order octets size i) (λ x. (if nat_lt x.0 (2 ^ 63) then Ok (pos x.0, x.1) else Err (Tag (up i (octets_of size))))) d → TagOff order octets arms (OfUint size) i d
      by (first_stops g) = let x = number_off order octets size i d g in tag_short arms (OfUint size) i d x.0 x.1
      by (next_stops x g h) =
          let y = else_stops (nat_lt x.0 (2 ^ 63)) (Tag (up i (octets_of size))) d (pos x.0, x.1) h in
          subst (λ (z : Departure). TagOff order octets arms (OfUint size) i z) y.1 (too_large (number_is order octets size i x g) (ltb-false _ _ y.0))
  tag_fails (OfEnum count) arms i d is e = by (stops (number order octets 2 i) (λ x. (if nat_lt x.0 count then Ok (pos x.0, x.1) else Err (unnamed (selected arms (pos x.0)) (up i 2)))) d e)
    where
      out : (n j : ℕ) (o : Option Body) → selected arms (pos n) ≡ o → Scalar order octets 2 n i j → count ≤ n → unnamed o (up i 2) ≡ d → TagOff order octets arms (OfEnum count) i d
      out n j None is at le same = subst (λ (z : Departure). TagOff order octets arms (OfEnum count) i z) same (no_name_no_arm at le is)
      out n j (Some b) is at le same = subst (λ (z : Departure). TagOff order octets arms (OfEnum count) i z) same (no_name_an_arm at le is)

      by : Stops {B = ℤ × ℕ} (number order octets 2 i) (λ x. (if nat_lt x.0 count then Ok (pos x.0, x.1) else Err (unnamed (selected arms (pos x.0)) (up i 2)))) d → TagOff order octets arms (OfEnum count) i d
      by (first_stops g) = let x = number_off order octets 2 i d g in tag_short arms (OfEnum count) i d x.0 x.1
      by (next_stops x g h) =
          let y = else_stops (nat_lt x.0 count) (unnamed (selected arms (pos x.0)) (up i 2)) d (pos x.0, x.1) h in
          out x.0 x.1 (selected arms (pos x.0)) refl (number_is order octets 2 i x g) (ltb-false _ _ y.0) y.1
  tag_fails _ arms i d is e = absurd cc

-- ---- structures

abbrev opened_ok : Option ℕ × ℕ → Result (Option ℕ × ℕ) Departure
opened_ok x = Ok x

module _ (types : List Form) (order : Order) (octets : List ℕ) where
  opened_fails : (ss : Forms) (moved : Option ℕ) (i : ℕ) (d : Departure) → opened_at order octets types ss moved i ≡ Err d → StructureOff types order octets ss moved i d
  opened_fails ss (Some most) i d e = absurd (never (Some most, i) d e)
  opened_fails ss None i d e = by (opens_with types ss) refl e
    where
      by : (b : Bool) → opens_with types ss ≡ b → (if b then (number order octets 4 i >>= λ x. opened_ok (Some x.0, x.1)) else opened_ok (None, i)) ≡ Err d → StructureOff types order octets ss None i d
      by true is g =
          let x = number_off order octets 4 i d (mapped_stops (number order octets 4 i) (λ x. (Some x.0, x.1)) d g) in
          subst (λ (z : Departure). StructureOff types order octets ss None i z) x.1 (front_cut is x.0)
      by false is g = absurd (never (None, i) d g)

  pub structure_fails : (ss : Forms) (moved : Option ℕ) (i : ℕ) (d : Departure) → struct_at order octets types ss moved i ≡ Err d → StructureOff types order octets ss moved i d
  structure_fails ss moved i d e = by (stops (opened_at order octets types ss moved i) (λ x. begun order octets x.0 (in_place types (OfStruct ss) x.1)) d e)
    where
      by : Stops (opened_at order octets types ss moved i) (λ x. begun order octets x.0 (in_place types (OfStruct ss) x.1)) d → StructureOff types order octets ss moved i d
      by (first_stops g) = opened_fails ss moved i d g
      by (next_stops x g h) =
          let y = if_stops (nat_lt (length octets) (in_place types (OfStruct ss) x.1)) (Short (length octets)) d (x.0, in_place types (OfStruct ss) x.1) h in
          subst (λ (z : Departure). StructureOff types order octets ss moved i z) y.1 (gap_cut (opened_is order octets types ss moved i x g) (ltb-true _ _ y.0))
