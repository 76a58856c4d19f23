-- A piece that is off is told so.
use Rattle.std.proofs.Common.{◌≡◌, ℕ, suc, ◌+◌, ◌-◌, ◌^◌, ◌<◌, ◌≤◌, pos, Bool, true, false, List, length, take, drop, Option, Some, None, Result, Ok, Err, refl, ap, ◌∙◌, arith}
use Rattle.std.specs.Prelude.{nat_lt, ◌==◌, if◌then◌else◌}
use Rattle.std.proofs.lemmas.Bool.{lt-ltb, le-ltb}
use Rattle.rpc_base.specs.declared.identifiers.Order.{Order}
use Rattle.rpc_base.specs.Fields.{wire_of}
use Rattle.ndr_value.specs.declared.shape.ArrayKind.{ArrayKind}
use Rattle.ndr_value.specs.Forms.{Form, OfBool, OfChar, OfInt, OfUint, OfEnum, OfStruct, Forms, Body, ArmForms}
use Rattle.ndr_value.specs.Fits.{selected}
use Rattle.ndr_table.specs.Sound.{is_tag}
use Rattle.ndr_scalars.specs.Scalars.{up, octets_of, signed, number_in, number_at, Scalar}
use Rattle.ndr_scalars.proofs.Laws.{number_read}
use Rattle.ndr_arrays.specs.declared.counts.Counts.{Counts}
use Rattle.ndr_arrays.specs.declared.counts.CountFault.{CountFault}
use Rattle.ndr_arrays.specs.declared.counts.CountFault.TheVariants as counting
use Rattle.ndr_arrays.specs.declared.texts.TextFault.{TextFault}
use Rattle.ndr_arrays.specs.declared.texts.TextFault.TheVariants as texts
use Rattle.ndr_arrays.specs.Bind.{◌>>=◌}
use Rattle.ndr_arrays.proofs.Steps.{through}
use Rattle.ndr_arrays.specs.Counted.{counts, HasMost, moved_most, a_most, HasActual, or_short, word_at, most_at, within_most, actual_at, counts_at}
use Rattle.ndr_arrays.specs.Texts.{HasLimit, of_size, of_count, in_text, before_nul, cells_at, text_in, limit_at, counted_at}
use Rattle.ndr_model.specs.declared.departure.Departure.{Departure}
use Rattle.ndr_model.specs.declared.departure.Departure.TheVariants.{Short, Bound, Tag, Text}
use Rattle.ndr_model.specs.Part.{tag_size, Opens, in_a_greater, in_front, not_open, opens_with, in_place}
use Rattle.ndr_model.specs.Reading.{unless_short, of_counts, of_text, unnamed, number, name_at, wire_at, chars_at, array_at, tag_at, opened_at, begun, struct_at}
use Rattle.ndr_laws.proofs.Again.{number_again}
use Rattle.ndr_faults.specs.Causes.{IsCut, MostOff, most_cut, ActualOff, offset_cut, an_offset, actual_cut, actual_above, CountsOff, varying_off, conformant_off, most_off, actual_off, TextOff, limit_off, counted_off, chars_cut, no_nul, TagOff, tag_cut, too_large, no_name_no_arm, no_name_an_arm, StructureOff, front_cut, gap_cut}

pub stopped : {A B E : Type 0} (r : Result A E) (f : A → Result B E) (d : E) → r ≡ Err d → (r >>= f) ≡ Err d
stopped {A} {B} {E} r f d e = ap (λ (q : Result A E). q >>= f) e

pub chosen : {A : Type 0} (b : Bool) (x y : A) → b ≡ true → (if b then x else y) ≡ x
chosen {A} b x y e = ap (λ (c : Bool). if c then x else y) e

pub passed : {A : Type 0} (b : Bool) (x y : A) → b ≡ false → (if b then x else y) ≡ y
passed {A} b x y e = ap (λ (c : Bool). if c then x else y) e

positive : (n : ℕ) → (suc n == 0) ≡ false
positive n = grind (arith)

module _ (order : Order) (octets : List ℕ) where
  cut_none : (size i : ℕ) → IsCut octets (octets_of size) i → number_at order size octets i ≡ None
  unfolding number_at
  cut_none size i c = chosen (nat_lt (length octets) (up i (octets_of size) + octets_of size)) None
      (Some (number_in order size (take (octets_of size) (drop (up i (octets_of size)) octets)), up i (octets_of size) + octets_of size)) (lt-ltb _ _ c)

  pub number_stops : (size i : ℕ) → IsCut octets (octets_of size) i → number order octets size i ≡ Err (Short (length octets))
  number_stops size i c = ap (unless_short (length octets)) (cut_none size i c)

  pub name_stops : {count n i j : ℕ} → Scalar order octets 2 n i j → count ≤ n → name_at order octets count i ≡ Err (Text (up i 2))
  name_stops {count} {n} {i} {j} s le =
      through (number order octets 2 i) (λ x. (if nat_lt x.0 count then Ok x else Err (Text (up i 2)))) (n, j) (number_again order octets s)
      ∙ passed (nat_lt n count) (Ok (n, j)) (Err (Text (up i 2))) (le-ltb _ _ le)

  pub wire_stops : (i : ℕ) → length octets < up i 4 + 20 → wire_at order octets i ≡ Err (Short (length octets))
  wire_stops i lt = chosen (nat_lt (length octets) (up i 4 + 20)) (Err (Short (length octets))) (Ok (wire_of order (take 20 (drop (up i 4) octets)), up i 4 + 20)) (lt-ltb _ _ lt)

  -- ---- counts

  word_stops : (i : ℕ) → IsCut octets 4 i → word_at order octets i ≡ Err (counting.Short (length octets))
  word_stops i c = ap (or_short (length octets)) (cut_none 4 i c)

  word_goes : {n i j : ℕ} → Scalar order octets 4 n i j → word_at order octets i ≡ Ok (n, j)
  word_goes {n} {i} {j} s = ap (or_short (length octets)) (number_read order 4 octets n i j s)

  most_goes : {moved : Option ℕ} {most i j : ℕ} → HasMost order octets moved most i j → most_at order octets moved i ≡ Ok (most, j)
  most_goes moved_most = refl
  most_goes (a_most s) = word_goes s

  abbrev pub as_departure : CountFault → Departure
  as_departure (counting.Short n) = Short n
  as_departure (counting.Bound i) = Bound i

  -- a fault of counts
  record Fails {A : Type 0} (r : Result A CountFault) (d : Departure) : Type 0 where
    fault : CountFault
    is : r ≡ Err fault
    tells : as_departure fault ≡ d

  fails_then : {A B : Type 0} (r : Result A CountFault) (f : A → Result B CountFault) (d : Departure) → Fails r d → Fails (r >>= f) d
  fails_then r f d x = record { fault = x.fault; is = stopped r f x.fault x.is; tells = x.tells }

  goes_then : {A B : Type 0} (r : Result A CountFault) (f : A → Result B CountFault) (x : A) (d : Departure) → r ≡ Ok x → Fails (f x) d → Fails (r >>= f) d
  goes_then r f x d e y = record { fault = y.fault; is = through r f x e ∙ y.is; tells = y.tells }

  most_fails : {moved : Option ℕ} {i : ℕ} {d : Departure} → MostOff order octets moved i d → Fails (most_at order octets moved i) d
  most_fails (most_cut {i = i} c) = record { fault = counting.Short (length octets); is = word_stops i c; tells = refl }

  abbrev behind_offset : ℕ → ℕ → ℕ × ℕ → Result (Counts × ℕ) CountFault
  behind_offset most i x = if x.0 == 0 then within_most order octets most x.1 else Err (counting.Bound (up i 4))

  abbrev behind_actual : ℕ → ℕ → ℕ × ℕ → Result (Counts × ℕ) CountFault
  behind_actual most i x = if nat_lt most x.0 then Err (counting.Bound (up i 4)) else Ok (counts most x.0, x.1)

  actual_fails : {most i : ℕ} {d : Departure} → ActualOff order octets most i d → Fails (actual_at order octets most i) d
  actual_fails (offset_cut {most = most} {i = i} c) = record { fault = counting.Short (length octets); is = stopped (word_at order octets i) (behind_offset most i) (counting.Short (length octets)) (word_stops i c); tells = refl }
  actual_fails (an_offset {most = most} {i = i} {n = n} {j = j} s) = record { fault = counting.Bound (up i 4); is = through (word_at order octets i) (behind_offset most i) (suc n, j) (word_goes s) ∙ passed (suc n == 0) (within_most order octets most j) (Err (counting.Bound (up i 4))) (positive n); tells = refl }
  actual_fails (actual_cut {most = most} {i = i} {j = j} s c) = record {
    fault = counting.Short (length octets);
    is = through (word_at order octets i) (behind_offset most i) (0, j) (word_goes s) ∙ stopped (word_at order octets j) (behind_actual most j) (counting.Short (length octets)) (word_stops j c);
    tells = refl;
  }
  actual_fails (actual_above {most = most} {i = i} {j = j} {actual = actual} {k = k} s t lt) = record {
    fault = counting.Bound (up j 4);
    is = through (word_at order octets i) (behind_offset most i) (0, j) (word_goes s) ∙ through (word_at order octets j) (behind_actual most j) (actual, k) (word_goes t)
        ∙ chosen (nat_lt most actual) (Err (counting.Bound (up j 4))) (Ok (counts most actual, k)) (lt-ltb _ _ lt);
    tells = refl;
  }

  counts_fail : {moved : Option ℕ} {kind : ArrayKind} {i : ℕ} {d : Departure} → CountsOff order octets moved kind i d → Fails (counts_at order octets kind moved i) d
  counts_fail (varying_off x) = actual_fails x
  counts_fail (conformant_off {i = i} {moved = moved} {d = d} x) = fails_then (most_at order octets moved i) (λ y. Ok (counts y.0 y.0, y.1)) d (most_fails x)
  counts_fail (most_off {i = i} {moved = moved} {d = d} x) = fails_then (most_at order octets moved i) (λ y. actual_at order octets y.0 y.1) d (most_fails x)
  counts_fail (actual_off {most = most} {i = i} {h = h} {moved = moved} {d = d} m x) = goes_then (most_at order octets moved i) (λ y. actual_at order octets y.0 y.1) (most, h) d (most_goes m) (actual_fails x)

  told_counts : {A : Type 0} (f : CountFault) → of_counts {A = A} (Err f) ≡ Err (as_departure f)
  told_counts (counting.Short n) = refl
  told_counts (counting.Bound i) = refl

  pub array_stops : {moved : Option ℕ} {kind : ArrayKind} {i : ℕ} {d : Departure} → CountsOff order octets moved kind i d → array_at order octets kind moved i ≡ Err d
  array_stops x = let f = counts_fail x in ap of_counts f.is ∙ told_counts f.fault ∙ ap Err f.tells

  -- ---- texts

  limit_goes : {moved size : Option ℕ} {most i j : ℕ} → HasLimit order octets moved size most i j → limit_at order octets size moved i ≡ Ok (most, j)
  limit_goes of_size = refl
  limit_goes (of_count m) = most_goes m

  actual_goes : {most actual i j : ℕ} → HasActual order octets most actual i j → actual_at order octets most i ≡ Ok (counts most actual, j)
  actual_goes {most} {actual} {i} {j} a =
      through (word_at order octets i) (behind_offset most i) (0, a.h) (word_goes a.offset) ∙ through (word_at order octets a.h) (behind_actual most a.h) (actual, j) (word_goes a.actual_count)
      ∙ passed (nat_lt most actual) (Err (counting.Bound (up a.h 4))) (Ok (counts most actual, j)) (le-ltb _ _ a.fits)

  counted_goes : {most actual i h k : ℕ} {size moved : Option ℕ} → HasLimit order octets moved size most i h → HasActual order octets most actual h k → counted_at order octets size moved i ≡ Ok (counts most actual, k)
  counted_goes {most} {actual} {i} {h} {k} {size} {moved} l a = through (limit_at order octets size moved i) (λ x. actual_at order octets x.0 x.1) (most, h) (limit_goes l) ∙ actual_goes a

  abbrev cells_on : Counts × ℕ → Result (List ℕ × ℕ) TextFault
  cells_on x = cells_at octets x.1 x.0.actual >>= λ y. text_in (x.1 - 4) y

  counted_told : (f : CountFault) → of_text (in_text (Err f) >>= cells_on) ≡ Err (as_departure f)
  counted_told (counting.Short n) = refl
  counted_told (counting.Bound i) = refl

  counted_stops : (size moved : Option ℕ) (i : ℕ) (d : Departure) → Fails (counted_at order octets size moved i) d → chars_at order octets size moved i ≡ Err d
  counted_stops size moved i d f = ap (λ (r : Result (Counts × ℕ) CountFault). of_text (in_text r >>= cells_on)) f.is ∙ counted_told f.fault ∙ ap Err f.tells

  cells_stop : {size moved : Option ℕ} {most actual i h k : ℕ} → HasLimit order octets moved size most i h → HasActual order octets most actual h k
      → chars_at order octets size moved i ≡ of_text (cells_at octets k actual >>= λ y. text_in (k - 4) y)
  cells_stop l a = ap (λ (r : Result (Counts × ℕ) CountFault). of_text (in_text r >>= cells_on)) (counted_goes l a)

  pub chars_stop : {size moved : Option ℕ} {i : ℕ} {d : Departure} → TextOff order octets size moved i d → chars_at order octets size moved i ≡ Err d
  chars_stop (limit_off {i = i} {moved = moved} {d = d} x) = counted_stops None moved i d (fails_then (limit_at order octets None moved i) (λ x. actual_at order octets x.0 x.1) d (most_fails x))
  chars_stop (counted_off {most = most} {i = i} {h = h} {size = size} {moved = moved} {d = d} l x) =
      counted_stops size moved i d (goes_then (limit_at order octets size moved i) (λ x. actual_at order octets x.0 x.1) (most, h) d (limit_goes l) (actual_fails x))
  chars_stop (chars_cut {actual = actual} {k = k} l a lt) =
      cells_stop l a ∙ ap (λ (b : Bool). of_text ((if b then Err (texts.Short (length octets)) else Ok (take actual (drop k octets), k + actual)) >>= λ y. text_in (k - 4) y)) (lt-ltb _ _ lt)
  chars_stop (no_nul {actual = actual} {k = k} l a le none) =
      cells_stop l a ∙ ap (λ (b : Bool). of_text ((if b then Err (texts.Short (length octets)) else Ok (take actual (drop k octets), k + actual)) >>= λ y. text_in (k - 4) y)) (le-ltb _ _ le)
      ∙ ap (λ (o : Option ℕ). of_text (before_nul (take actual (drop k octets)) (k - 4) o >>= λ text. Ok (text, k + actual))) none

  -- ---- tags and structures

  cut_tag : (t : Form) (arms : ArmForms) (i : ℕ) → is_tag t ≡ true → IsCut octets (tag_size t) i → tag_at order octets t arms i ≡ Err (Short (length octets))
  cut_tag OfBool arms i is c = stopped (number order octets 1 i) (λ y. Ok (pos (if y.0 == 0 then 0 else 1), y.1)) (Short (length octets)) (number_stops 1 i c)
  cut_tag OfChar arms i is c = stopped (number order octets 1 i) (λ y. Ok (pos y.0, y.1)) (Short (length octets)) (number_stops 1 i c)
  cut_tag (OfInt size) arms i is c = stopped (number order octets size i) (λ y. Ok (signed size y.0, y.1)) (Short (length octets)) (number_stops size i c)
  cut_tag (OfUint size) arms i is c = stopped (number order octets size i) (λ y. (if nat_lt y.0 (2 ^ 63) then Ok (pos y.0, y.1) else Err (Tag (up i (octets_of size))))) (Short (length octets)) (number_stops size i c)
  cut_tag (OfEnum count) arms i is c = stopped (number order octets 2 i) (λ y. (if nat_lt y.0 count then Ok (pos y.0, y.1) else Err (unnamed (selected arms (pos y.0)) (up i 2)))) (Short (length octets)) (number_stops 2 i c)
  cut_tag _ arms i is c = absurd cc

  unnamed_stops : {count n i j : ℕ} (arms : ArmForms) → Scalar order octets 2 n i j → count ≤ n → tag_at order octets (OfEnum count) arms i ≡ Err (unnamed (selected arms (pos n)) (up i 2))
  unnamed_stops {count} {n} {i} {j} arms s le =
      through (number order octets 2 i) (λ y. (if nat_lt y.0 count then Ok (pos y.0, y.1) else Err (unnamed (selected arms (pos y.0)) (up i 2)))) (n, j) (number_again order octets s)
      ∙ passed (nat_lt n count) (Ok (pos n, j)) (Err (unnamed (selected arms (pos n)) (up i 2))) (le-ltb _ _ le)

  pub tag_stops : {t : Form} {arms : ArmForms} {i : ℕ} {d : Departure} → is_tag t ≡ true → TagOff order octets arms t i d → tag_at order octets t arms i ≡ Err d
  tag_stops {arms = arms} is (tag_cut {t = t} {i = i} c) = cut_tag t arms i is c
  tag_stops is (too_large {size = size} {n = n} {i = i} {j = j} s le) =
      through (number order octets size i) (λ y. (if nat_lt y.0 (2 ^ 63) then Ok (pos y.0, y.1) else Err (Tag (up i (octets_of size))))) (n, j) (number_again order octets s)
      ∙ passed (nat_lt n (2 ^ 63)) (Ok (pos n, j)) (Err (Tag (up i (octets_of size)))) (le-ltb _ _ le)
  tag_stops {arms = arms} is (no_name_no_arm {i = i} s le e) = unnamed_stops arms s le ∙ ap (λ (o : Option Body). Err (unnamed o (up i 2))) e
  tag_stops {arms = arms} is (no_name_an_arm {i = i} s le e) = unnamed_stops arms s le ∙ ap (λ (o : Option Body). Err (unnamed o (up i 2))) e

  opened_goes : {types : List Form} {ss : Forms} {moved own : Option ℕ} {i j : ℕ} → Opens types order octets ss moved own i j → opened_at order octets types ss moved i ≡ Ok (own, j)
  opened_goes in_a_greater = refl
  opened_goes {types} {ss} (in_front {most = m} {i = i} {j = j} is s) =
      chosen (opens_with types ss) (number order octets 4 i >>= λ y. Ok (Some y.0, y.1)) (Ok (None, i)) is ∙ through (number order octets 4 i) (λ y. Ok (Some y.0, y.1)) (m, j) (number_again order octets s)
  opened_goes {types} {ss} (not_open {i = i} is) = passed (opens_with types ss) (number order octets 4 i >>= λ y. Ok (Some y.0, y.1)) (Ok (None, i)) is

  pub structure_stops : {types : List Form} {ss : Forms} {moved : Option ℕ} {i : ℕ} {d : Departure} → StructureOff types order octets ss moved i d → struct_at order octets types ss moved i ≡ Err d
  structure_stops {types} {ss} (front_cut {i = i} is c) =
      stopped (opened_at order octets types ss None i) (λ x. begun order octets x.0 (in_place types (OfStruct ss) x.1)) (Short (length octets))
      (chosen (opens_with types ss) (number order octets 4 i >>= λ y. Ok (Some y.0, y.1)) (Ok (None, i)) is ∙ stopped (number order octets 4 i) (λ y. Ok (Some y.0, y.1)) (Short (length octets)) (number_stops 4 i c))
  structure_stops {types} {ss} (gap_cut {moved = moved} {own = own} {i = i} {k = k} o lt) =
      through (opened_at order octets types ss moved i) (λ x. begun order octets x.0 (in_place types (OfStruct ss) x.1)) (own, k) (opened_goes o)
      ∙ chosen (nat_lt (length octets) (in_place types (OfStruct ss) k)) (Err (Short (length octets))) (Ok (own, in_place types (OfStruct ss) k)) (lt-ltb _ _ lt)
