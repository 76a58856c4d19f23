-- Pieces of a flat part that stand are read.
use Rattle.std.proofs.Common.{◌≡◌, ℕ, ◌+◌, ◌^◌, ◌<◌, ℤ, pos, Bool, true, false, List, length, take, drop, Option, Some, None, Ok, Err, refl, ap, ◌∙◌, arith}
use Rattle.std.specs.Prelude.{nat_lt, ◌==◌, if◌then◌else◌}
use Rattle.std.proofs.lemmas.Bool.{lt-ltb, le-ltb}
use Rattle.rpc_base.specs.declared.identifiers.Order.{Order}
use Rattle.rpc_base.specs.declared.identifiers.WireHandle.{WireHandle}
use Rattle.rpc_base.specs.Fields.{wire_of}
use Rattle.ndr_value.specs.declared.shape.ArrayKind.{ArrayKind}
use Rattle.ndr_value.specs.Forms.{Form, OfStruct, Forms, ArmForms}
use Rattle.ndr_value.specs.Fits.{selected}
use Rattle.ndr_scalars.specs.Scalars.{up, octets_of, signed, Scalar}
use Rattle.ndr_scalars.proofs.Laws.{number_read}
use Rattle.ndr_arrays.specs.declared.counts.Counts.{Counts}
use Rattle.ndr_arrays.specs.Bind.{◌>>=◌}
use Rattle.ndr_arrays.specs.Counted.{HasCounts}
use Rattle.ndr_arrays.specs.Texts.{IsText}
use Rattle.ndr_arrays.proofs.Steps.{through}
use Rattle.ndr_arrays.proofs.Laws.{counts_read, text_read}
use Rattle.ndr_model.specs.declared.departure.Departure.TheVariants.{Tag, Text}
use Rattle.ndr_model.specs.Part.{IsWire, IsTag, tag_bool, tag_char, tag_int, tag_uint, tag_enum, Opens, in_a_greater, in_front, not_open, opens_with, in_place, Begins}
use Rattle.ndr_model.specs.Reading.{unless_short, of_counts, of_text, unnamed, number, name_at, wire_at, chars_at, array_at, tag_at, opened_at, begun, struct_at}

chosen : {A : Type 0} (b : Bool) (x y : A) → b ≡ true → (if b then x else y) ≡ x
chosen {A} b x y e = ap (λ (c : Bool). if c then x else y) e

passed : {A : Type 0} (b : Bool) (x y : A) → b ≡ false → (if b then x else y) ≡ y
passed {A} b x y e = ap (λ (c : Bool). if c then x else y) e

module _ (order : Order) (octets : List ℕ) where
  pub number_again : {size n i j : ℕ} → Scalar order octets size n i j → number order octets size i ≡ Ok (n, j)
  number_again {size} {n} {i} {j} s = ap (unless_short (length octets)) (number_read order size octets n i j s)

  pub name_again : {count n i j : ℕ} → Scalar order octets 2 n i j → n < count → name_at order octets count i ≡ Ok (n, j)
  name_again {count} {n} {i} {j} s lt =
      through (number order octets 2 i) (λ x. (if nat_lt x.0 count then Ok x else Err (Text (up i 2)))) (n, j) (number_again s)
      ∙ chosen (nat_lt n count) (Ok (n, j)) (Err (Text (up i 2))) (lt-ltb _ _ lt)

  wire_made : (w : WireHandle) (i j : ℕ) → j ≡ up i 4 + 20 → nat_lt (length octets) (up i 4 + 20) ≡ false → w ≡ wire_of order (take 20 (drop (up i 4) octets)) → wire_at order octets i ≡ Ok (w, j)
  wire_made w i j ends long is = rw (long, ← is, ← ends) refl

  pub wire_again : {w : WireHandle} {i j : ℕ} → IsWire order octets w i j → wire_at order octets i ≡ Ok (w, j)
  wire_again {w} {i} {j} s = wire_made w i j s.ends (le-ltb _ _ (omega (arith, s.ends, s.within))) s.is

  pub array_again : {kind : ArrayKind} {moved : Option ℕ} {c : Counts} {i j : ℕ} → HasCounts order octets moved kind c i j → array_at order octets kind moved i ≡ Ok (c, j)
  array_again h = ap of_counts (counts_read order octets h)

  pub chars_again : {size moved : Option ℕ} {text : List ℕ} {i j : ℕ} → IsText order octets size moved text i j → chars_at order octets size moved i ≡ Ok (text, j)
  chars_again {size} {moved} {text} {i} {j} h = ap of_text (text_read order octets size moved text i j h)

  pub tag_again : {t : Form} {tag : ℤ} {i j : ℕ} (arms : ArmForms) → IsTag order octets t tag i j → tag_at order octets t arms i ≡ Ok (tag, j)
  tag_again arms (tag_bool {n = n} {i = i} {j = j} s) = through (number order octets 1 i) (λ y. Ok (pos (if y.0 == 0 then 0 else 1), y.1)) (n, j) (number_again s)
  tag_again arms (tag_char {n = n} {i = i} {j = j} s) = through (number order octets 1 i) (λ y. Ok (pos y.0, y.1)) (n, j) (number_again s)
  tag_again arms (tag_int {size = size} {n = n} {i = i} {j = j} s) = through (number order octets size i) (λ y. Ok (signed size y.0, y.1)) (n, j) (number_again s)
  tag_again arms (tag_uint {size = size} {n = n} {i = i} {j = j} s lt) =
      through (number order octets size i) (λ y. (if nat_lt y.0 (2 ^ 63) then Ok (pos y.0, y.1) else Err (Tag (up i (octets_of size))))) (n, j) (number_again s)
      ∙ chosen (nat_lt n (2 ^ 63)) (Ok (pos n, j)) (Err (Tag (up i (octets_of size)))) (lt-ltb _ _ lt)
  tag_again arms (tag_enum {count = count} {n = n} {i = i} {j = j} s lt) =
      through (number order octets 2 i) (λ y. (if nat_lt y.0 count then Ok (pos y.0, y.1) else Err (unnamed (selected arms (pos y.0)) (up i 2)))) (n, j) (number_again s)
      ∙ chosen (nat_lt n count) (Ok (pos n, j)) (Err (unnamed (selected arms (pos n)) (up i 2))) (lt-ltb _ _ lt)

  opened_again : {types : List Form} {ss : Forms} {moved own : Option ℕ} {i j : ℕ} → Opens types order octets ss moved own i j → opened_at order octets types ss moved i ≡ Ok (own, j)
  opened_again in_a_greater = refl
  opened_again {types} {ss} (in_front {most = m} {i = i} {j = j} is s) =
      chosen (opens_with types ss) (number order octets 4 i >>= λ y. Ok (Some y.0, y.1)) (Ok (None, i)) is ∙ through (number order octets 4 i) (λ y. Ok (Some y.0, y.1)) (m, j) (number_again s)
  opened_again {types} {ss} (not_open {i = i} is) = passed (opens_with types ss) (number order octets 4 i >>= λ y. Ok (Some y.0, y.1)) (Ok (None, i)) is

  begun_again : (own : Option ℕ) (i j : ℕ) → j ≡ i → nat_lt (length octets) i ≡ false → begun order octets own i ≡ Ok (own, j)
  begun_again own i j e long = rw (long, e) refl

  pub begins_again : {types : List Form} {ss : Forms} {moved own : Option ℕ} {i j : ℕ} → Begins types order octets ss moved own i j → struct_at order octets types ss moved i ≡ Ok (own, j)
  begins_again {types} {ss} {moved} {own} {i} {j} b =
      let start = in_place types (OfStruct ss) b.k in
      let long : nat_lt (length octets) start ≡ false = le-ltb _ _ (omega (arith, b.ends, b.within)) in
      through (opened_at order octets types ss moved i) (λ x. begun order octets x.0 (in_place types (OfStruct ss) x.1)) (own, b.k) (opened_again b.opens)
      ∙ begun_again own start j b.ends long
