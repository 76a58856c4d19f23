-- Pieces of a flat part stand as they are read.
use Rattle.std.proofs.Common.{◌≡◌, ℕ, ◌+◌, ◌^◌, ◌<◌, ◌≤◌, ℤ, pos, Bool, true, false, List, length, take, drop, Option, Some, None, Result, Ok, Err, refl, subst}
use Rattle.std.specs.Prelude.{nat_lt, ◌==◌, if◌then◌else◌}
use Rattle.std.proofs.lemmas.Bool.{ltb-false, ltb-true}
use Rattle.rpc_base.specs.declared.identifiers.Order.{Order}
use Rattle.rpc_base.specs.declared.identifiers.WireHandle.{WireHandle}
use Rattle.rpc_base.specs.Fields.{wire_of}
use Rattle.ndr_value.specs.declared.shape.ArrayKind.{ArrayKind}
use Rattle.ndr_value.specs.Forms.{Form, OfBool, OfChar, OfInt, OfUint, OfEnum, OfStruct, Forms, ArmForms}
use Rattle.ndr_value.specs.Fits.{selected}
use Rattle.ndr_scalars.specs.Scalars.{up, octets_of, signed, number_at, Scalar}
use Rattle.ndr_scalars.proofs.Laws.{number_stands}
use Rattle.ndr_arrays.specs.declared.counts.Counts.{Counts}
use Rattle.ndr_arrays.specs.declared.counts.CountFault.{CountFault}
use Rattle.ndr_arrays.specs.declared.counts.CountFault.TheVariants as counting
use Rattle.ndr_arrays.specs.declared.texts.TextFault.{TextFault}
use Rattle.ndr_arrays.specs.declared.texts.TextFault.TheVariants as texts
use Rattle.ndr_arrays.specs.Bind.{◌>>=◌}
use Rattle.ndr_arrays.specs.Counted.{HasCounts, counts_at}
use Rattle.ndr_arrays.specs.Texts.{IsText, text_at}
use Rattle.ndr_arrays.proofs.Steps.{bind_ok, unless_ok, when_ok, ok_is}
use Rattle.ndr_arrays.proofs.Laws.{counts_stand, text_stands}
use Rattle.ndr_model.specs.declared.departure.Departure.{Departure}
use Rattle.ndr_model.specs.declared.departure.Departure.TheVariants.{Short, Tag, Text}
use Rattle.ndr_model.specs.Part.{IsWire, IsTag, tag_bool, tag_char, tag_int, tag_uint, tag_enum, Opens, in_a_greater, in_front, not_open, opens_with, in_place, Begins}
use Rattle.ndr_model.specs.Reading.{unless_short, of_counts, of_text, unnamed, number, name_at, wire_at, chars_at, array_at, tag_at, opened_at, begun, struct_at}

short_ok : {A : Type 0} (n : ℕ) (o : Option A) (x : A) → unless_short n o ≡ Ok x → o ≡ Some x
short_ok n None x e = absurd cc
short_ok n (Some y) x e = cc

counts_ok : {A : Type 0} (r : Result A CountFault) (x : A) → of_counts r ≡ Ok x → r ≡ Ok x
counts_ok (Ok y) x e = cc
counts_ok (Err (counting.Short n)) x e = absurd cc
counts_ok (Err (counting.Bound i)) x e = absurd cc

text_ok : {A : Type 0} (r : Result A TextFault) (x : A) → of_text r ≡ Ok x → r ≡ Ok x
text_ok (Ok y) x e = cc
text_ok (Err (texts.Short n)) x e = absurd cc
text_ok (Err (texts.Bound i)) x e = absurd cc
text_ok (Err (texts.Text i)) x e = absurd cc

module _ (order : Order) (octets : List ℕ) where
  pub number_is : (size i : ℕ) (x : ℕ × ℕ) → number order octets size i ≡ Ok x → Scalar order octets size x.0 i x.1
  number_is size i x e = number_stands order size octets i x (short_ok (length octets) (number_at order size octets i) x e)

  pub name_is : (count i : ℕ) (x : ℕ × ℕ) → name_at order octets count i ≡ Ok x → Scalar order octets 2 x.0 i x.1 × (x.0 < count)
  name_is count i x e =
      let a = bind_ok (number order octets 2 i) (λ y. (if nat_lt y.0 count then Ok y else Err (Text (up i 2)))) x e in
      let w = when_ok (nat_lt a.0.0 count) (Text (up i 2)) (Ok a.0) x a.2 in
      subst (λ (y : ℕ × ℕ). Scalar order octets 2 y.0 i y.1 × (y.0 < count)) (ok_is Departure a.0 x w.1) (number_is 2 i a.0 a.1, ltb-true _ _ w.0)

  pub wire_is : (i : ℕ) (x : WireHandle × ℕ) → wire_at order octets i ≡ Ok x → IsWire order octets x.0 i x.1
  wire_is i x e =
      let u = unless_ok (nat_lt (length octets) (up i 4 + 20)) (Short (length octets)) (Ok (wire_of order (take 20 (drop (up i 4) octets)), up i 4 + 20)) x e in
      let long : up i 4 + 20 ≤ length octets = ltb-false _ _ u.0 in
      subst (λ (y : WireHandle × ℕ). IsWire order octets y.0 i y.1) (ok_is Departure (wire_of order (take 20 (drop (up i 4) octets)), up i 4 + 20) x u.1) (record { ends = refl; within = long; is = refl })

  pub array_is : (kind : ArrayKind) (moved : Option ℕ) (i : ℕ) (x : Counts × ℕ) → array_at order octets kind moved i ≡ Ok x → HasCounts order octets moved kind x.0 i x.1
  array_is kind moved i x e = counts_stand order octets moved kind i x (counts_ok (counts_at order octets kind moved i) x e)

  pub chars_are : (size moved : Option ℕ) (i : ℕ) (x : List ℕ × ℕ) → chars_at order octets size moved i ≡ Ok x → IsText order octets size moved x.0 i x.1
  chars_are size moved i x e = text_stands order octets size moved i x (text_ok (text_at order octets size moved i) x e)

  pub tag_is : (t : Form) (arms : ArmForms) (i : ℕ) (x : ℤ × ℕ) → tag_at order octets t arms i ≡ Ok x → IsTag order octets t x.0 i x.1
  tag_is OfBool arms i x e =
      let a = bind_ok (number order octets 1 i) (λ y. Ok (pos (if y.0 == 0 then 0 else 1), y.1)) x e in
      subst (λ (y : ℤ × ℕ). IsTag order octets OfBool y.0 i y.1) (ok_is Departure (pos (if a.0.0 == 0 then 0 else 1), a.0.1) x a.2) (tag_bool (number_is 1 i a.0 a.1))
  tag_is OfChar arms i x e =
      let a = bind_ok (number order octets 1 i) (λ y. Ok (pos y.0, y.1)) x e in
      subst (λ (y : ℤ × ℕ). IsTag order octets OfChar y.0 i y.1) (ok_is Departure (pos a.0.0, a.0.1) x a.2) (tag_char (number_is 1 i a.0 a.1))
  tag_is (OfInt size) arms i x e =
      let a = bind_ok (number order octets size i) (λ y. Ok (signed size y.0, y.1)) x e in
      subst (λ (y : ℤ × ℕ). IsTag order octets (OfInt size) y.0 i y.1) (ok_is Departure (signed size a.0.0, a.0.1) x a.2) (tag_int (number_is size i a.0 a.1))
  tag_is (OfUint size) arms i x e =
      let a = bind_ok (number order octets size i) (λ y. (if nat_lt y.0 (2 ^ 63) then Ok (pos y.0, y.1) else Err (Tag (up i (octets_of size))))) x e in
      let w = when_ok (nat_lt a.0.0 (2 ^ 63)) (Tag (up i (octets_of size))) (Ok (pos a.0.0, a.0.1)) x a.2 in
      subst (λ (y : ℤ × ℕ). IsTag order octets (OfUint size) y.0 i y.1) (ok_is Departure (pos a.0.0, a.0.1) x w.1) (tag_uint (number_is size i a.0 a.1) (ltb-true _ _ w.0))
  tag_is (OfEnum count) arms i x e =
      let a = bind_ok (number order octets 2 i) (λ y. (if nat_lt y.0 count then Ok (pos y.0, y.1) else Err (unnamed (selected arms (pos y.0)) (up i 2)))) x e in
      let w = when_ok (nat_lt a.0.0 count) (unnamed (selected arms (pos a.0.0)) (up i 2)) (Ok (pos a.0.0, a.0.1)) x a.2 in
      subst (λ (y : ℤ × ℕ). IsTag order octets (OfEnum count) y.0 i y.1) (ok_is Departure (pos a.0.0, a.0.1) x w.1) (tag_enum (number_is 2 i a.0 a.1) (ltb-true _ _ w.0))
  tag_is _ arms i x e = absurd cc

  opened_by : (types : List Form) (ss : Forms) (i : ℕ) (b : Bool) (x : Option ℕ × ℕ) → opens_with types ss ≡ b → (if b then (number order octets 4 i >>= λ y. Ok (Some y.0, y.1)) else Ok (None, i)) ≡ Ok x → Opens types order octets ss None x.0 i x.1
  opened_by types ss i true x is e =
      let a = bind_ok (number order octets 4 i) (λ y. Ok (Some y.0, y.1)) x e in
      subst (λ (y : Option ℕ × ℕ). Opens types order octets ss None y.0 i y.1) (ok_is Departure (Some a.0.0, a.0.1) x a.2) (in_front is (number_is 4 i a.0 a.1))
  opened_by types ss i false x is e = subst (λ (y : Option ℕ × ℕ). Opens types order octets ss None y.0 i y.1) (ok_is Departure (None, i) x e) (not_open is)

  pub opened_is : (types : List Form) (ss : Forms) (moved : Option ℕ) (i : ℕ) (x : Option ℕ × ℕ) → opened_at order octets types ss moved i ≡ Ok x → Opens types order octets ss moved x.0 i x.1
  opened_is types ss (Some most) i x e = subst (λ (y : Option ℕ × ℕ). Opens types order octets ss (Some most) y.0 i y.1) (ok_is Departure (Some most, i) x e) in_a_greater
  opened_is types ss None i x e = opened_by types ss i (opens_with types ss) x refl e

  pub begins : (types : List Form) (ss : Forms) (moved : Option ℕ) (i : ℕ) (x : Option ℕ × ℕ) → struct_at order octets types ss moved i ≡ Ok x → Begins types order octets ss moved x.0 i x.1
  begins types ss moved i x e =
      let a = bind_ok (opened_at order octets types ss moved i) (λ y. begun order octets y.0 (in_place types (OfStruct ss) y.1)) x e in
      let j = in_place types (OfStruct ss) a.0.1 in
      let u = unless_ok (nat_lt (length octets) j) (Short (length octets)) (Ok (a.0.0, j)) x a.2 in
      let long : j ≤ length octets = ltb-false _ _ u.0 in
      subst (λ (y : Option ℕ × ℕ). Begins types order octets ss moved y.0 i y.1) (ok_is Departure (a.0.0, j) x u.1) (record { k = a.0.1; opens = opened_is types ss moved i a.0 a.1; ends = refl; within = long })
