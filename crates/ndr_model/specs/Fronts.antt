-- How many elements an array is written with, and the max_count in front of a structure that ends in a conformant array or text.
use Rattle.std.specs.Prelude.{ℕ, zero, suc, ◌+◌, Bool, not, List, length, slice_get, Option, Some, None, if◌then◌else◌}
use Rattle.rpc_base.specs.declared.identifiers.Order.{Order}
use Rattle.ndr_value.specs.declared.shape.ArrayKind.{ArrayKind}
use Rattle.ndr_value.specs.declared.shape.ArrayKind.TheVariants.{ConformantVarying}
use Rattle.ndr_value.specs.Forms.{Form, OfNamed, OfStruct, OfArray, OfText, Forms, then_form}
use Rattle.ndr_value.specs.Values.{Val, VStruct, VArray, VText, Vals, then_val, count_of}
use Rattle.ndr_table.specs.Aligned.{is_last}
use Rattle.ndr_arrays.specs.Counted.{counts}
use Rattle.ndr_arrays.specs.Written.{counts_octets}
use Rattle.ndr_model.specs.Named.{Call, named}
use Rattle.ndr_model.specs.Pieces.{fitting, counted}

module _ (types : List Form) (order : Order) (call : Call) where
  -- the size of an array of so many elements
  abbrev pub size_of : Vals → ArrayKind → ℕ → ℕ
  size_of body (ConformantVarying c d) n = counted (named call body c)
  size_of body _ n = fitting 4 n

  abbrev pub array_counts : Vals → Bool → ArrayKind → ℕ → ℕ → List ℕ
  array_counts body moved kind n i = counts_octets order kind (counts (size_of body kind n) (fitting 4 n)) (not moved) i

  abbrev pub front_array : Vals → ArrayKind → Val → ℕ
  front_array body kind (VArray vs) = size_of body kind (count_of vs)
  front_array body kind _ = 0

  abbrev pub front_text : Val → ℕ
  front_text (VText text) = length text + 1
  front_text _ = 0

  abbrev pub front_last : (Vals → Form → Val → ℕ) → Vals → Forms → Vals → ℕ
  front_last go body (then_form s ss) (then_val v vs) = if is_last ss then go body s v else front_last go body ss vs
  front_last go body _ _ = 0

  abbrev pub front_struct : (Vals → Form → Val → ℕ) → Forms → Val → ℕ
  front_struct go ss (VStruct vs) = front_last go vs ss vs
  front_struct go ss _ = 0

  abbrev pub front_type : (Vals → Form → Val → ℕ) → Vals → Option Form → Val → ℕ
  front_type go body None v = 0
  front_type go body (Some s) v = go body s v

  abbrev pub front_at : (Vals → Form → Val → ℕ) → Vals → Form → Val → ℕ
  front_at go body (OfNamed c switch) v = front_type go body (slice_get types c) v
  front_at go body (OfStruct ss) v = front_struct go ss v
  front_at go body (OfArray kind s) v = front_array body kind v
  front_at go body (OfText size) v = front_text v
  front_at go body _ v = 0

  -- the max_count of what ends in a conformant array or text, at most n constructs deep
  unfoldable pub front : ℕ → Vals → Form → Val → ℕ
  front zero body s v = 0
  front (suc n) body s v = front_at (front n) body s v
