-- What departs in a part itself, at the first octets of it that are no part of that shape: one case for each cause.
use Rattle.std.specs.Prelude.{◌≡◌, ℕ, suc, ◌+◌, ◌-◌, ◌^◌, ◌<◌, ◌≤◌, ℤ, pos, true, List, length, take, drop, position, Option, Some, None, ◌==◌}
use Rattle.rpc_base.specs.declared.identifiers.Order.{Order}
use Rattle.ndr_value.specs.declared.shape.Count.{Count}
use Rattle.ndr_value.specs.declared.shape.ArrayKind.{ArrayKind}
use Rattle.ndr_value.specs.declared.shape.ArrayKind.TheVariants.{Varying, Conformant, ConformantVarying}
use Rattle.ndr_value.specs.Forms.{Form, OfUint, OfEnum, OfStruct, OfUnion, OfArray, OfText, OfRef, OfUnique, OfFull, OfHandle, Forms, ArmForms, Body}
use Rattle.ndr_value.specs.Fits.{selected, arm_of}
use Rattle.ndr_scalars.specs.Scalars.{up, octets_of, Scalar}
use Rattle.ndr_arrays.specs.Counted.{HasMost, HasActual}
use Rattle.ndr_arrays.specs.Texts.{HasLimit}
use Rattle.ndr_model.specs.declared.departure.Departure.{Departure}
use Rattle.ndr_model.specs.declared.departure.Departure.TheVariants.{Short, Bound, Tag, Pointer, Text, TooDeep}
use Rattle.ndr_model.specs.Places.{Place, look}
use Rattle.ndr_model.specs.Same.{IsSame}
use Rattle.ndr_model.specs.Part.{IsTag, tag_size, Opens, opens_with, in_place}
use Rattle.ndr_faults.specs.Flat.{plain_size}

-- the size of the number that a part is
abbrev pub number_size : Form → Option ℕ
number_size (OfEnum count) = Some 2
number_size (OfRef s) = Some 4
number_size (OfUnique s) = Some 4
number_size (OfFull s) = Some 4
number_size s = plain_size s

module _ (octets : List ℕ) where
  -- the next so many octets, at a multiple of their number, aren't all there
  abbrev pub IsCut : ℕ → ℕ → Type 0
  IsCut count i = length octets < up i count + count

module _ (order : Order) (octets : List ℕ) where
  -- a max_count, where it hasn't moved in front
  pub data MostOff : Option ℕ → ℕ → Departure → Type 0 where
    most_cut : {i : ℕ} → IsCut octets 4 i → MostOff None i (Short (length octets))

  -- an offset that isn't 0, and an actual_count above the maximum
  pub data ActualOff : ℕ → ℕ → Departure → Type 0 where
    offset_cut : {most i : ℕ} → IsCut octets 4 i → ActualOff most i (Short (length octets))
    an_offset : {most i n j : ℕ} → Scalar order octets 4 (suc n) i j → ActualOff most i (Bound (up i 4))
    actual_cut : {most i j : ℕ} → Scalar order octets 4 0 i j → IsCut octets 4 j → ActualOff most i (Short (length octets))
    actual_above : {most i j actual k : ℕ} → Scalar order octets 4 0 i j → Scalar order octets 4 actual j k → most < actual → ActualOff most i (Bound (up j 4))

  pub data CountsOff : Option ℕ → ArrayKind → ℕ → Departure → Type 0 where
    varying_off : {n i : ℕ} {moved : Option ℕ} {c : Count} {d : Departure} → ActualOff n i d → CountsOff moved (Varying n c) i d
    conformant_off : {i : ℕ} {moved : Option ℕ} {c : Count} {d : Departure} → MostOff moved i d → CountsOff moved (Conformant c) i d
    most_off : {i : ℕ} {moved : Option ℕ} {c e : Count} {d : Departure} → MostOff moved i d → CountsOff moved (ConformantVarying c e) i d
    actual_off : {most i h : ℕ} {moved : Option ℕ} {c e : Count} {d : Departure} → HasMost order octets moved most i h → ActualOff most h d → CountsOff moved (ConformantVarying c e) i d

  -- a text whose octets end too early, or have no NUL among them: the latter by its actual_count
  pub data TextOff : Option ℕ → Option ℕ → ℕ → Departure → Type 0 where
    limit_off : {i : ℕ} {moved : Option ℕ} {d : Departure} → MostOff moved i d → TextOff None moved i d
    counted_off : {most i h : ℕ} {size moved : Option ℕ} {d : Departure} → HasLimit order octets moved size most i h → ActualOff most h d → TextOff size moved i d
    chars_cut : {most actual i h k : ℕ} {size moved : Option ℕ} → HasLimit order octets moved size most i h → HasActual order octets most actual h k → length octets < k + actual
        → TextOff size moved i (Short (length octets))
    no_nul : {most actual i h k : ℕ} {size moved : Option ℕ} → HasLimit order octets moved size most i h → HasActual order octets most actual h k → k + actual ≤ length octets
        → position (λ c. c == 0) (take actual (drop k octets)) ≡ None → TextOff size moved i (Text (k - 4))

  -- the tag of a union of those arms: a name outside its enumeration is a tag without an arm, where no default arm stands
  pub data TagOff (arms : ArmForms) : Form → ℕ → Departure → Type 0 where
    tag_cut : {t : Form} {i : ℕ} → IsCut octets (tag_size t) i → TagOff arms t i (Short (length octets))
    too_large : {size n i j : ℕ} → Scalar order octets size n i j → 2 ^ 63 ≤ n → TagOff arms (OfUint size) i (Tag (up i (octets_of size)))
    no_name_no_arm : {count n i j : ℕ} → Scalar order octets 2 n i j → count ≤ n → selected arms (pos n) ≡ None → TagOff arms (OfEnum count) i (Tag (up i 2))
    no_name_an_arm : {count n i j : ℕ} {b : Body} → Scalar order octets 2 n i j → count ≤ n → selected arms (pos n) ≡ Some b → TagOff arms (OfEnum count) i (Text (up i 2))

module _ (types : List Form) (order : Order) (octets : List ℕ) where
  -- a structure: the max_count in front of it, or its gap
  pub data StructureOff (ss : Forms) : Option ℕ → ℕ → Departure → Type 0 where
    front_cut : {i : ℕ} → opens_with types ss ≡ true → IsCut octets 4 i → StructureOff ss None i (Short (length octets))
    gap_cut : {moved own : Option ℕ} {i k : ℕ} → Opens types order octets ss moved own i k → length octets < in_place types (OfStruct ss) k → StructureOff ss moved i (Short (length octets))

  -- Off room moved s p d: a part of shape s, which begins at p, departs so. room is how many levels are left below it, moved a max_count
  -- that stood in front of it
  pub data Off : ℕ → Option ℕ → Form → Place → Departure → Type 0 where
    number_cut : {room size : ℕ} {moved : Option ℕ} {s : Form} {p : Place} → number_size s ≡ Some size → IsCut octets (octets_of size) p.at → Off room moved s p (Short (length octets))
    handle_cut : {room kind : ℕ} {moved : Option ℕ} {p : Place} → length octets < up p.at 4 + 20 → Off room moved (OfHandle kind) p (Short (length octets))
    structure_off : {room : ℕ} {moved : Option ℕ} {ss : Forms} {p : Place} {d : Departure} → StructureOff ss moved p.at d → Off room moved (OfStruct ss) p d
    array_off : {room : ℕ} {moved : Option ℕ} {kind : ArrayKind} {s : Form} {p : Place} {d : Departure} → CountsOff order octets moved kind p.at d → Off room moved (OfArray kind s) p d
    text_off : {room : ℕ} {moved size : Option ℕ} {p : Place} {d : Departure} → TextOff order octets size moved p.at d → Off room moved (OfText size) p d
    tag_off : {room : ℕ} {moved : Option ℕ} {t : Form} {arms : ArmForms} {p : Place} {d : Departure} → TagOff order octets arms t (in_place types (OfUnion t arms) p.at) d → Off room moved (OfUnion t arms) p d
    no_arm : {room j : ℕ} {moved : Option ℕ} {t : Form} {arms : ArmForms} {tag : ℤ} {p : Place} → IsTag order octets t tag (in_place types (OfUnion t arms) p.at) j → arm_of (OfUnion t arms) tag ≡ None
        → Off room moved (OfUnion t arms) p (Tag (up (in_place types (OfUnion t arms) p.at) (tag_size t)))
    -- an id that was met with another shape
    another_shape : {room id j n : ℕ} {moved : Option ℕ} {s t : Form} {p : Place} → Scalar order octets 4 (suc id) p.at j → look p.met (suc id) ≡ Some (n, t) → (IsSame t s → ⊥)
        → Off room moved (OfFull s) p (Pointer (up p.at 4))
    no_name : {room count n j : ℕ} {moved : Option ℕ} {p : Place} → Scalar order octets 2 n p.at j → count ≤ n → Off room moved (OfEnum count) p (Text (up p.at 2))
    -- a pointer to what stands nowhere yet, for which no level is left
    no_level_ref : {n j : ℕ} {moved : Option ℕ} {s : Form} {p : Place} → Scalar order octets 4 n p.at j → Off 0 moved (OfRef s) p (TooDeep (up p.at 4))
    no_level_unique : {id j : ℕ} {moved : Option ℕ} {s : Form} {p : Place} → Scalar order octets 4 (suc id) p.at j → Off 0 moved (OfUnique s) p (TooDeep (up p.at 4))
    no_level_full : {id j : ℕ} {moved : Option ℕ} {s : Form} {p : Place} → Scalar order octets 4 (suc id) p.at j → look p.met (suc id) ≡ None → Off 0 moved (OfFull s) p (TooDeep (up p.at 4))
