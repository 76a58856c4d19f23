-- The words in front of an array's elements, and texts, as they are written at an index.
use Rattle.std.specs.Prelude.{ℕ, ◌+◌, List, [], ◌∷◌, ◌++◌, length, Bool, Option, Some, None, if◌then◌else◌}
use Rattle.rpc_base.specs.declared.identifiers.Order.{Order}
use Rattle.ndr_value.specs.declared.shape.ArrayKind.{ArrayKind}
use Rattle.ndr_value.specs.declared.shape.ArrayKind.TheVariants.{Fixed, Varying, Conformant, ConformantVarying}
use Rattle.ndr_scalars.specs.Scalars.{written}
use Rattle.ndr_arrays.specs.declared.counts.Counts.{Counts}

-- one piece behind the other
abbrev pub both : (ℕ → List ℕ) → (ℕ → List ℕ) → ℕ → List ℕ
both first second i = first i ++ second (i + length (first i))

module _ (order : Order) where
  -- a number of four octets at the next multiple of four
  abbrev pub word : ℕ → ℕ → List ℕ
  word n i = written order 4 n i

  -- the max_count, unless it stands in front of the outermost structure
  abbrev pub most_octets : Bool → ℕ → ℕ → List ℕ
  most_octets with_most most i = if with_most then word most i else []

  -- offset 0, and the actual_count
  abbrev pub actual_octets : ℕ → ℕ → List ℕ
  actual_octets actual i = both (word 0) (word actual) i

  abbrev pub counts_octets : ArrayKind → Counts → Bool → ℕ → List ℕ
  counts_octets (Fixed n) c with_most i = []
  counts_octets (Varying n count) c with_most i = actual_octets c.actual i
  counts_octets (Conformant count) c with_most i = most_octets with_most c.most i
  counts_octets (ConformantVarying most count) c with_most i = both (most_octets with_most c.most) (actual_octets c.actual) i

  -- the counts of a text of an array of that size, or of any
  abbrev pub size_octets : Option ℕ → ℕ → Bool → ℕ → List ℕ
  size_octets (Some size) n with_most i = actual_octets n i
  size_octets None n with_most i = both (most_octets with_most n) (actual_octets n) i

  -- a text: its counts, which count the one NUL behind it, and max_count is actual_count
  abbrev pub text_octets : Option ℕ → List ℕ → Bool → ℕ → List ℕ
  text_octets size text with_most i = size_octets size (length text + 1) with_most i ++ (text ++ 0 ∷ [])
