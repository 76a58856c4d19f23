-- The words in front of an array's elements: max_count, offset and actual_count, as its kind has them.
use Rattle.std.specs.Prelude.{ℕ, ◌≤◌, List, length, Option, Some, None, Result, Ok, Err, nat_lt, ◌==◌, if◌then◌else◌}
use Rattle.rpc_base.specs.declared.identifiers.Order.{Order}
use Rattle.ndr_value.specs.declared.shape.Count.{Count}
use Rattle.ndr_value.specs.declared.shape.ArrayKind.{ArrayKind}
use Rattle.ndr_value.specs.declared.shape.ArrayKind.TheVariants.{Fixed, Varying, Conformant, ConformantVarying}
use Rattle.ndr_scalars.specs.Scalars.{up, number_at, Scalar}
use Rattle.ndr_arrays.specs.declared.counts.Counts.{Counts}
use Rattle.ndr_arrays.specs.declared.counts.CountFault.{CountFault}
use Rattle.ndr_arrays.specs.declared.counts.CountFault.TheVariants.{Short, Bound}
use Rattle.ndr_arrays.specs.Bind.{◌>>=◌}

abbrev pub counts : ℕ → ℕ → Counts
counts most actual = record { most = most; actual = actual }

-- ---- what stands there

-- the max_count, where it hasn't moved in front of the outermost structure
pub data HasMost (order : Order) (octets : List ℕ) : Option ℕ → ℕ → ℕ → ℕ → Type 0 where
  moved_most : {most i : ℕ} → HasMost order octets (Some most) most i i
  a_most : {most i j : ℕ} → Scalar order octets 4 most i j → HasMost order octets None most i j

-- offset 0, and an actual_count of at most that many
pub record HasActual (order : Order) (octets : List ℕ) (most actual i j : ℕ) : Type 0 where
  pub h : ℕ
  pub offset : Scalar order octets 4 0 i h
  pub actual_count : Scalar order octets 4 actual h j
  pub fits : actual ≤ most

pub data HasCounts (order : Order) (octets : List ℕ) (moved : Option ℕ) : ArrayKind → Counts → ℕ → ℕ → Type 0 where
  of_fixed : {n i : ℕ} → HasCounts order octets moved (Fixed n) (counts n n) i i
  of_varying : {n actual i j : ℕ} {c : Count} → HasActual order octets n actual i j → HasCounts order octets moved (Varying n c) (counts n actual) i j
  of_conformant : {most i j : ℕ} {c : Count} → HasMost order octets moved most i j → HasCounts order octets moved (Conformant c) (counts most most) i j
  of_both : {most actual i h j : ℕ} {c d : Count} → HasMost order octets moved most i h → HasActual order octets most actual h j
      → HasCounts order octets moved (ConformantVarying c d) (counts most actual) i j

-- ---- how it is read, and the first departure

abbrev pub or_short : {A : Type 0} → ℕ → Option A → Result A CountFault
or_short n None = Err (Short n)
or_short n (Some x) = Ok x

module _ (order : Order) (octets : List ℕ) where
  abbrev pub word_at : ℕ → Result (ℕ × ℕ) CountFault
  word_at i = or_short (length octets) (number_at order 4 octets i)

  abbrev pub most_at : Option ℕ → ℕ → Result (ℕ × ℕ) CountFault
  most_at None i = word_at i
  most_at (Some most) i = Ok (most, i)

  -- the actual_count, where the offset was read
  abbrev pub within_most : ℕ → ℕ → Result (Counts × ℕ) CountFault
  within_most most i = word_at i >>= λ x. (if nat_lt most x.0 then Err (Bound (up i 4)) else Ok (counts most x.0, x.1))

  abbrev pub actual_at : ℕ → ℕ → Result (Counts × ℕ) CountFault
  actual_at most i = word_at i >>= λ x. (if x.0 == 0 then within_most most x.1 else Err (Bound (up i 4)))

  abbrev pub counts_at : ArrayKind → Option ℕ → ℕ → Result (Counts × ℕ) CountFault
  counts_at (Fixed n) moved i = Ok (counts n n, i)
  counts_at (Varying n c) moved i = actual_at n i
  counts_at (Conformant c) moved i = most_at moved i >>= λ x. Ok (counts x.0 x.0, x.1)
  counts_at (ConformantVarying c d) moved i = most_at moved i >>= λ x. actual_at x.0 x.1
