-- Texts: the counts of a varying or conformant varying array of octets, and the octets before the first NUL.
use Rattle.std.specs.Prelude.{◌≡◌, ℕ, ◌+◌, ◌-◌, ◌≤◌, List, length, take, drop, position, Option, Some, None, Result, Ok, Err, nat_lt, ◌==◌, if◌then◌else◌}
use Rattle.rpc_base.specs.declared.identifiers.Order.{Order}
use Rattle.ndr_arrays.specs.declared.counts.Counts.{Counts}
use Rattle.ndr_arrays.specs.declared.counts.CountFault.{CountFault}
use Rattle.ndr_arrays.specs.declared.counts.CountFault.TheVariants as counting
use Rattle.ndr_arrays.specs.declared.texts.TextFault.{TextFault}
use Rattle.ndr_arrays.specs.declared.texts.TextFault.TheVariants.{Short, Bound, Text}
use Rattle.ndr_arrays.specs.Bind.{◌>>=◌}
use Rattle.ndr_arrays.specs.Counted.{HasMost, HasActual, most_at, actual_at}

-- ---- what stands there

-- the maximum: the size of its array, or else a max_count
pub data HasLimit (order : Order) (octets : List ℕ) (moved : Option ℕ) : Option ℕ → ℕ → ℕ → ℕ → Type 0 where
  of_size : {most i : ℕ} → HasLimit order octets moved (Some most) most i i
  of_count : {most i j : ℕ} → HasMost order octets moved most i j → HasLimit order octets moved None most i j

-- a maximum, an offset of 0, an actual_count and as many octets, of which those before the first NUL are the text
pub record IsText (order : Order) (octets : List ℕ) (size moved : Option ℕ) (text : List ℕ) (i j : ℕ) : Type 0 where
  pub most : ℕ
  pub actual : ℕ
  pub h : ℕ
  pub k : ℕ
  pub limit : HasLimit order octets moved size most i h
  pub counted : HasActual order octets most actual h k
  pub ends : j ≡ k + actual
  pub within : j ≤ length octets
  pub nul : ℕ
  pub first_nul : position (λ c. c == 0) (take actual (drop k octets)) ≡ Some nul
  pub is : text ≡ take nul (take actual (drop k octets))

-- ---- how it is read, and the first departure

abbrev pub in_text : {A : Type 0} → Result A CountFault → Result A TextFault
in_text (Ok x) = Ok x
in_text (Err (counting.Short n)) = Err (Short n)
in_text (Err (counting.Bound i)) = Err (Bound i)

-- what stands before the first NUL, which stands somewhere
abbrev pub before_nul : List ℕ → ℕ → Option ℕ → Result (List ℕ) TextFault
before_nul cells i None = Err (Text i)
before_nul cells i (Some n) = Ok (take n cells)

abbrev pub cells_at : List ℕ → ℕ → ℕ → Result (List ℕ × ℕ) TextFault
cells_at octets i n = if nat_lt (length octets) (i + n) then Err (Short (length octets)) else Ok (take n (drop i octets), i + n)

-- the text in cells, whose count stood at index i
abbrev pub text_in : ℕ → List ℕ × ℕ → Result (List ℕ × ℕ) TextFault
text_in i x = before_nul x.0 i (position (λ c. c == 0) x.0) >>= λ text. Ok (text, x.1)

module _ (order : Order) (octets : List ℕ) where
  abbrev pub limit_at : Option ℕ → Option ℕ → ℕ → Result (ℕ × ℕ) CountFault
  limit_at (Some most) moved i = Ok (most, i)
  limit_at None moved i = most_at order octets moved i

  abbrev pub counted_at : Option ℕ → Option ℕ → ℕ → Result (Counts × ℕ) CountFault
  counted_at size moved i = limit_at size moved i >>= λ x. actual_at order octets x.0 x.1

  abbrev pub text_at : Option ℕ → Option ℕ → ℕ → Result (List ℕ × ℕ) TextFault
  text_at size moved i = in_text (counted_at size moved i) >>= λ x. cells_at octets x.1 x.0.actual >>= λ y. text_in (x.1 - 4) y
