-- Numbers at aligned places of a stub.
use Rattle.std.specs.Prelude.{◌≡◌, ℕ, ◌+◌, ◌-◌, ◌*◌, ◌/◌, ◌≤◌, ◌<◌, ◌^◌, ℤ, List, [], ◌∷◌, ◌++◌, length, take, drop, replicate, FitsSigned, slice_index, Option, Some, None, nat_lt, ◌==◌, if◌then◌else◌}
use Rattle.std.specs.Int.{Width, w8, w16, w32, w64, cast_signed, cast_unsigned}
use Rattle.rpc_base.specs.declared.identifiers.Order.{Order}
use Rattle.rpc_base.specs.Fields.{number_of, number_octets}

-- the least multiple of n not below i
abbrev pub up : ℕ → ℕ → ℕ
up i n = (i + (n - 1)) / n * n

-- how many octets a size has: 1, 2, 4, and 8 for each other
abbrev pub octets_of : ℕ → ℕ
octets_of size = if size == 1 then 1 else (if size == 2 then 2 else (if size == 4 then 4 else 8))

abbrev pub width_of : ℕ → Width
width_of size = if size == 1 then w8 else (if size == 2 then w16 else (if size == 4 then w32 else w64))

-- the number in the octets
abbrev pub number_in : Order → ℕ → List ℕ → ℕ
number_in order size cells =
    if size == 1 then slice_index cells 0 else (if size == 2 then number_of order w16 cells else (if size == 4 then number_of order w32 cells else number_of order w64 cells))

-- the same as a signed number, in two's complement
abbrev pub signed : ℕ → ℕ → ℤ
signed size n = cast_signed (width_of size) n

-- the octets of a number
abbrev pub cells_of : Order → ℕ → ℕ → List ℕ
cells_of order size n = if size == 1 then n ∷ [] else (if size == 2 then number_octets order w16 n else (if size == 4 then number_octets order w32 n else number_octets order w64 n))

-- the octets from the next multiple of the size up to j are n, in that order; those of the gap may be anything
pub record Scalar (order : Order) (octets : List ℕ) (size n i j : ℕ) : Type 0 where
  pub ends : j ≡ up i (octets_of size) + octets_of size
  pub within : j ≤ length octets
  pub is : n ≡ number_in order size (take (octets_of size) (drop (up i (octets_of size)) octets))

-- the number at the next multiple of its size, and the index after it; none where the octets end before
unfoldable pub number_at : Order → ℕ → List ℕ → ℕ → Option (ℕ × ℕ)
number_at order size octets i =
    if nat_lt (length octets) (up i (octets_of size) + octets_of size) then None
    else Some (number_in order size (take (octets_of size) (drop (up i (octets_of size)) octets)), up i (octets_of size) + octets_of size)

abbrev pub with_sign : ℕ → Option (ℕ × ℕ) → Option (ℤ × ℕ)
with_sign size None = None
with_sign size (Some x) = Some (signed size x.0, x.1)

-- the same for a signed number
abbrev pub signed_at : Order → ℕ → List ℕ → ℕ → Option (ℤ × ℕ)
signed_at order size octets i = with_sign size (number_at order size octets i)

-- a number of so many octets
abbrev pub holds_number : ℕ → ℕ → Type 0
holds_number size n = n < 2 ^ (8 * octets_of size)

-- a number as it is written at an index: zeros up to the next multiple of its size, then its octets
unfoldable pub written : Order → ℕ → ℕ → ℕ → List ℕ
written order size n i = replicate (up i (octets_of size) - i) 0 ++ cells_of order size n

-- a signed number that so many octets hold in two's complement
abbrev pub holds_signed : ℕ → ℤ → Type 0
holds_signed size z = FitsSigned (width_of size) z

-- the octets of a signed number as one without a sign
abbrev pub unsigned : ℕ → ℤ → ℕ
unsigned size z = cast_unsigned (width_of size) z

-- the octets of a number at the next multiple of its size, and the index after them
abbrev pub AreCells : ℕ → List ℕ → ℕ → List ℕ → ℕ → Type 0
AreCells size octets i cells after = (cells ≡ take (octets_of size) (drop (up i (octets_of size)) octets)) × (after ≡ up i (octets_of size) + octets_of size) × (after ≤ length octets)
