-- Numbers as they are written, and pieces of a stub, one behind the other.
use Rattle.std.specs.Prelude.{ℕ, suc, ◌+◌, ◌-◌, ◌*◌, ◌^◌, ℤ, pos, negsuc, neg_ℤ, nat_lt, List, [], ◌∷◌, ◌++◌, length, replicate, Option, Some, None, if◌then◌else◌}
use Rattle.rpc_base.specs.declared.identifiers.Order.{Order}
use Rattle.ndr_value.specs.Forms.{Form}
use Rattle.ndr_value.specs.Fits.{within}
use Rattle.ndr_value.specs.Values.{Val, Vals}
use Rattle.ndr_scalars.specs.Scalars.{up, octets_of, written, unsigned}

-- ---- numbers

-- what so many octets hold; 0 for another number
abbrev pub fitting : ℕ → ℕ → ℕ
fitting size n = if nat_lt n (2 ^ (8 * octets_of size)) then n else 0

-- half of the numbers that so many octets hold
abbrev pub half : ℕ → ℕ
half size = 2 ^ (8 * octets_of size - 1)

-- the same for a signed number
abbrev pub fitting_int : ℕ → ℤ → ℤ
fitting_int size z = if within (neg_ℤ (pos (half size))) (pos (half size)) z then z else pos 0

abbrev pub natural : ℤ → ℕ
natural (pos n) = n
natural (negsuc n) = 0

-- a count of 32 bits
abbrev pub counted : Option ℤ → ℕ
counted None = 0
counted (Some z) = fitting 4 (natural z)

-- zeros up to the next multiple of n
abbrev pub gap : ℕ → ℕ → List ℕ
gap n i = replicate (up i n - i) 0

-- ---- pieces, one behind the other

-- how many ids were given to pointers, and those of the heap's items, by number
pub record Given : Type 0 where
  pub count : ℕ
  pub items : List ℕ

-- what a pointer points to, and the members beside the pointer
pub record Behind : Type 0 where
  pub body : Vals
  pub shape : Form
  pub value : Val

-- octets, the ids that were given up to their end, and what their pointers point to
pub record Piece : Type 0 where
  pub octets : List ℕ
  pub given : Given
  pub behind : List Behind

abbrev pub only : List ℕ → Given → Piece
only octets g = record { octets = octets; given = g; behind = [] }

abbrev pub joined : Piece → Piece → Piece
joined a b = record { octets = a.octets ++ b.octets; given = b.given; behind = a.behind ++ b.behind }

-- a piece at index i, and the one behind it
abbrev pub then_piece : Piece → ℕ → (ℕ → Given → Piece) → Piece
then_piece a i rest = joined a (rest (i + length a.octets) a.given)

-- ids count from 0x00020000 by fours
abbrev pub next_id : Given → ℕ
next_id g = fitting 4 (131072 + 4 * g.count)

abbrev pub one_given : Given → Given
one_given g = record { count = suc g.count; items = g.items }

abbrev pub item_given : Given → Given
item_given g = record { count = suc g.count; items = g.items ++ next_id g ∷ [] }

-- a number at the next multiple of its size
abbrev pub number : Order → ℕ → ℕ → ℕ → List ℕ
number order size n i = written order size (fitting size n) i

abbrev pub signed_number : Order → ℕ → ℤ → ℕ → List ℕ
signed_number order size z i = written order size (unsigned size (fitting_int size z)) i
