-- What stands at the places of a message. A message of an operation has a value of its shape at each; elsewhere these are empty.
use Rattle.std.specs.Prelude.{ℕ, zero, suc, List, [], ◌∷◌, Option, None, slice_index_or}
use Rattle.ndr_value.specs.Values.{Val, VByte, VUint, VArray, VText, Vals, no_val, then_val, Msg}

-- the value at a place, from 0; an empty text where there is none
abbrev pub value_at : Vals → ℕ → Val
value_at no_val n = VText []
value_at (then_val v vs) zero = v
value_at (then_val v vs) (suc n) = value_at vs n

abbrev pub uint_of : Val → ℕ
uint_of (VUint n) = n
uint_of _ = 0

abbrev pub text_of : Val → List ℕ
text_of (VText text) = text
text_of _ = []

-- the octets of an array of bytes
abbrev pub byte_of : Val → ℕ
byte_of (VByte n) = n
byte_of _ = 0

abbrev pub bytes_in : Vals → List ℕ
bytes_in no_val = []
bytes_in (then_val v vs) = byte_of v ∷ bytes_in vs

abbrev pub bytes_of : Val → List ℕ
bytes_of (VArray vs) = bytes_in vs
bytes_of _ = []

abbrev pub uint_at : Msg → ℕ → ℕ
uint_at m n = uint_of (value_at m.values n)

abbrev pub text_at : Msg → ℕ → List ℕ
text_at m n = text_of (value_at m.values n)

abbrev pub bytes_at : Msg → ℕ → List ℕ
bytes_at m n = bytes_of (value_at m.values n)

-- ---- cookies

-- the cookie of the handle at a place; none where there is no place
abbrev pub cookie_at : List (Option ℕ) → ℕ → Option ℕ
cookie_at cookies n = slice_index_or cookies n None
