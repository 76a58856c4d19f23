-- The text of a value: one for each value.
use Rattle.std.specs.Prelude.{ℕ, suc, ℤ, pos, negsuc, ◌<◌, ◌^◌, ◌≡◌, Bool, true, false, not, ◌&&◌, ◌==◌, nat_le, List, [], ◌∷◌, ◌++◌, Some, None, codes, decimal, if◌then◌else◌}
use Rattle.std.specs.List.{flat_map}
use Rattle.std.specs.Fmt.{signed_decimal}
use Rattle.hex.specs.Hex.{encode_lower, IsBytes}
use Rattle.ndr_value.specs.Fits.{fits_int}
use Rattle.ndr_value.specs.Values.{Val, VBool, VByte, VChar, VInt, VUint, VEnum, VStruct, VEmpty, VUnion, VArray, VText, VNull, VPtr, VFull, VHandle, Vals, no_val, then_val}

-- an octet of a text that stands as it is: a printable one of ASCII, but neither `"` nor `\`
abbrev pub is_plain : ℕ → Bool
is_plain c = nat_le 32 c && nat_le c 126 && not (c == 34) && not (c == 92)

-- any other stands by its number, in two small hexadecimal digits
unfoldable pub char_text : ℕ → List ℕ
char_text c = if is_plain c then c ∷ [] else 92 ∷ 120 ∷ encode_lower (c ∷ [])

abbrev pub bool_text : Bool → List ℕ
bool_text true = codes "true"
bool_text false = codes "false"

unfoldable mutual
  pub value_text : Val → List ℕ
  value_text (VBool b) = bool_text b
  value_text (VByte n) = decimal n
  value_text (VChar n) = decimal n
  value_text (VInt z) = signed_decimal z
  value_text (VUint n) = decimal n
  value_text (VEnum n) = decimal n
  value_text (VStruct vs) = codes "{" ++ (list_text vs ++ codes "}")
  value_text (VEmpty tag) = codes "(" ++ (signed_decimal tag ++ codes ")")
  value_text (VUnion tag v) = codes "(" ++ (signed_decimal tag ++ (codes ": " ++ (value_text v ++ codes ")")))
  value_text (VArray vs) = codes "[" ++ (list_text vs ++ codes "]")
  value_text (VText text) = codes "\"" ++ (flat_map char_text text ++ codes "\"")
  value_text VNull = codes "null"
  value_text (VPtr v) = codes "&" ++ value_text v
  value_text (VFull None) = codes "null"
  value_text (VFull (Some n)) = codes "@" ++ decimal n
  value_text (VHandle slot) = codes "$" ++ decimal slot

  -- values with a comma and a space between each two
  pub list_text : Vals → List ℕ
  list_text no_val = []
  list_text (then_val v vs) = value_text v ++ more_text vs

  -- those behind the first
  pub more_text : Vals → List ℕ
  more_text no_val = []
  more_text (then_val v vs) = codes ", " ++ (value_text v ++ more_text vs)

-- a signed number whose size has 64 bits
abbrev pub is_small : ℤ → Type 0
is_small (pos n) = n < 2 ^ 64
is_small (negsuc n) = suc n < 2 ^ 64

-- the numbers in a value are those that the types of its parts hold
unfoldable mutual
  pub Sized : Val → Type 0
  Sized (VBool b) = Unit {0}
  Sized (VByte n) = n < 2 ^ 8
  Sized (VChar n) = n < 2 ^ 8
  Sized (VInt z) = is_small z
  Sized (VUint n) = n < 2 ^ 64
  Sized (VEnum n) = n < 2 ^ 64
  Sized (VStruct vs) = AllSized vs
  Sized (VEmpty tag) = (fits_int 8 tag ≡ true) × is_small tag
  Sized (VUnion tag v) = ((fits_int 8 tag ≡ true) × is_small tag) × Sized v
  Sized (VArray vs) = AllSized vs
  Sized (VText text) = IsBytes text
  Sized VNull = Unit {0}
  Sized (VPtr v) = Sized v
  Sized (VFull None) = Unit {0}
  Sized (VFull (Some n)) = n < 2 ^ 32
  Sized (VHandle slot) = slot < 2 ^ 8

  pub AllSized : Vals → Type 0
  AllSized no_val = Unit {0}
  AllSized (then_val v vs) = Sized v × AllSized vs
