-- Which numbers, texts and tags a shape holds.
use Rattle.std.specs.Prelude.{ℕ, ◌+◌, ◌^◌, ℤ, pos, neg_ℤ, int_lt, int_le, ◌&&◌, Bool, false, ◌==◌, nat_lt, nat_le, List, Option, Some, None, if◌then◌else◌}
use Rattle.std.specs.List.{list_any}
use Rattle.std.specs.Ordering.{int_eq}
use Rattle.ndr_value.specs.declared.shape.ArrayKind.{ArrayKind}
use Rattle.ndr_value.specs.declared.shape.ArrayKind.TheVariants.{Fixed, Varying, Conformant, ConformantVarying}
use Rattle.ndr_value.specs.Forms.{Form, OfBool, OfChar, OfInt, OfUint, OfEnum, OfUnion, Body, ArmForms, no_arm, then_arm}

-- the first number that so many octets can't hold; other sizes hold none
abbrev pub limit : ℕ → ℕ
limit size = if size == 1 then 2 ^ 8 else (if size == 2 then 2 ^ 16 else (if size == 4 then 2 ^ 32 else (if size == 8 then 2 ^ 64 else 0)))

-- low ≤ z < high
abbrev pub within : ℤ → ℤ → ℤ → Bool
within low high z = int_le low z && int_lt z high

-- a signed number of so many octets, in two's complement
abbrev pub fits_int : ℕ → ℤ → Bool
fits_int size z = if size == 1 then within (neg_ℤ (pos (2 ^ 7))) (pos (2 ^ 7)) z else (if size == 2 then within (neg_ℤ (pos (2 ^ 15))) (pos (2 ^ 15)) z
    else (if size == 4 then within (neg_ℤ (pos (2 ^ 31))) (pos (2 ^ 31)) z else (if size == 8 then within (neg_ℤ (pos (2 ^ 63))) (pos (2 ^ 63)) z else false)))

-- an array of that kind may have so many elements; a count has 32 bits
abbrev pub fits_count : ArrayKind → ℕ → Bool
fits_count (Fixed n) m = m == n
fits_count (Varying n _) m = nat_le m n
fits_count (Conformant _) m = nat_lt m (2 ^ 32)
fits_count (ConformantVarying _ _) m = nat_lt m (2 ^ 32)

-- a text of so many octets, and its NUL
abbrev pub fits_text : Option ℕ → ℕ → Bool
fits_text None m = nat_lt (m + 1) (2 ^ 32)
fits_text (Some n) m = nat_le (m + 1) n

-- an octet of the text is NUL
abbrev pub has_nul : List ℕ → Bool
has_nul text = list_any (λ c. c == 0) text

-- a tag is a Boolean, a character, a number or a name of an enumeration
abbrev pub fits_tag : Form → ℤ → Bool
fits_tag OfBool z = within (pos 0) (pos 2) z
fits_tag OfChar z = within (pos 0) (pos (2 ^ 8)) z
fits_tag (OfInt size) z = fits_int size z
fits_tag (OfUint size) z = within (pos 0) (pos (limit size)) z
fits_tag (OfEnum count) z = within (pos 0) (pos count) z
fits_tag _ z = false

-- the first arm with that case
abbrev pub with_case : ArmForms → ℤ → Option Body
with_case no_arm tag = None
with_case (then_arm cases default b rest) tag = if list_any (λ c. int_eq c tag) cases then Some b else with_case rest tag

-- the first default arm
abbrev pub with_default : ArmForms → Option Body
with_default no_arm = None
with_default (then_arm cases default b rest) = if default then Some b else with_default rest

abbrev pub or_default : Option Body → ArmForms → Option Body
or_default (Some b) arms = Some b
or_default None arms = with_default arms

-- what the arm holds that the tag selects: the arm with that case, else the default arm
abbrev pub selected : ArmForms → ℤ → Option Body
selected arms tag = or_default (with_case arms tag) arms

-- the arm of a union that a tag of its kind selects
abbrev pub arm_of : Form → ℤ → Option Body
arm_of (OfUnion t arms) tag = if fits_tag t tag then selected arms tag else None
arm_of _ tag = None
