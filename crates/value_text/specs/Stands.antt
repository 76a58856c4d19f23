-- Values at the front of a text.
use Rattle.std.specs.Prelude.{◌≡◌, ℕ, Bool, true, false, List, ◌++◌, Some}
use Rattle.ndr_value.specs.Forms.{Form}
use Rattle.ndr_value.specs.Values.{Val, VByte, VChar, VInt, VUint, VEnum, VPtr, VFull, VHandle}
use Rattle.ndr_value.specs.Typed.{Typed}
use Rattle.value_text.specs.Texts.{value_text, Sized}
use Rattle.value_text.specs.Marks.{heads_digit}

-- whether the value's text ends in a number
abbrev pub ends_in_number : Val → Bool
ends_in_number (VByte n) = true
ends_in_number (VChar n) = true
ends_in_number (VInt z) = true
ends_in_number (VUint n) = true
ends_in_number (VEnum n) = true
ends_in_number (VPtr v) = ends_in_number v
ends_in_number (VFull (Some n)) = true
ends_in_number (VHandle slot) = true
ends_in_number _ = false

-- A value of the shape, under so many pointers that aren't null, stands at the front of the text, and the rest follows it.
-- A number goes as far as its digits do.
pub record Stands (types : List Form) (heap level : ℕ) (s : Form) (text : List ℕ) (v : Val) (rest : List ℕ) : Type 0 where
  pub typed : Typed types heap level s v
  pub sized : Sized v
  pub whole : text ≡ value_text v ++ rest
  pub ends : ends_in_number v ≡ true → heads_digit rest ≡ false
