-- What the shapes of a table are, so that each value has octets and each tag a number (C706, "Transfer Syntax NDR").
use Rattle.std.specs.Prelude.{ℕ, ◌==◌, Bool, true, false, ◌&&◌, ◌||◌, nat_le, int_le, List, [], ◌∷◌, Option, Some, None, is_some, ◌≡◌, if◌then◌else◌}
use Rattle.std.specs.Bool.{beq}
use Rattle.std.specs.List.{list_all}
use Rattle.ndr_value.specs.declared.shape.ArrayKind.{ArrayKind}
use Rattle.ndr_value.specs.declared.shape.ArrayKind.TheVariants.{Fixed, Varying, Conformant, ConformantVarying}
use Rattle.ndr_value.specs.Forms.{Form, OfBool, OfChar, OfInt, OfUint, OfEnum, OfStruct, OfUnion, OfArray, OfText, OfRef, OfUnique, OfFull, OfHandle, Forms, no_form, then_form, Body, empty, holds, ArmForms, no_arm, then_arm}
use Rattle.ndr_table.specs.declared.operation.Bounds.{Bounds}
use Rattle.ndr_table.specs.declared.operation.HandleUse.{HandleUse}
use Rattle.ndr_table.specs.Tables.{ParamForm, OpForm}

-- what a union's tag is: a Boolean, a character, an integer of at most 32 bits or a signed one of 64, or an enumeration
abbrev pub is_tag : Form → Bool
is_tag OfBool = true
is_tag OfChar = true
is_tag (OfInt size) = true
is_tag (OfUint size) = nat_le size 4
is_tag (OfEnum count) = true
is_tag _ = false

-- an array of a fixed size has an element
abbrev pub has_element : ArrayKind → Bool
has_element (Fixed n) = nat_le 1 n
has_element (Varying n c) = nat_le 1 n
has_element (Conformant c) = true
has_element (ConformantVarying c d) = true

abbrev pub has_room : Option ℕ → Bool
has_room None = true
has_room (Some n) = nat_le 1 n

abbrev pub has_member : Forms → Bool
has_member no_form = false
has_member (then_form s ss) = true

abbrev mutual
  -- each structure in it has a member, each array and text of a fixed size an element, each enumeration a name, and each union a
  -- tag; no handle is in it
  pub is_sound : Form → Bool
  is_sound (OfEnum count) = nat_le 1 count
  is_sound (OfStruct ss) = has_member ss && each_sound ss
  is_sound (OfUnion tag arms) = (is_tag tag && is_sound tag) && arms_sound arms
  is_sound (OfArray kind s) = has_element kind && is_sound s
  is_sound (OfText most) = has_room most
  is_sound (OfRef s) = is_sound s
  is_sound (OfUnique s) = is_sound s
  is_sound (OfFull s) = is_sound s
  is_sound (OfHandle kind) = false
  is_sound _ = true

  pub each_sound : Forms → Bool
  each_sound no_form = true
  each_sound (then_form s ss) = is_sound s && each_sound ss

  pub arms_sound : ArmForms → Bool
  arms_sound no_arm = true
  arms_sound (then_arm cases default b rest) = body_sound b && arms_sound rest

  pub body_sound : Body → Bool
  body_sound empty = true
  body_sound (holds s) = is_sound s

-- ---- parameters

abbrev pub own_kind : Form → Option ℕ
own_kind (OfHandle kind) = Some kind
own_kind _ = None

-- the number of the handle type of a handle by value, or behind its Ref
abbrev pub handle_kind : Form → Option ℕ
handle_kind (OfRef s) = own_kind s
handle_kind s = own_kind s

-- an integer of at most 32 bits
abbrev pub is_small_number : Form → Bool
is_small_number (OfInt size) = nat_le size 4
is_small_number (OfUint size) = nat_le size 4
is_small_number _ = false

-- one, or a Ref to one
abbrev pub may_range : Form → Bool
may_range (OfRef s) = is_small_number s
may_range s = is_small_number s

-- a range stands on such a number alone, and is of some number
abbrev pub range_sound : Form → Option Bounds → Bool
range_sound s None = true
range_sound s (Some r) = may_range s && int_le r.low r.high

abbrev pub param_sound : ParamForm → Bool
param_sound p = (is_some (handle_kind p.shape) || is_sound p.shape) && range_sound p.shape p.range

abbrev pub result_sound : Option Form → Bool
result_sound None = true
result_sound (Some s) = is_sound s

abbrev pub op_sound : OpForm → Bool
op_sound o = list_all param_sound o.params && result_sound o.result

-- ---- handles

abbrev pub is_use : ℕ → ParamForm → HandleUse → Bool
is_use kind p u = (u.kind == kind) && (beq u.inward p.inward && beq u.outward p.outward)

-- the uses behind that of a parameter which is a handle of that type
abbrev pub behind_use : ℕ → ParamForm → List HandleUse → Option (List HandleUse)
behind_use kind p [] = None
behind_use kind p (u ∷ us) = if is_use kind p u then Some us else None

-- the uses behind that of a parameter, if it is a handle
abbrev pub behind_kind : Option ℕ → ParamForm → List HandleUse → Option (List HandleUse)
behind_kind None p us = Some us
behind_kind (Some kind) p us = behind_use kind p us

abbrev pub behind_param : ParamForm → List HandleUse → Option (List HandleUse)
behind_param p us = behind_kind (handle_kind p.shape) p us

abbrev pub are_none : List HandleUse → Bool
are_none [] = true
are_none (u ∷ us) = false

abbrev pub if_left : (List HandleUse → Bool) → Option (List HandleUse) → Bool
if_left f None = false
if_left f (Some us) = f us

-- the uses are those of the parameters that are handles, in order
abbrev pub are_uses : List ParamForm → List HandleUse → Bool
are_uses [] us = are_none us
are_uses (p ∷ ps) us = if_left (are_uses ps) (behind_param p us)

abbrev pub each_uses : List OpForm → List (List HandleUse) → Bool
each_uses [] uses = true
each_uses (o ∷ os) [] = false
each_uses (o ∷ os) (us ∷ uses) = are_uses o.params us && each_uses os uses

pub record IsSound (types : List Form) (ops : List OpForm) (uses : List (List HandleUse)) : Type 0 where
  pub types_are : list_all is_sound types ≡ true
  pub ops_are : list_all op_sound ops ≡ true
  pub uses_are : each_uses ops uses ≡ true
