-- How deep shapes nest where what a reference leads to is counted as if it stood there by value.
use Rattle.std.specs.Prelude.{◌≡◌, ◌≤◌, ℕ, suc, max, List, slice_get, Some}
use Rattle.ndr_value.specs.Forms.{Form, OfNamed, OfStruct, OfUnion, OfArray, OfRef, Forms, no_form, then_form, Body, empty, holds, ArmForms, no_arm, then_arm}
use Rattle.ndr_table.specs.declared.operation.HandleUse.{HandleUse}
use Rattle.ndr_table.specs.Tables.{OpForm, IsTable}
use Rattle.value_text.specs.Fuel.{Pointed}
use Rattle.depth_laws.specs.Laws.{IsRead}

abbrev mutual
  -- structures, unions, arrays and references one in another, up to other pointers, by those of the types that are named
  pub through : (ℕ → ℕ) → Form → ℕ
  through depth (OfNamed number switch) = depth number
  through depth (OfStruct ss) = suc (members_through depth ss)
  through depth (OfUnion tag arms) = suc (arms_through depth arms)
  through depth (OfArray kind s) = suc (through depth s)
  through depth (OfRef s) = suc (through depth s)
  through depth _ = 0

  pub members_through : (ℕ → ℕ) → Forms → ℕ
  members_through depth no_form = 0
  members_through depth (then_form s ss) = max (through depth s) (members_through depth ss)

  pub arms_through : (ℕ → ℕ) → ArmForms → ℕ
  arms_through depth no_arm = 0
  arms_through depth (then_arm cases default b rest) = max (body_through depth b) (arms_through depth rest)

  pub body_through : (ℕ → ℕ) → Body → ℕ
  body_through depth empty = 0
  body_through depth (holds s) = through depth s

-- 23 at most
abbrev pub IsNear : (ℕ → ℕ) → Form → Type 0
IsNear depth s = through depth s ≤ 23

-- each type has its number of them, and 23 at most stand in what the pointers in the types point to. A type that reaches itself by
-- references alone has no such number
pub record AreNear (types : List Form) (depth : ℕ → ℕ) : Type 0 where
  pub counted : (c : ℕ) (t : Form) → slice_get types c ≡ Some t → through depth t ≤ depth c
  pub pointed : (c : ℕ) (t : Form) → slice_get types c ≡ Some t → Pointed (IsNear depth) t

abbrev pub NearShapesAreRead : Type 0
NearShapesAreRead =
    (types : List Form) (ops : List OpForm) (uses : List (List HandleUse)) (depth : ℕ → ℕ) (s : Form) → IsTable types ops uses → AreNear types depth
    → IsNear depth s → Pointed (IsNear depth) s → IsRead types s
