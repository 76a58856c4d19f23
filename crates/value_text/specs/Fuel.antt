-- How deep the shapes of values nest in a text. A reference has no octet of its own there, and a full pointer nothing behind it.
use Rattle.std.specs.Prelude.{◌≡◌, ℕ, zero, suc, List, slice_get, Option, Some, None, Err}
use Rattle.ndr_value.specs.Forms.{Form, OfNamed, OfStruct, OfUnion, OfArray, OfRef, OfUnique, Forms, no_form, then_form, Body, empty, holds, ArmForms, no_arm, then_arm}
use Rattle.value_text.specs.declared.departure.Departure.TheVariants.{TooDeep}
use Rattle.value_text.specs.Reading.{read}
use Rattle.value_text.specs.Told.{enough}

abbrev pub EachForm : (Form → Type 0) → Forms → Type 0
EachForm p no_form = Unit {0}
EachForm p (then_form s ss) = p s × EachForm p ss

abbrev pub HasForm : (Form → Type 0) → Option Form → Type 0
HasForm p None = Unit {0}
HasForm p (Some s) = p s

abbrev pub HasBody : (Form → Type 0) → Body → Type 0
HasBody p empty = Unit {0}
HasBody p (holds s) = p s

abbrev pub EachArm : (Form → Type 0) → ArmForms → Type 0
EachArm p no_arm = Unit {0}
EachArm p (then_arm cases default b rest) = HasBody p b × EachArm p rest

-- p is so of each part, up to pointers
abbrev pub nests_at : List Form → (Form → Type 0) → Form → Type 0
nests_at types p (OfNamed c switch) = HasForm p (slice_get types c)
nests_at types p (OfStruct ss) = EachForm p ss
nests_at types p (OfUnion t arms) = EachArm p arms
nests_at types p (OfArray kind s) = p s
nests_at types p (OfRef s) = p s
nests_at types p _ = Unit {0}

-- names, structures, unions, arrays and references nest less than d deep, up to pointers
unfoldable pub Nests : List Form → ℕ → Form → Type 0
Nests types zero s = ⊥
Nests types (suc d) s = nests_at types (Nests types d) s

-- p is so of what the pointers in the shape point to, up to names
abbrev mutual
  pub Pointed : (Form → Type 0) → Form → Type 0
  Pointed p (OfStruct ss) = EachPointed p ss
  Pointed p (OfUnion t arms) = ArmsPointed p arms
  Pointed p (OfArray kind s) = Pointed p s
  Pointed p (OfRef s) = Pointed p s
  Pointed p (OfUnique s) = p s × Pointed p s
  Pointed p _ = Unit {0}

  pub EachPointed : (Form → Type 0) → Forms → Type 0
  EachPointed p no_form = Unit {0}
  EachPointed p (then_form s ss) = Pointed p s × EachPointed p ss

  pub ArmsPointed : (Form → Type 0) → ArmForms → Type 0
  ArmsPointed p no_arm = Unit {0}
  ArmsPointed p (then_arm cases default b rest) = BodyPointed p b × ArmsPointed p rest

  pub BodyPointed : (Form → Type 0) → Body → Type 0
  BodyPointed p empty = Unit {0}
  BodyPointed p (holds s) = Pointed p s

-- less than 48 deep between each two pointers: 16 levels, each of which is a construct, a name and a reference at most
abbrev pub IsFew : List Form → Form → Type 0
IsFew types s = Nests types 48 s

-- so are the shape, and what the pointers in it and in the types point to
pub record IsFlat (types : List Form) (s : Form) : Type 0 where
  pub itself : IsFew types s
  pub pointed : Pointed (IsFew types) s
  pub types_are : (c : ℕ) (t : Form) → slice_get types c ≡ Some t → Pointed (IsFew types) t

-- whatever the text, it departs by what stands in it, and not by its depth
abbrev pub FuelSuffices : Type 0
FuelSuffices = (types : List Form) (s : Form) (text : List ℕ) → IsFlat types s → read types enough 0 s text ≡ Err TooDeep → ⊥
