-- When two shapes are the same: item by item, but for what names the tags of the unions in them.
use Rattle.std.specs.Prelude.{◌≡◌, ℕ, ℤ, Bool, true, false, ◌&&◌, ◌==◌, List, [], ◌∷◌, Option, Some, None}
use Rattle.std.specs.Ordering.{int_eq}
use Rattle.ndr_value.specs.declared.shape.Count.{Count}
use Rattle.ndr_value.specs.declared.shape.Count.TheVariants.{Number, Param, Member}
use Rattle.ndr_value.specs.declared.shape.ArrayKind.{ArrayKind}
use Rattle.ndr_value.specs.declared.shape.ArrayKind.TheVariants.{Fixed, Varying, Conformant, ConformantVarying}
use Rattle.ndr_value.specs.Forms.{Form, OfBool, OfByte, OfChar, OfInt, OfUint, OfEnum, OfNamed, OfStruct, OfUnion, OfArray, OfText, OfRef, OfUnique, OfFull, OfHandle, Forms, no_form, then_form, Body, empty, holds, ArmForms, no_arm, then_arm, bare}

abbrev pub IsSame : Form → Form → Type 0
IsSame s t = bare s ≡ bare t

-- ---- the same as a test

abbrev pub same_bool : Bool → Bool → Bool
same_bool true b = b
same_bool false true = false
same_bool false false = true

abbrev pub same_count : Count → Count → Bool
same_count (Number a) (Number b) = a == b
same_count (Param i t p) (Param j u q) = (i == j) && same_bool t u && (p == q)
same_count (Member i p) (Member j q) = (i == j) && (p == q)
same_count _ _ = false

abbrev pub same_kind : ArrayKind → ArrayKind → Bool
same_kind (Fixed a) (Fixed b) = a == b
same_kind (Varying a c) (Varying b d) = (a == b) && same_count c d
same_kind (Conformant c) (Conformant d) = same_count c d
same_kind (ConformantVarying a b) (ConformantVarying c d) = same_count a c && same_count b d
same_kind _ _ = false

abbrev pub same_size : Option ℕ → Option ℕ → Bool
same_size None None = true
same_size (Some a) (Some b) = a == b
same_size _ _ = false

abbrev pub same_cases : List ℤ → List ℤ → Bool
same_cases [] [] = true
same_cases (a ∷ as') (b ∷ bs) = int_eq a b && same_cases as' bs
same_cases _ _ = false

abbrev mutual
  pub same : Form → Form → Bool
  same OfBool OfBool = true
  same OfByte OfByte = true
  same OfChar OfChar = true
  same (OfInt a) (OfInt b) = a == b
  same (OfUint a) (OfUint b) = a == b
  same (OfEnum a) (OfEnum b) = a == b
  same (OfNamed a c) (OfNamed b d) = a == b
  same (OfStruct ss) (OfStruct ts) = same_each ss ts
  same (OfUnion s xs) (OfUnion t ys) = same s t && same_arms xs ys
  same (OfArray a s) (OfArray b t) = same_kind a b && same s t
  same (OfText a) (OfText b) = same_size a b
  same (OfRef s) (OfRef t) = same s t
  same (OfUnique s) (OfUnique t) = same s t
  same (OfFull s) (OfFull t) = same s t
  same (OfHandle a) (OfHandle b) = a == b
  same _ _ = false

  pub same_each : Forms → Forms → Bool
  same_each no_form no_form = true
  same_each (then_form s ss) (then_form t ts) = same s t && same_each ss ts
  same_each _ _ = false

  pub same_body : Body → Body → Bool
  same_body empty empty = true
  same_body (holds s) (holds t) = same s t
  same_body _ _ = false

  pub same_arms : ArmForms → ArmForms → Bool
  same_arms no_arm no_arm = true
  same_arms (then_arm as' a x xs) (then_arm bs b y ys) = same_cases as' bs && same_bool a b && same_body x y && same_arms xs ys
  same_arms _ _ = false
