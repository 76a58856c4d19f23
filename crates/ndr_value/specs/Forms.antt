-- A shape without where its parts lie in memory. Two shapes whose forms are equal are the same in every item.
use Rattle.std.specs.Prelude.{ℕ, ℤ, Bool, List, [], ◌∷◌, Option, Some, None, map}
use Rattle.ndr_value.specs.declared.shape.Count.{Count}
use Rattle.ndr_value.specs.declared.shape.ArrayKind.{ArrayKind}
use Rattle.ndr_value.specs.declared.shape.Arm.{Arm}
use Rattle.ndr_value.specs.declared.shape.Shape.{Shape, Row_of-Shape, end_of-Shape, more_of-Shape, Row_of-Arm, end_of-Arm, more_of-Arm, Held-Arm-shape, None', Some'}
use Rattle.ndr_value.specs.declared.shape.Shape.TheVariants as shapes

mutual
  pub data Form : Type 0 where
    OfBool : Form
    OfByte : Form
    OfChar : Form
    OfInt : ℕ → Form
    OfUint : ℕ → Form
    OfEnum : ℕ → Form
    OfNamed : ℕ → Option Count → Form
    OfStruct : Forms → Form
    OfUnion : Form → ArmForms → Form
    OfArray : ArrayKind → Form → Form
    OfText : Option ℕ → Form
    OfRef : Form → Form
    OfUnique : Form → Form
    OfFull : Form → Form
    OfHandle : ℕ → Form

  pub data Forms : Type 0 where
    no_form : Forms
    then_form : Form → Forms → Forms

  -- what an arm of a union holds
  pub data Body : Type 0 where
    empty : Body
    holds : Form → Body

  -- arms, each with its cases and whether it is the default
  pub data ArmForms : Type 0 where
    no_arm : ArmForms
    then_arm : List ℤ → Bool → Body → ArmForms → ArmForms

abbrev mutual
  pub form : Shape → Form
  form shapes.Bool = OfBool
  form shapes.Byte = OfByte
  form shapes.Char = OfChar
  form (shapes.Int size) = OfInt size
  form (shapes.Uint size) = OfUint size
  form (shapes.Enum count) = OfEnum count
  form (shapes.Named number switch) = OfNamed number switch
  form (shapes.Struct' _ row) = OfStruct (row_forms row)
  form (shapes.Union' _ tag _ row) = OfUnion (form tag) (row_arms row)
  form (shapes.Array' kind _ s) = OfArray kind (form s)
  form (shapes.Text most) = OfText most
  form (shapes.Ref' _ s) = OfRef (form s)
  form (shapes.Unique' _ s) = OfUnique (form s)
  form (shapes.Full' _ s) = OfFull (form s)
  form (shapes.Handle kind) = OfHandle kind

  pub row_forms : {n : _} → Row_of-Shape n → Forms
  row_forms end_of-Shape = no_form
  row_forms (more_of-Shape s rest) = then_form (form s) (row_forms rest)

  pub row_arms : {n : _} → Row_of-Arm n → ArmForms
  row_arms end_of-Arm = no_arm
  row_arms (more_of-Arm cases default held rest) = then_arm cases default (held_body held) (row_arms rest)

  pub held_body : Held-Arm-shape → Body
  held_body None' = empty
  held_body (Some' s) = holds (form s)

-- the forms of a list of shapes, as of a structure's members
abbrev pub forms : List Shape → Forms
forms [] = no_form
forms (s ∷ ss) = then_form (form s) (forms ss)

-- the forms of a list of types, by number
abbrev pub types_of : List Shape → List Form
types_of ss = map form ss

abbrev pub body : Option Shape → Body
body None = empty
body (Some s) = holds (form s)

-- the forms of a union's arms
abbrev pub arms_of : List Arm → ArmForms
arms_of [] = no_arm
arms_of (a ∷ as') = then_arm a.cases a.default (body a.shape) (arms_of as')

-- an arm's cases, whether it is the default, and what it holds
abbrev pub face : Arm → List ℤ × Bool × Body
face a = (a.cases, a.default, body a.shape)

-- a shape without what names the tags of the unions in it: shapes are compared so
abbrev mutual
  pub bare : Form → Form
  bare (OfNamed number switch) = OfNamed number None
  bare (OfStruct ss) = OfStruct (bare_forms ss)
  bare (OfUnion tag arms) = OfUnion (bare tag) (bare_arms arms)
  bare (OfArray kind s) = OfArray kind (bare s)
  bare (OfRef s) = OfRef (bare s)
  bare (OfUnique s) = OfUnique (bare s)
  bare (OfFull s) = OfFull (bare s)
  bare s = s

  pub bare_forms : Forms → Forms
  bare_forms no_form = no_form
  bare_forms (then_form s ss) = then_form (bare s) (bare_forms ss)

  pub bare_body : Body → Body
  bare_body empty = empty
  bare_body (holds s) = holds (bare s)

  pub bare_arms : ArmForms → ArmForms
  bare_arms no_arm = no_arm
  bare_arms (then_arm cases default b rest) = then_arm cases default (bare_body b) (bare_arms rest)
