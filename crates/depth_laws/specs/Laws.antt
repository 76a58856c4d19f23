-- No text of a value of a table's shapes is answered by lack of memory for its depth, where they nest 22 levels at most and no
-- reference leads to a type: a table counts the levels of what a reference leads to by themselves, and types may lead to each other, or
-- to themselves, by references.
use Rattle.std.specs.Prelude.{◌≡◌, ℕ, Bool, true, false, ◌&&◌, List, length, slice_get, Some, Err}
use Rattle.std.specs.List.{list_all}
use Rattle.ndr_value.specs.Forms.{Form, OfNamed, OfStruct, OfUnion, OfArray, OfRef, OfUnique, Forms, no_form, then_form, Body, empty, holds, ArmForms, no_arm, then_arm}
use Rattle.ndr_table.specs.declared.operation.HandleUse.{HandleUse}
use Rattle.ndr_table.specs.Ordered.{is_below}
use Rattle.ndr_table.specs.Nested.{depths_of, is_shallow, NestAtMost}
use Rattle.ndr_table.specs.Tables.{ParamForm, OpForm, IsTable}
use Rattle.value_text.specs.declared.departure.Departure.TheVariants.{TooDeep}
use Rattle.value_text.specs.Reading.{read}
use Rattle.value_text.specs.Told.{enough}

abbrev mutual
  -- it names no type, up to pointers other than references
  pub is_own : Form → Bool
  is_own (OfNamed number switch) = false
  is_own (OfStruct ss) = each_own ss
  is_own (OfUnion tag arms) = arms_own arms
  is_own (OfArray kind s) = is_own s
  is_own (OfRef s) = is_own s
  is_own _ = true

  pub each_own : Forms → Bool
  each_own no_form = true
  each_own (then_form s ss) = is_own s && each_own ss

  pub arms_own : ArmForms → Bool
  arms_own no_arm = true
  arms_own (then_arm cases default b rest) = body_own b && arms_own rest

  pub body_own : Body → Bool
  body_own empty = true
  body_own (holds s) = is_own s

abbrev mutual
  -- no reference in it leads to a type; nothing stands behind a full pointer in a text
  pub refs_end : Form → Bool
  refs_end (OfStruct ss) = each_ends ss
  refs_end (OfUnion tag arms) = arms_end arms
  refs_end (OfArray kind s) = refs_end s
  refs_end (OfRef s) = is_own s && refs_end s
  refs_end (OfUnique s) = refs_end s
  refs_end _ = true

  pub each_ends : Forms → Bool
  each_ends no_form = true
  each_ends (then_form s ss) = refs_end s && each_ends ss

  pub arms_end : ArmForms → Bool
  arms_end no_arm = true
  arms_end (then_arm cases default b rest) = body_ends b && arms_end rest

  pub body_ends : Body → Bool
  body_ends empty = true
  body_ends (holds s) = refs_end s

-- the outermost reference, as that of a parameter, may lead to a type
abbrev pub refs_within : Form → Bool
refs_within (OfRef s) = refs_end s
refs_within s = refs_end s

-- whatever the text, it departs by what stands in it, and not by its depth
abbrev pub IsRead : List Form → Form → Type 0
IsRead types s = (text : List ℕ) → read types enough 0 s text ≡ Err TooDeep → ⊥

-- each shape that a table may have, where types and shapes nest 22 levels at most
abbrev pub ShapesAreRead : Type 0
ShapesAreRead =
    (types : List Form) (ops : List OpForm) (uses : List (List HandleUse)) (s : Form) → IsTable types ops uses → NestAtMost 22 types ops → list_all refs_end types ≡ true
    → is_below (length types) (length types) s ≡ true → is_shallow 22 (depths_of types) s ≡ true → refs_within s ≡ true → IsRead types s

abbrev pub ParamsAreRead : Type 0
ParamsAreRead =
    (types : List Form) (ops : List OpForm) (uses : List (List HandleUse)) (number k : ℕ) (op : OpForm) (p : ParamForm) → IsTable types ops uses → NestAtMost 22 types ops
    → list_all refs_end types ≡ true → slice_get ops number ≡ Some op → slice_get op.params k ≡ Some p → refs_within p.shape ≡ true → IsRead types p.shape

abbrev pub ResultsAreRead : Type 0
ResultsAreRead =
    (types : List Form) (ops : List OpForm) (uses : List (List HandleUse)) (number : ℕ) (op : OpForm) (s : Form) → IsTable types ops uses → NestAtMost 22 types ops
    → list_all refs_end types ≡ true → slice_get ops number ≡ Some op → op.result ≡ Some s → refs_within s ≡ true → IsRead types s
