-- What a shape asks of the structure or union that holds it: the largest of these is that one's alignment (C706, "Transfer Syntax
-- NDR"). A structure or union begins at a multiple of its own, counted from the start of the stub; an array with counts and a text
-- begin at a multiple of 4, and their elements at a multiple of theirs.
use Rattle.std.specs.Prelude.{ℕ, ◌==◌, max, Bool, true, false, List, [], ◌∷◌, ◌++◌, unwrap_or, slice_get, if◌then◌else◌}
use Rattle.ndr_value.specs.declared.shape.ArrayKind.{ArrayKind}
use Rattle.ndr_value.specs.declared.shape.ArrayKind.TheVariants.{Fixed, Varying, Conformant, ConformantVarying}
use Rattle.ndr_value.specs.Forms.{Form, OfBool, OfByte, OfChar, OfInt, OfUint, OfEnum, OfNamed, OfStruct, OfUnion, OfArray, OfText, OfRef, OfUnique, OfFull, OfHandle, Forms, no_form, then_form, Body, empty, holds, ArmForms, no_arm, then_arm}

-- a number's octets
abbrev pub octets_of : ℕ → ℕ
octets_of size = if size == 1 then 1 else (if size == 2 then 2 else (if size == 4 then 4 else 8))

-- what an array's counts add. The max_count of a conformant array that ends a structure stands in front of the outermost one, and
-- doesn't count
abbrev pub counts_align : Bool → ArrayKind → ℕ
counts_align ends (Fixed n) = 1
counts_align ends (Conformant c) = if ends then 1 else 4
counts_align ends (Varying n c) = 4
counts_align ends (ConformantVarying c d) = 4

abbrev pub is_last : Forms → Bool
is_last no_form = true
is_last (then_form s ss) = false

abbrev mutual
  -- what a shape asks, by the alignments of the types that it names; ends: it ends a structure
  pub aligned : List ℕ → Bool → Form → ℕ
  aligned aligns ends OfBool = 1
  aligned aligns ends OfByte = 1
  aligned aligns ends OfChar = 1
  aligned aligns ends (OfInt size) = octets_of size
  aligned aligns ends (OfUint size) = octets_of size
  aligned aligns ends (OfEnum count) = 2
  aligned aligns ends (OfNamed number switch) = unwrap_or (slice_get aligns number) 1
  aligned aligns ends (OfStruct ss) = members_align aligns ss
  aligned aligns ends (OfUnion tag arms) = max (aligned aligns false tag) (arms_align aligns arms)
  aligned aligns ends (OfArray kind s) = max (counts_align ends kind) (aligned aligns false s)
  aligned aligns ends (OfText most) = 4
  aligned aligns ends (OfRef s) = 4
  aligned aligns ends (OfUnique s) = 4
  aligned aligns ends (OfFull s) = 4
  aligned aligns ends (OfHandle kind) = 4

  -- the largest of the members'
  pub members_align : List ℕ → Forms → ℕ
  members_align aligns no_form = 1
  members_align aligns (then_form s ss) = max (aligned aligns (is_last ss) s) (members_align aligns ss)

  pub arms_align : List ℕ → ArmForms → ℕ
  arms_align aligns no_arm = 1
  arms_align aligns (then_arm cases default b rest) = max (body_align aligns b) (arms_align aligns rest)

  pub body_align : List ℕ → Body → ℕ
  body_align aligns empty = 1
  body_align aligns (holds s) = aligned aligns false s

abbrev pub align_of : List ℕ → Form → ℕ
align_of aligns s = aligned aligns false s

-- the alignments of types, behind those of the types before them: a type holds types of lesser numbers alone, but for what stands
-- behind pointers
abbrev pub aligns_past : List ℕ → List Form → List ℕ
aligns_past aligns [] = aligns
aligns_past aligns (s ∷ ss) = aligns_past (aligns ++ align_of aligns s ∷ []) ss

-- the alignments of the types, by number
abbrev pub alignments : List Form → List ℕ
alignments types = aligns_past [] types
