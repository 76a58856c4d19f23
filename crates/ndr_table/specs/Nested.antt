-- How deep shapes nest by value: each structure, union, array and pointer is a level. A type that is named has the levels of what it
-- stands for, and none where it stands behind a pointer.
use Rattle.std.specs.Prelude.{◌≡◌, ℕ, suc, max, Bool, true, false, ◌&&◌, ◌||◌, nat_le, List, [], ◌∷◌, ◌++◌, Option, Some, None, unwrap_or, slice_get}
use Rattle.std.specs.List.{list_all}
use Rattle.ndr_value.specs.Forms.{Form, OfNamed, OfStruct, OfUnion, OfArray, OfRef, OfUnique, OfFull, Forms, no_form, then_form, Body, empty, holds, ArmForms, no_arm, then_arm}
use Rattle.ndr_table.specs.Tables.{ParamForm, OpForm}

abbrev mutual
  -- by the levels of the types that it names
  pub levels : List ℕ → Form → ℕ
  levels depths (OfNamed number switch) = unwrap_or (slice_get depths number) 0
  levels depths (OfStruct ss) = suc (members_levels depths ss)
  levels depths (OfUnion tag arms) = suc (max (levels depths tag) (arms_levels depths arms))
  levels depths (OfArray kind s) = suc (levels depths s)
  levels depths (OfRef s) = suc (levels [] s)
  levels depths (OfUnique s) = suc (levels [] s)
  levels depths (OfFull s) = suc (levels [] s)
  levels depths _ = 0

  -- the most of the members'
  pub members_levels : List ℕ → Forms → ℕ
  members_levels depths no_form = 0
  members_levels depths (then_form s ss) = max (levels depths s) (members_levels depths ss)

  pub arms_levels : List ℕ → ArmForms → ℕ
  arms_levels depths no_arm = 0
  arms_levels depths (then_arm cases default b rest) = max (body_levels depths b) (arms_levels depths rest)

  pub body_levels : List ℕ → Body → ℕ
  body_levels depths empty = 0
  body_levels depths (holds s) = levels depths s

-- the levels of types, behind those of the types before them
abbrev pub depths_past : List ℕ → List Form → List ℕ
depths_past depths [] = depths
depths_past depths (s ∷ ss) = depths_past (depths ++ levels depths s ∷ []) ss

-- the levels of the types, by number
abbrev pub depths_of : List Form → List ℕ
depths_of types = depths_past [] types

abbrev pub is_few : ℕ → ℕ → Bool
is_few most n = nat_le n most

-- ---- what stands behind pointers

abbrev pub is_pointer : Form → Bool
is_pointer (OfRef s) = true
is_pointer (OfUnique s) = true
is_pointer (OfFull s) = true
is_pointer _ = false

abbrev mutual
  -- what the pointers in it point to, if that is no pointer itself, nests at most so many levels
  pub reaches_few : ℕ → List ℕ → Form → Bool
  reaches_few most depths (OfStruct ss) = each_reaches most depths ss
  reaches_few most depths (OfUnion tag arms) = arms_reach most depths arms
  reaches_few most depths (OfArray kind s) = reaches_few most depths s
  reaches_few most depths (OfRef s) = (is_pointer s || is_few most (levels depths s)) && reaches_few most depths s
  reaches_few most depths (OfUnique s) = (is_pointer s || is_few most (levels depths s)) && reaches_few most depths s
  reaches_few most depths (OfFull s) = (is_pointer s || is_few most (levels depths s)) && reaches_few most depths s
  reaches_few most depths _ = true

  pub each_reaches : ℕ → List ℕ → Forms → Bool
  each_reaches most depths no_form = true
  each_reaches most depths (then_form s ss) = reaches_few most depths s && each_reaches most depths ss

  pub arms_reach : ℕ → List ℕ → ArmForms → Bool
  arms_reach most depths no_arm = true
  arms_reach most depths (then_arm cases default b rest) = body_reaches most depths b && arms_reach most depths rest

  pub body_reaches : ℕ → List ℕ → Body → Bool
  body_reaches most depths empty = true
  body_reaches most depths (holds s) = reaches_few most depths s

-- the shape itself, and what can be reached from it up to the types that it names
abbrev pub is_shallow : ℕ → List ℕ → Form → Bool
is_shallow most depths s = is_few most (levels depths s) && reaches_few most depths s

abbrev pub param_few : ℕ → List ℕ → ParamForm → Bool
param_few most depths p = is_shallow most depths p.shape

abbrev pub result_few : ℕ → List ℕ → Option Form → Bool
result_few most depths None = true
result_few most depths (Some s) = is_shallow most depths s

abbrev pub op_few : ℕ → List ℕ → OpForm → Bool
op_few most depths o = list_all (param_few most depths) o.params && result_few most depths o.result

-- types, parameters, results and what their pointers point to nest by value at most so many levels
pub record NestAtMost (most : ℕ) (types : List Form) (ops : List OpForm) : Type 0 where
  pub types_are : list_all (is_few most) (depths_of types) ≡ true
  pub types_reach : list_all (reaches_few most (depths_of types)) types ≡ true
  pub ops_are : list_all (op_few most (depths_of types)) ops ≡ true

-- so do those of every table
abbrev pub IsShallow : List Form → List OpForm → Type 0
IsShallow types ops = NestAtMost 256 types ops
