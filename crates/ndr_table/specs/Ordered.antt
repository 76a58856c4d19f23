-- The types of a table: none is reached from itself without a pointer between, since a type holds types of lesser numbers alone.
use Rattle.std.specs.Prelude.{ℕ, ◌+◌, ◌==◌, Bool, true, false, ◌&&◌, ◌||◌, nat_lt, List, [], ◌∷◌, length}
use Rattle.ndr_value.specs.Forms.{Form, OfInt, OfUint, OfNamed, OfStruct, OfUnion, OfArray, OfRef, OfUnique, OfFull, Forms, no_form, then_form, Body, empty, holds, ArmForms, no_arm, then_arm}

-- the octets of a number
abbrev pub is_size : ℕ → Bool
is_size n = n == 1 || (n == 2 || (n == 4 || n == 8))

abbrev mutual
  -- the shape names types below near, and behind pointers types below far; its numbers have 1, 2, 4 or 8 octets
  pub is_below : ℕ → ℕ → Form → Bool
  is_below near far (OfInt size) = is_size size
  is_below near far (OfUint size) = is_size size
  is_below near far (OfNamed number switch) = nat_lt number near
  is_below near far (OfStruct ss) = each_below near far ss
  is_below near far (OfUnion tag arms) = is_below near far tag && arms_below near far arms
  is_below near far (OfArray kind s) = is_below near far s
  is_below near far (OfRef s) = is_below far far s
  is_below near far (OfUnique s) = is_below far far s
  is_below near far (OfFull s) = is_below far far s
  is_below near far _ = true

  pub each_below : ℕ → ℕ → Forms → Bool
  each_below near far no_form = true
  each_below near far (then_form s ss) = is_below near far s && each_below near far ss

  pub arms_below : ℕ → ℕ → ArmForms → Bool
  arms_below near far no_arm = true
  arms_below near far (then_arm cases default b rest) = body_below near far b && arms_below near far rest

  pub body_below : ℕ → ℕ → Body → Bool
  body_below near far empty = true
  body_below near far (holds s) = is_below near far s

-- a structure or a union
abbrev pub is_body : Form → Bool
is_body (OfStruct ss) = true
is_body (OfUnion tag arms) = true
is_body _ = false

-- the types from that number on; far: how many there are
abbrev pub ordered_from : ℕ → ℕ → List Form → Bool
ordered_from number far [] = true
ordered_from number far (s ∷ ss) = is_body s && (is_below number far s && ordered_from (number + 1) far ss)

-- structures and unions, each of which holds those of lesser numbers, and points to any of them
abbrev pub ordered : List Form → Bool
ordered types = ordered_from 0 (length types) types
