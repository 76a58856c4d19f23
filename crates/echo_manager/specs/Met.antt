-- Which items of the heap values lead to, in the order in which they are met in a stub (C706, "Transfer Syntax NDR", full pointers):
-- those of a flat part first, then those of what its pointers point to, one pointer behind the other.
use Rattle.std.specs.Prelude.{ℕ, zero, suc, ◌+◌, ◌==◌, ℤ, Bool, true, false, List, [], ◌∷◌, ◌++◌, slice_get, Option, Some, None, is_some, if◌then◌else◌}
use Rattle.ndr_value.specs.Forms.{Form, OfByte, OfNamed, OfStruct, OfUnion, OfArray, OfRef, OfUnique, OfFull, Forms, no_form, then_form, Body, holds}
use Rattle.ndr_value.specs.Fits.{arm_of}
use Rattle.ndr_value.specs.Values.{Val, VStruct, VUnion, VArray, VPtr, VFull, Vals, no_val, then_val}
use Rattle.ndr_table.specs.Tables.{ParamForm}
use Rattle.ndr_model.specs.Stub.{of_param}
use Rattle.ndr_model.specs.Named.{nth}
use Rattle.ndr_model.specs.Written.{deep}

-- ---- items that were met

-- where the number stands in a list whose first place is k
abbrev pub place_from : ℕ → ℕ → List ℕ → Option ℕ
place_from k n [] = None
place_from k n (m ∷ ms) = if m == n then Some k else place_from (k + 1) n ms

abbrev pub place_in : ℕ → List ℕ → Option ℕ
place_in n met = place_from 0 n met

abbrev pub with_met : List ℕ → ℕ → List ℕ
with_met met n = if is_some (place_in n met) then met else met ++ n ∷ []

-- ---- flat parts

-- what a pointer leads to: a value of its own, or the item of that number
pub data Lead : Type 0 where
  to_value : Form → Val → Lead
  to_item : Form → ℕ → Lead

-- the items that were met so far, and what stands behind the flat part
pub record Flat : Type 0 where
  pub met : List ℕ
  pub behind : List Lead

abbrev pub with_lead : Lead → Flat → Flat
with_lead l f = record { met = f.met; behind = f.behind ++ l ∷ [] }

-- an item stands where it is met first
abbrev pub meets : Form → ℕ → Flat → Flat
meets s n f = if is_some (place_in n f.met) then f else record { met = f.met ++ n ∷ []; behind = f.behind ++ to_item s n ∷ [] }

abbrev pub is_byte : Form → Bool
is_byte OfByte = true
is_byte _ = false

abbrev pub flat_unique : Form → Val → Flat → Flat
flat_unique s (VPtr v) f = with_lead (to_value s v) f
flat_unique s _ f = f

abbrev pub flat_full : Form → Val → Flat → Flat
flat_full s (VFull (Some n)) f = meets s n f
flat_full s _ f = f

module _ (types : List Form) where
  abbrev pub Walk : Type 0
  Walk = Form → Val → Flat → Flat

  abbrev pub flat_members : Walk → Forms → Vals → Flat → Flat
  flat_members go no_form vs f = f
  flat_members go (then_form s ss) no_val f = f
  flat_members go (then_form s ss) (then_val v vs) f = flat_members go ss vs (go s v f)

  abbrev pub flat_items : Walk → Form → Vals → Flat → Flat
  flat_items go s no_val f = f
  flat_items go s (then_val v vs) f = flat_items go s vs (go s v f)

  abbrev pub flat_struct : Walk → Forms → Val → Flat → Flat
  flat_struct go ss (VStruct vs) f = flat_members go ss vs f
  flat_struct go ss _ f = f

  abbrev pub flat_arm : Walk → Option Body → Val → Flat → Flat
  flat_arm go (Some (holds s)) v f = go s v f
  flat_arm go _ v f = f

  abbrev pub flat_union : Walk → Form → Val → Flat → Flat
  flat_union go u (VUnion z v) f = flat_arm go (arm_of u z) v f
  flat_union go u _ f = f

  -- octets lead nowhere
  abbrev pub flat_array : Walk → Form → Val → Flat → Flat
  flat_array go s (VArray vs) f = if is_byte s then f else flat_items go s vs f
  flat_array go s _ f = f

  abbrev pub flat_type : Walk → Option Form → Val → Flat → Flat
  flat_type go None v f = f
  flat_type go (Some s) v f = go s v f

  -- one step, where go does the parts
  abbrev pub flat_at : Walk → Walk
  flat_at go (OfNamed c switch) v f = flat_type go (slice_get types c) v f
  flat_at go (OfStruct ss) v f = flat_struct go ss v f
  flat_at go (OfUnion t arms) v f = flat_union go (OfUnion t arms) v f
  flat_at go (OfArray kind s) v f = flat_array go s v f
  flat_at go (OfRef s) v f = with_lead (to_value s v) f
  flat_at go (OfUnique s) v f = flat_unique s v f
  flat_at go (OfFull s) v f = flat_full s v f
  flat_at go s v f = f

  -- at most n constructs deep
  unfoldable pub flat : ℕ → Walk
  flat zero s v f = f
  flat (suc n) s v f = flat_at (flat n) s v f

  -- the parts of a construct, each at most n constructs deep

  abbrev pub deep_struct : ℕ → Forms → Val → Flat → Flat
  deep_struct n ss v f = flat_struct (flat n) ss v f

  abbrev pub deep_members : ℕ → Forms → Vals → Flat → Flat
  deep_members n ss vs f = flat_members (flat n) ss vs f

  -- the arm of a tag
  abbrev pub deep_arm : ℕ → Form → ℤ → Val → Flat → Flat
  deep_arm n u z v f = flat_arm (flat n) (arm_of u z) v f

  abbrev pub deep_union : ℕ → Form → Val → Flat → Flat
  deep_union n u v f = flat_union (flat n) u v f

  abbrev pub deep_items : ℕ → Form → Vals → Flat → Flat
  deep_items n s vs f = flat_items (flat n) s vs f

  abbrev pub deep_array : ℕ → Form → Val → Flat → Flat
  deep_array n s v f = flat_array (flat n) s v f

  -- ---- what pointers point to

  abbrev pub start : List ℕ → Flat
  start met = record { met = met; behind = [] }

  abbrev pub each_behind : (Lead → List ℕ → List ℕ) → List Lead → List ℕ → List ℕ
  each_behind go [] met = met
  each_behind go (l ∷ ls) met = each_behind go ls (go l met)

  -- the items that are met behind a flat part
  abbrev pub behind_flat : (Lead → List ℕ → List ℕ) → Flat → List ℕ
  behind_flat go f = each_behind go f.behind f.met

  abbrev pub whole_value : (Lead → List ℕ → List ℕ) → Form → Option Val → List ℕ → List ℕ
  whole_value go s None met = met
  whole_value go s (Some v) met = behind_flat go (flat deep s v (start met))

  abbrev pub whole_lead : Vals → (Lead → List ℕ → List ℕ) → Lead → List ℕ → List ℕ
  whole_lead heap go (to_value s v) met = whole_value go s (Some v) met
  whole_lead heap go (to_item s n) met = whole_value go s (nth heap n) met

  -- on at most so many levels of pointers
  unfoldable pub whole : Vals → ℕ → Lead → List ℕ → List ℕ
  whole heap zero l met = met
  whole heap (suc levels) l met = whole_lead heap (whole heap levels) l met

  -- the items that a value leads to, on at most so many levels of pointers behind it
  abbrev pub met_at : Vals → ℕ → Form → Option Val → List ℕ → List ℕ
  met_at heap levels s v met = whole_value (whole heap levels) s v met

  -- ---- the parameters that come out, of those that go in: each has 256 levels below it

  abbrev pub met_by : Vals → Bool → Bool → Form → (Vals → List ℕ → List ℕ) → Vals → List ℕ → List ℕ
  met_by heap true true s go (then_val v vs) met = go vs (whole heap 257 (to_value s v) met)
  met_by heap true false s go (then_val v vs) met = go vs met
  met_by heap true _ s go no_val met = met
  met_by heap false _ s go vs met = go vs met

  abbrev pub met_in : Vals → List ParamForm → Vals → List ℕ → List ℕ
  met_in heap [] vs met = met
  met_in heap (p ∷ ps) vs met = met_by heap p.inward p.outward (of_param p.shape) (met_in heap ps) vs met
