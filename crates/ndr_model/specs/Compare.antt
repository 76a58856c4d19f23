-- The first count, tag or number with a range that disagrees with what names it, in the order of the octets.
use Rattle.std.specs.Prelude.{ℕ, zero, suc, ℤ, int_le, Bool, true, false, ◌&&◌, List, [], ◌∷◌, slice_get, Option, Some, None, nat_lt, if◌then◌else◌}
use Rattle.std.specs.Ordering.{int_eq}
use Rattle.ndr_value.specs.declared.shape.Count.{Count}
use Rattle.ndr_value.specs.declared.shape.ArrayKind.{ArrayKind}
use Rattle.ndr_value.specs.declared.shape.ArrayKind.TheVariants.{Fixed, Varying, Conformant, ConformantVarying}
use Rattle.ndr_value.specs.Forms.{Form, OfNamed, OfStruct, OfUnion, OfArray, OfRef, OfUnique, OfFull, Forms, no_form, then_form, Body, holds}
use Rattle.ndr_value.specs.Fits.{arm_of}
use Rattle.ndr_value.specs.Values.{Val, VStruct, VEmpty, VUnion, VArray, VNull, VPtr, VFull, Vals, no_val, then_val}
use Rattle.ndr_table.specs.declared.operation.Bounds.{Bounds}
use Rattle.ndr_model.specs.declared.departure.Departure.{Departure}
use Rattle.ndr_model.specs.declared.departure.Departure.TheVariants.{Short, Bound, Tag, Pointer, Text, TooDeep, Trailing}
use Rattle.ndr_model.specs.declared.mark.Mark.{Mark}
use Rattle.ndr_model.specs.declared.mark.Mark.TheVariants.{Number, Referent, Ranged}
use Rattle.ndr_model.specs.Part.{opens_with}
use Rattle.ndr_model.specs.Stub.{Entry}
use Rattle.ndr_model.specs.Named.{Call, nth, number, named}
use Rattle.ndr_model.specs.Agree.{Stood, is_plain, stood_last}

-- the index of a departure
abbrev pub place_of : Departure → ℕ
place_of (Short i) = i
place_of (Bound i) = i
place_of (Tag i) = i
place_of (Pointer i) = i
place_of (Text i) = i
place_of (TooDeep i) = i
place_of (Trailing i) = i

-- the one with the lesser index
abbrev pub sooner : Option Departure → Option Departure → Option Departure
sooner None d = d
sooner (Some a) None = Some a
sooner (Some a) (Some b) = if nat_lt (place_of b) (place_of a) then Some b else Some a

-- the first that disagrees so far, and the marks that are left
pub record Check : Type 0 where
  pub off : Option Departure
  pub left : List Mark

-- the value doesn't go with the marks
abbrev pub stray : Check → Check
stray c = record { off = sooner c.off (Some (TooDeep 0)); left = c.left }

abbrev pub judged : Check → Option Departure → List Mark → Check
judged c d ms = record { off = sooner c.off d; left = ms }

abbrev pub equals : Option ℤ → ℤ → Bool
equals None z = false
equals (Some y) z = int_eq y z

abbrev pub count_off : Option ℤ → Stood → Option Departure
count_off want m = if equals want m.1 then None else Some (Bound m.0)

abbrev pub tag_off : Option ℤ → Stood → Option Departure
tag_off want m = if equals want m.1 then None else Some (Tag m.0)

-- a count that has to be so
abbrev pub count_in : Option ℤ → List Mark → Check → Check
count_in want (Number i z ∷ ms) c = judged c (count_off want (i, z)) ms
count_in want _ c = stray c

abbrev pub most_in : Option ℤ → Option Stood → Check → Check
most_in want (Some m) c = judged c (count_off want m) c.left
most_in want None c = count_in want c.left c

abbrev pub compare_counts : Call → Vals → Option Stood → ArrayKind → Check → Check
compare_counts call body moved (Fixed n) c = c
compare_counts call body moved (Varying n d) c = count_in (named call body d) c.left c
compare_counts call body moved (Conformant d) c = most_in (named call body d) moved c
compare_counts call body moved (ConformantVarying d e) c = count_in (named call body e) (most_in (named call body d) moved c).left (most_in (named call body d) moved c)

abbrev pub tied_off : Call → Vals → Option Count → Stood → Option Departure
tied_off call body None m = None
tied_off call body (Some k) m = tag_off (named call body k) m

abbrev pub tag_in : Call → Vals → Option Count → ℤ → List Mark → Check → Check
tag_in call body link tag (Number i z ∷ ms) c = judged c (tied_off call body link (i, tag)) ms
tag_in call body link tag _ c = stray c

abbrev pub compare_tag : Call → Vals → Option Count → ℤ → Check → Check
compare_tag call body link tag c = tag_in call body link tag c.left c

-- the max_count in front of a structure, and the marks behind it
abbrev pub Fronted : Type 0
Fronted = Option Stood × Check

abbrev pub front_in : List Mark → Check → Fronted
front_in (Number i z ∷ ms) c = (Some (i, z), record { off = c.off; left = ms })
front_in _ c = (None, stray c)

abbrev pub fronted : List Form → Forms → Option Stood → Check → Fronted
fronted types ss (Some m) c = (Some m, c)
fronted types ss None c = if opens_with types ss then front_in c.left c else (None, c)

-- how a part is compared: in a body, with what names its tag and a max_count in front of it
abbrev pub Compared : Type 0
Compared = Vals → Option Count → Option Stood → Form → Val → Check → Check

abbrev pub compare_each : Compared → Vals → Option Stood → Forms → Vals → Check → Check
compare_each go body moved no_form no_val c = c
compare_each go body moved (then_form s ss) (then_val v vs) c = compare_each go body moved ss vs (go body None (stood_last ss moved) s v c)
compare_each go body moved _ _ c = stray c

abbrev pub compare_all : Compared → Vals → Form → Vals → Check → Check
compare_all go body s no_val c = c
compare_all go body s (then_val v vs) c = compare_all go body s vs (go body None None s v c)

abbrev pub compare_elements : Compared → Vals → Form → Vals → Check → Check
compare_elements go body s vs c = if is_plain s then c else compare_all go body s vs c

abbrev pub compare_arm : Compared → Option Body → Val → Check → Check
compare_arm go (Some (holds s)) v c = go no_val None None s v c
compare_arm go _ v c = stray c

-- what a pointer points to, where there is a level for it
abbrev pub compare_referent : (ℕ → Compared) → ℕ → Vals → Form → Option Val → Check → Check
compare_referent go (suc room) body s (Some v) c = go room body None None s v c
compare_referent go _ body s _ c = stray c

abbrev pub full_in : (ℕ → Compared) → ℕ → Call → Vals → Form → ℕ → List Mark → Check → Check
full_in go room call body s n (Referent true ∷ ms) c = compare_referent go room body s (nth call.said.heap n) (record { off = c.off; left = ms })
full_in go room call body s n (Referent false ∷ ms) c = record { off = c.off; left = ms }
full_in go room call body s n _ c = stray c

-- ---- shape by shape

abbrev pub compare_struct : List Form → Compared → Option Stood → Forms → Val → Check → Check
compare_struct types go moved ss (VStruct vs) c = compare_each go vs (fronted types ss moved c).0 ss vs (fronted types ss moved c).1
compare_struct types go moved ss _ c = stray c

-- u is the union
abbrev pub compare_union : Compared → Call → Vals → Option Count → Form → Val → Check → Check
compare_union go call body link u (VEmpty tag) c = compare_tag call body link tag c
compare_union go call body link u (VUnion tag v) c = compare_arm go (arm_of u tag) v (compare_tag call body link tag c)
compare_union go call body link u _ c = stray c

abbrev pub compare_array : Compared → Call → Vals → Option Stood → ArrayKind → Form → Val → Check → Check
compare_array go call body moved kind s (VArray vs) c = compare_elements go body s vs (compare_counts call body moved kind c)
compare_array go call body moved kind s _ c = stray c

abbrev pub compare_unique : (ℕ → Compared) → ℕ → Vals → Form → Val → Check → Check
compare_unique go room body s VNull c = c
compare_unique go room body s (VPtr v) c = compare_referent go room body s (Some v) c
compare_unique go room body s _ c = stray c

abbrev pub compare_full : (ℕ → Compared) → ℕ → Call → Vals → Form → Val → Check → Check
compare_full go room call body s (VFull None) c = c
compare_full go room call body s (VFull (Some n)) c = full_in go room call body s n c.left c
compare_full go room call body s _ c = stray c

abbrev pub compare_type : Compared → Vals → Option Count → Option Stood → Option Form → Val → Check → Check
compare_type go body link moved None v c = stray c
compare_type go body link moved (Some s) v c = go body link moved s v c

module _ (types : List Form) (call : Call) where
  -- one step, where go does the parts
  abbrev pub compare_at : (ℕ → Compared) → ℕ → Compared
  compare_at go room body link moved (OfNamed k switch) v c = compare_type (go room) body switch moved (slice_get types k) v c
  compare_at go room body link moved (OfStruct ss) v c = compare_struct types (go room) moved ss v c
  compare_at go room body link moved (OfUnion t arms) v c = compare_union (go room) call body link (OfUnion t arms) v c
  compare_at go room body link moved (OfArray kind s) v c = compare_array (go room) call body moved kind s v c
  compare_at go room body link moved (OfRef s) v c = compare_referent go room body s (Some v) c
  compare_at go room body link moved (OfUnique s) v c = compare_unique go room body s v c
  compare_at go room body link moved (OfFull s) v c = compare_full go room call body s v c
  compare_at go room body link moved _ v c = c

  -- at most n constructs deep
  unfoldable pub compare : ℕ → ℕ → Compared
  compare zero room body link moved s v c = stray c
  compare (suc n) room body link moved s v c = compare_at (compare n) room body link moved s v c

  abbrev pub range_off : Bounds → Option ℤ → ℕ → Option Departure
  range_off b None i = Some (Bound i)
  range_off b (Some z) i = if int_le b.low z && int_le z b.high then None else Some (Bound i)

  abbrev pub range_in : Bounds → Val → List Mark → Check → Check
  range_in b v (Ranged i ∷ ms) c = judged c (range_off b (number v) i) ms
  range_in b v _ c = stray c

  abbrev pub compare_range : Option Bounds → Val → Check → Check
  compare_range None v c = c
  compare_range (Some b) v c = range_in b v c.left c

  -- the parameters, and the result
  abbrev pub compare_entries : ℕ → List Entry → Vals → Check → Check
  compare_entries n [] no_val c = c
  compare_entries n (e ∷ es) (then_val v vs) c = compare_entries n es vs (compare_range e.range v (compare n 256 no_val None None e.shape v c))
  compare_entries n _ _ c = stray c
