-- Where the comparison finds nothing, counts, tags and numbers with ranges agree.
use Rattle.std.proofs.Common.{◌≡◌, ℕ, zero, suc, ℤ, Bool, true, false, List, [], ◌∷◌, Option, Some, None, refl, ap, arith}
use Rattle.std.specs.Prelude.{slice_get, nat_lt, int_le, ◌&&◌, ◌≤ℤ◌, if◌then◌else◌}
use Rattle.std.specs.Ordering.{int_eq}
use Rattle.ndr_value.specs.declared.shape.Count.{Count}
use Rattle.ndr_value.specs.declared.shape.ArrayKind.{ArrayKind}
use Rattle.ndr_value.specs.declared.shape.ArrayKind.TheVariants.{Fixed, Varying, Conformant, ConformantVarying}
use Rattle.ndr_value.specs.Forms.{Form, OfBool, OfByte, OfChar, OfInt, OfUint, OfEnum, OfNamed, OfStruct, OfUnion, OfArray, OfText, OfRef, OfUnique, OfFull, OfHandle, Forms, no_form, then_form, Body, empty, holds, ArmForms}
use Rattle.ndr_value.specs.Fits.{arm_of}
use Rattle.ndr_value.specs.Values.{Val, VStruct, VEmpty, VUnion, VArray, VNull, VPtr, VFull, Vals, no_val, then_val}
use Rattle.ndr_table.specs.declared.operation.Bounds.{Bounds}
use Rattle.ndr_model.specs.declared.departure.Departure.{Departure}
use Rattle.ndr_model.specs.declared.departure.Departure.TheVariants.{Bound, Tag, TooDeep}
use Rattle.ndr_model.specs.declared.mark.Mark.{Mark}
use Rattle.ndr_model.specs.declared.mark.Mark.TheVariants.{Number, Referent, Ranged}
use Rattle.ndr_model.specs.Part.{opens_with}
use Rattle.ndr_model.specs.Stub.{Entry}
use Rattle.ndr_model.specs.Named.{Call, nth, number, named}
use Rattle.ndr_model.specs.Agree.{Stood, is_plain, IsTied, Fronts, fronts_greater, fronts, fronts_none, stood_last, AgreesMost, most_in_front, most_here, AgreesCounts, agrees_fixed, agrees_varying, agrees_conformant, agrees_both, Agrees, plainly, by_name, by_members, by_empty_arm, by_arm, by_array, by_ref, by_null, by_pointer, by_null_full, by_new, by_repeat, AgreesEach, no_member_left, member_then, AgreesAll, all_plainly, no_element_left, element_then, IsWithin, AgreesRange, no_range, in_range, AgreeTogether, no_entry_left, entry_then}
use Rattle.ndr_model.specs.Compare.{place_of, sooner, Check, stray, equals, count_off, tag_off, count_in, most_in, compare_counts, tied_off, tag_in, compare_tag, Fronted, front_in, fronted, Compared, compare_each, compare_all, compare_arm, compare_referent, full_in, compare_struct, compare_union, compare_array, compare_unique, compare_full, compare_type, compare_at, compare, range_off, range_in, compare_range, compare_entries}

which_some : (b : Bool) (x y : Departure) → (if b then Some x else Some y) ≡ None → ⊥
which_some true x y e = absurd cc
which_some false x y e = absurd cc

pub sooner_none : (x y : Option Departure) → sooner x y ≡ None → (x ≡ None) × (y ≡ None)
sooner_none None y e = (refl, e)
sooner_none (Some a) None e = absurd cc
sooner_none (Some a) (Some b) e = absurd (which_some (nat_lt (place_of b) (place_of a)) b a e)

none_or : (b : Bool) (d : Departure) → (if b then None else Some d) ≡ None → b ≡ true
none_or true d e = refl
none_or false d e = absurd cc

int_same : (y z : ℤ) → int_eq y z ≡ true → y ≡ z
int_same y z e = grind (arith)

equals_is : (want : Option ℤ) (z : ℤ) → equals want z ≡ true → want ≡ Some z
equals_is None z e = absurd cc
equals_is (Some y) z e = ap Some (int_same y z e)

count_is : (want : Option ℤ) (m : Stood) → count_off want m ≡ None → want ≡ Some m.1
count_is want m e = equals_is want m.1 (none_or (equals want m.1) (Bound m.0) e)

tag_is : (want : Option ℤ) (m : Stood) → tag_off want m ≡ None → want ≡ Some m.1
tag_is want m e = equals_is want m.1 (none_or (equals want m.1) (Tag m.0) e)

stray_not : (c : Check) → (stray c).off ≡ None → ⊥
stray_not c e = let g = sooner_none c.off (Some (TooDeep 0)) e in absurd (let f : Some (TooDeep 0) ≡ None = g.1 in cc)

count_on : (want : Option ℤ) (ms : List Mark) (c : Check) → (count_in want ms c).off ≡ None → c.off ≡ None
count_on want [] c e = absurd (stray_not c e)
count_on want (Number i z ∷ ms) c e = (sooner_none c.off (count_off want (i, z)) e).0
count_on want (Referent b ∷ ms) c e = absurd (stray_not c e)
count_on want (Ranged i ∷ ms) c e = absurd (stray_not c e)

module _ (types : List Form) (call : Call) where
  module _ (body : Vals) where
    most_here_ok : (d : Count) (ms : List Mark) (c : Check) → (count_in (named call body d) ms c).off ≡ None → AgreesMost call body d None ms (count_in (named call body d) ms c).left
    most_here_ok d [] c e = absurd (stray_not c e)
    most_here_ok d (Number i z ∷ ms) c e = most_here (count_is (named call body d) (i, z) (sooner_none c.off (count_off (named call body d) (i, z)) e).1)
    most_here_ok d (Referent b ∷ ms) c e = absurd (stray_not c e)
    most_here_ok d (Ranged i ∷ ms) c e = absurd (stray_not c e)

    most_ok : (d : Count) (moved : Option Stood) (c : Check) → (most_in (named call body d) moved c).off ≡ None → (c.off ≡ None) × AgreesMost call body d moved c.left (most_in (named call body d) moved c).left
    most_ok d (Some m) c e = let g = sooner_none c.off (count_off (named call body d) m) e in (g.0, most_in_front (count_is (named call body d) m g.1))
    most_ok d None c e = (count_on (named call body d) c.left c e, most_here_ok d c.left c e)

    varying_ok : (moved : Option Stood) (n : ℕ) (d : Count) (ms : List Mark) (c : Check) → (count_in (named call body d) ms c).off ≡ None → AgreesCounts call body moved (Varying n d) ms (count_in (named call body d) ms c).left
    varying_ok moved n d [] c e = absurd (stray_not c e)
    varying_ok moved n d (Number i z ∷ ms) c e = agrees_varying (count_is (named call body d) (i, z) (sooner_none c.off (count_off (named call body d) (i, z)) e).1)
    varying_ok moved n d (Referent b ∷ ms) c e = absurd (stray_not c e)
    varying_ok moved n d (Ranged i ∷ ms) c e = absurd (stray_not c e)

    both_ok : (moved : Option Stood) (d f : Count) (ms0 ms : List Mark) (c : Check) → AgreesMost call body d moved ms0 ms → (count_in (named call body f) ms c).off ≡ None
        → AgreesCounts call body moved (ConformantVarying d f) ms0 (count_in (named call body f) ms c).left
    both_ok moved d f ms0 [] c most e = absurd (stray_not c e)
    both_ok moved d f ms0 (Number i z ∷ ms) c most e = agrees_both most (count_is (named call body f) (i, z) (sooner_none c.off (count_off (named call body f) (i, z)) e).1)
    both_ok moved d f ms0 (Referent b ∷ ms) c most e = absurd (stray_not c e)
    both_ok moved d f ms0 (Ranged i ∷ ms) c most e = absurd (stray_not c e)

    counts_ok : (moved : Option Stood) (kind : ArrayKind) (c : Check) → (compare_counts call body moved kind c).off ≡ None → (c.off ≡ None) × AgreesCounts call body moved kind c.left (compare_counts call body moved kind c).left
    counts_ok moved (Fixed n) c e = (e, agrees_fixed)
    counts_ok moved (Varying n d) c e = (count_on (named call body d) c.left c e, varying_ok moved n d c.left c e)
    counts_ok moved (Conformant d) c e = let g = most_ok d moved c e in (g.0, agrees_conformant g.1)
    counts_ok moved (ConformantVarying d f) c e =
        let c1 = most_in (named call body d) moved c in
        let g = most_ok d moved c (count_on (named call body f) c1.left c1 e) in
        (g.0, both_ok moved d f c.left c1.left c1 g.1 e)

    tied_ok : (link : Option Count) (m : Stood) → tied_off call body link m ≡ None → IsTied call body link m.1
    tied_ok None m e = tt
    tied_ok (Some k) m e = tag_is (named call body k) m e

    tag_on : (link : Option Count) (tag : ℤ) (ms : List Mark) (c : Check) → (tag_in call body link tag ms c).off ≡ None → c.off ≡ None
    tag_on link tag [] c e = absurd (stray_not c e)
    tag_on link tag (Number i z ∷ ms) c e = (sooner_none c.off (tied_off call body link (i, tag)) e).0
    tag_on link tag (Referent b ∷ ms) c e = absurd (stray_not c e)
    tag_on link tag (Ranged i ∷ ms) c e = absurd (stray_not c e)

    empty_ok : (room : ℕ) (link : Option Count) (moved : Option Stood) (t : Form) (arms : ArmForms) (tag : ℤ) (ms : List Mark) (c : Check) → (tag_in call body link tag ms c).off ≡ None
        → Agrees types call room body link moved (OfUnion t arms) (VEmpty tag) ms (tag_in call body link tag ms c).left
    empty_ok room link moved t arms tag [] c e = absurd (stray_not c e)
    empty_ok room link moved t arms tag (Number i z ∷ ms) c e = by_empty_arm (tied_ok link (i, tag) (sooner_none c.off (tied_off call body link (i, tag)) e).1)
    empty_ok room link moved t arms tag (Referent b ∷ ms) c e = absurd (stray_not c e)
    empty_ok room link moved t arms tag (Ranged i ∷ ms) c e = absurd (stray_not c e)

    held_ok : (room : ℕ) (link : Option Count) (moved : Option Stood) (t s : Form) (arms : ArmForms) (tag : ℤ) (v : Val) (ms ms' : List Mark) (c : Check) → arm_of (OfUnion t arms) tag ≡ Some (holds s)
        → (tag_in call body link tag ms c).off ≡ None → Agrees types call room no_val None None s v (tag_in call body link tag ms c).left ms' → Agrees types call room body link moved (OfUnion t arms) (VUnion tag v) ms ms'
    held_ok room link moved t s arms tag v [] ms' c is e p = absurd (stray_not c e)
    held_ok room link moved t s arms tag v (Number i z ∷ ms) ms' c is e p = by_arm (tied_ok link (i, tag) (sooner_none c.off (tied_off call body link (i, tag)) e).1) is p
    held_ok room link moved t s arms tag v (Referent b ∷ ms) ms' c is e p = absurd (stray_not c e)
    held_ok room link moved t s arms tag v (Ranged i ∷ ms) ms' c is e p = absurd (stray_not c e)

  front_ok : (ss : Forms) (ms : List Mark) (c : Check) → opens_with types ss ≡ true → (front_in ms c).1.off ≡ None → (c.off ≡ None) × Fronts types ss None (front_in ms c).0 ms (front_in ms c).1.left
  front_ok ss [] c is e = absurd (stray_not c e)
  front_ok ss (Number i z ∷ ms) c is e = (e, fronts is)
  front_ok ss (Referent b ∷ ms) c is e = absurd (stray_not c e)
  front_ok ss (Ranged i ∷ ms) c is e = absurd (stray_not c e)

  abbrev by_open : Bool → Check → Fronted
  by_open b c = if b then front_in c.left c else (None, c)

  open_ok : (ss : Forms) (b : Bool) (c : Check) → opens_with types ss ≡ b → (by_open b c).1.off ≡ None → (c.off ≡ None) × Fronts types ss None (by_open b c).0 c.left (by_open b c).1.left
  open_ok ss true c is e = front_ok ss c.left c is e
  open_ok ss false c is e = (e, fronts_none is)

  fronted_ok : (ss : Forms) (moved : Option Stood) (c : Check) → (fronted types ss moved c).1.off ≡ None → (c.off ≡ None) × Fronts types ss moved (fronted types ss moved c).0 c.left (fronted types ss moved c).1.left
  fronted_ok ss (Some m) c e = (e, fronts_greater)
  fronted_ok ss None c e = open_ok ss (opens_with types ss) c refl e

  module _ (go : ℕ → Compared) where
    abbrev Passes : ℕ → Vals → Option Count → Option Stood → Form → Val → Check → Check → Type 0
    Passes room body link moved s v c c' = (c.off ≡ None) × Agrees types call room body link moved s v c.left c'.left

    abbrev AllPass : Type 0
    AllPass = (room : ℕ) (body : Vals) (link : Option Count) (moved : Option Stood) (s : Form) (v : Val) (c : Check) → (go room body link moved s v c).off ≡ None → Passes room body link moved s v c (go room body link moved s v c)

    each_ok : AllPass → (room : ℕ) (body : Vals) (moved : Option Stood) (ss : Forms) (vs : Vals) (c : Check) → (compare_each (go room) body moved ss vs c).off ≡ None
        → (c.off ≡ None) × AgreesEach types call room body moved ss vs c.left (compare_each (go room) body moved ss vs c).left
    each_ok so room body moved no_form no_val c e = (e, no_member_left)
    each_ok so room body moved no_form (then_val v vs) c e = absurd (stray_not c e)
    each_ok so room body moved (then_form s ss) no_val c e = absurd (stray_not c e)
    each_ok so room body moved (then_form s ss) (then_val v vs) c e =
        let a = each_ok so room body moved ss vs (go room body None (stood_last ss moved) s v c) e in
        let b = so room body None (stood_last ss moved) s v c a.0 in
        (b.0, member_then b.1 a.1)

    all_ok : AllPass → (room : ℕ) (body : Vals) (s : Form) (vs : Vals) (c : Check) → is_plain s ≡ false → (compare_all (go room) body s vs c).off ≡ None → (c.off ≡ None) × AgreesAll types call room body s vs c.left (compare_all (go room) body s vs c).left
    all_ok so room body s no_val c is e = (e, no_element_left)
    all_ok so room body s (then_val v vs) c is e =
        let a = all_ok so room body s vs (go room body None None s v c) is e in
        let b = so room body None None s v c a.0 in
        (b.0, element_then is b.1 a.1)

    abbrev by_plain : Bool → ℕ → Vals → Form → Vals → Check → Check
    by_plain b room body s vs c = if b then c else compare_all (go room) body s vs c

    elements_ok : AllPass → (b : Bool) (room : ℕ) (body : Vals) (s : Form) (vs : Vals) (c : Check) → is_plain s ≡ b → (by_plain b room body s vs c).off ≡ None → (c.off ≡ None) × AgreesAll types call room body s vs c.left (by_plain b room body s vs c).left
    elements_ok so true room body s vs c is e = (e, all_plainly is)
    elements_ok so false room body s vs c is e = all_ok so room body s vs c is e

    struct_ok : AllPass → (room : ℕ) (body : Vals) (link : Option Count) (moved : Option Stood) (ss : Forms) (v : Val) (c : Check) → (compare_struct types (go room) moved ss v c).off ≡ None
        → Passes room body link moved (OfStruct ss) v c (compare_struct types (go room) moved ss v c)
    struct_ok so room body link moved ss (VStruct vs) c e =
        let f = fronted types ss moved c in
        let a = each_ok so room vs f.0 ss vs f.1 e in
        let b = fronted_ok ss moved c a.0 in
        (b.0, by_members b.1 a.1)
    struct_ok so room body link moved ss _ c e = absurd (stray_not c e)

    arm_ok : AllPass → (room : ℕ) (body : Vals) (link : Option Count) (moved : Option Stood) (t : Form) (arms : ArmForms) (tag : ℤ) (v : Val) (o : Option Body) (c : Check) → arm_of (OfUnion t arms) tag ≡ o
        → (compare_arm (go room) o v (compare_tag call body link tag c)).off ≡ None → Passes room body link moved (OfUnion t arms) (VUnion tag v) c (compare_arm (go room) o v (compare_tag call body link tag c))
    arm_ok so room body link moved t arms tag v None c is e = absurd (stray_not (compare_tag call body link tag c) e)
    arm_ok so room body link moved t arms tag v (Some empty) c is e = absurd (stray_not (compare_tag call body link tag c) e)
    arm_ok so room body link moved t arms tag v (Some (holds s)) c is e =
        let c1 = compare_tag call body link tag c in
        let a = so room no_val None None s v c1 e in
        (tag_on body link tag c.left c a.0, held_ok body room link moved t s arms tag v c.left (go room no_val None None s v c1).left c is a.0 a.1)

    union_ok : AllPass → (room : ℕ) (body : Vals) (link : Option Count) (moved : Option Stood) (t : Form) (arms : ArmForms) (v : Val) (c : Check) → (compare_union (go room) call body link (OfUnion t arms) v c).off ≡ None
        → Passes room body link moved (OfUnion t arms) v c (compare_union (go room) call body link (OfUnion t arms) v c)
    union_ok so room body link moved t arms (VEmpty tag) c e = (tag_on body link tag c.left c e, empty_ok body room link moved t arms tag c.left c e)
    union_ok so room body link moved t arms (VUnion tag v) c e = arm_ok so room body link moved t arms tag v (arm_of (OfUnion t arms) tag) c refl e
    union_ok so room body link moved t arms _ c e = absurd (stray_not c e)

    array_ok : AllPass → (room : ℕ) (body : Vals) (link : Option Count) (moved : Option Stood) (kind : ArrayKind) (s : Form) (v : Val) (c : Check) → (compare_array (go room) call body moved kind s v c).off ≡ None
        → Passes room body link moved (OfArray kind s) v c (compare_array (go room) call body moved kind s v c)
    array_ok so room body link moved kind s (VArray vs) c e =
        let a = elements_ok so (is_plain s) room body s vs (compare_counts call body moved kind c) refl e in
        let b = counts_ok body moved kind c a.0 in
        (b.0, by_array b.1 a.1)
    array_ok so room body link moved kind s _ c e = absurd (stray_not c e)

    ref_ok : AllPass → (room : ℕ) (body : Vals) (link : Option Count) (moved : Option Stood) (s : Form) (v : Val) (c : Check) → (compare_referent go room body s (Some v) c).off ≡ None
        → Passes room body link moved (OfRef s) v c (compare_referent go room body s (Some v) c)
    ref_ok so zero body link moved s v c e = absurd (stray_not c e)
    ref_ok so (suc room) body link moved s v c e = let a = so room body None None s v c e in (a.0, by_ref a.1)

    pointer_ok : AllPass → (room : ℕ) (body : Vals) (link : Option Count) (moved : Option Stood) (s : Form) (v : Val) (c : Check) → (compare_referent go room body s (Some v) c).off ≡ None
        → Passes room body link moved (OfUnique s) (VPtr v) c (compare_referent go room body s (Some v) c)
    pointer_ok so zero body link moved s v c e = absurd (stray_not c e)
    pointer_ok so (suc room) body link moved s v c e = let a = so room body None None s v c e in (a.0, by_pointer a.1)

    unique_ok : AllPass → (room : ℕ) (body : Vals) (link : Option Count) (moved : Option Stood) (s : Form) (v : Val) (c : Check) → (compare_unique go room body s v c).off ≡ None
        → Passes room body link moved (OfUnique s) v c (compare_unique go room body s v c)
    unique_ok so room body link moved s VNull c e = (e, by_null)
    unique_ok so room body link moved s (VPtr v) c e = pointer_ok so room body link moved s v c e
    unique_ok so room body link moved s _ c e = absurd (stray_not c e)

    abbrev without : Check → List Mark → Check
    without c ms = record { off = c.off; left = ms }

    new_ok : AllPass → (room : ℕ) (body : Vals) (link : Option Count) (moved : Option Stood) (s : Form) (n : ℕ) (ms : List Mark) (o : Option Val) (c : Check) → nth call.said.heap n ≡ o
        → (compare_referent go room body s o (without c ms)).off ≡ None → (c.off ≡ None) × Agrees types call room body link moved (OfFull s) (VFull (Some n)) (Referent true ∷ ms) (compare_referent go room body s o (without c ms)).left
    new_ok so room body link moved s n ms None c is e = absurd (no_item room (without c ms) e)
      where
        no_item : (room : ℕ) (c : Check) → (compare_referent go room body s None c).off ≡ None → ⊥
        no_item zero c e = stray_not c e
        no_item (suc room) c e = stray_not c e
    new_ok so zero body link moved s n ms (Some v) c is e = absurd (stray_not (without c ms) e)
    new_ok so (suc room) body link moved s n ms (Some v) c is e = let a = so room body None None s v (without c ms) e in (a.0, by_new is a.1)

    item_ok : AllPass → (room : ℕ) (body : Vals) (link : Option Count) (moved : Option Stood) (s : Form) (n : ℕ) (ms : List Mark) (c : Check) → (full_in go room call body s n ms c).off ≡ None
        → (c.off ≡ None) × Agrees types call room body link moved (OfFull s) (VFull (Some n)) ms (full_in go room call body s n ms c).left
    item_ok so room body link moved s n [] c e = absurd (stray_not c e)
    item_ok so room body link moved s n (Number i z ∷ ms) c e = absurd (stray_not c e)
    item_ok so room body link moved s n (Referent true ∷ ms) c e = new_ok so room body link moved s n ms (nth call.said.heap n) c refl e
    item_ok so room body link moved s n (Referent false ∷ ms) c e = (e, by_repeat)
    item_ok so room body link moved s n (Ranged i ∷ ms) c e = absurd (stray_not c e)

    full_ok : AllPass → (room : ℕ) (body : Vals) (link : Option Count) (moved : Option Stood) (s : Form) (v : Val) (c : Check) → (compare_full go room call body s v c).off ≡ None
        → Passes room body link moved (OfFull s) v c (compare_full go room call body s v c)
    full_ok so room body link moved s (VFull None) c e = (e, by_null_full)
    full_ok so room body link moved s (VFull (Some n)) c e = item_ok so room body link moved s n c.left c e
    full_ok so room body link moved s _ c e = absurd (stray_not c e)

    type_ok : AllPass → (room k : ℕ) (body : Vals) (link switch : Option Count) (moved : Option Stood) (o : Option Form) (v : Val) (c : Check) → slice_get types k ≡ o → (compare_type (go room) body switch moved o v c).off ≡ None
        → Passes room body link moved (OfNamed k switch) v c (compare_type (go room) body switch moved o v c)
    type_ok so room k body link switch moved None v c is e = absurd (stray_not c e)
    type_ok so room k body link switch moved (Some s) v c is e = let a = so room body switch moved s v c e in (a.0, by_name is a.1)

    one_ok : AllPass → (room : ℕ) (body : Vals) (link : Option Count) (moved : Option Stood) (s : Form) (v : Val) (c : Check) → (compare_at types call go room body link moved s v c).off ≡ None
        → Passes room body link moved s v c (compare_at types call go room body link moved s v c)
    one_ok so room body link moved OfBool v c e = (e, plainly refl)
    one_ok so room body link moved OfByte v c e = (e, plainly refl)
    one_ok so room body link moved OfChar v c e = (e, plainly refl)
    one_ok so room body link moved (OfInt size) v c e = (e, plainly refl)
    one_ok so room body link moved (OfUint size) v c e = (e, plainly refl)
    one_ok so room body link moved (OfEnum count) v c e = (e, plainly refl)
    one_ok so room body link moved (OfNamed k switch) v c e = type_ok so room k body link switch moved (slice_get types k) v c refl e
    one_ok so room body link moved (OfStruct ss) v c e = struct_ok so room body link moved ss v c e
    one_ok so room body link moved (OfUnion t arms) v c e = union_ok so room body link moved t arms v c e
    one_ok so room body link moved (OfArray kind s) v c e = array_ok so room body link moved kind s v c e
    one_ok so room body link moved (OfText size) v c e = (e, plainly refl)
    one_ok so room body link moved (OfRef s) v c e = ref_ok so room body link moved s v c e
    one_ok so room body link moved (OfUnique s) v c e = unique_ok so room body link moved s v c e
    one_ok so room body link moved (OfFull s) v c e = full_ok so room body link moved s v c e
    one_ok so room body link moved (OfHandle kind) v c e = (e, plainly refl)

  compare_ok : (n room : ℕ) (body : Vals) (link : Option Count) (moved : Option Stood) (s : Form) (v : Val) (c : Check) → (compare types call n room body link moved s v c).off ≡ None
      → (c.off ≡ None) × Agrees types call room body link moved s v c.left (compare types call n room body link moved s v c).left
  unfolding compare
  compare_ok zero room body link moved s v c e = absurd (stray_not c e)
  compare_ok (suc n) room body link moved s v c e = one_ok (compare types call n) (compare_ok n) room body link moved s v c e

  both_true : (a b : Bool) → (a && b) ≡ true → (a ≡ true) × (b ≡ true)
  both_true true b e = (refl, e)
  both_true false b e = absurd cc

  at_most : (a b : ℤ) → int_le a b ≡ true → a ≤ℤ b
  at_most a b e = grind (arith)

  within_ok : (b : Bounds) (v : Val) (o : Option ℤ) (i : ℕ) → number v ≡ o → range_off types call b o i ≡ None → IsWithin b v
  within_ok b v None i is e = absurd cc
  within_ok b v (Some z) i is e =
      let g = both_true (int_le b.low z) (int_le z b.high) (none_or (int_le b.low z && int_le z b.high) (Bound i) e) in
      record { z = z; is = is; low = at_most b.low z g.0; high = at_most z b.high g.1 }

  ranged_ok : (b : Bounds) (v : Val) (ms : List Mark) (c : Check) → (range_in types call b v ms c).off ≡ None → (c.off ≡ None) × AgreesRange (Some b) v ms (range_in types call b v ms c).left
  ranged_ok b v [] c e = absurd (stray_not c e)
  ranged_ok b v (Number i z ∷ ms) c e = absurd (stray_not c e)
  ranged_ok b v (Referent r ∷ ms) c e = absurd (stray_not c e)
  ranged_ok b v (Ranged i ∷ ms) c e = let g = sooner_none c.off (range_off types call b (number v) i) e in (g.0, in_range (within_ok b v (number v) i refl g.1))

  range_ok : (o : Option Bounds) (v : Val) (c : Check) → (compare_range types call o v c).off ≡ None → (c.off ≡ None) × AgreesRange o v c.left (compare_range types call o v c).left
  range_ok None v c e = (e, no_range)
  range_ok (Some b) v c e = ranged_ok b v c.left c e

  -- where nothing is found, all agrees
  pub entries_ok : (n : ℕ) (es : List Entry) (vs : Vals) (c : Check) → (compare_entries types call n es vs c).off ≡ None → (c.off ≡ None) × AgreeTogether types call es vs c.left (compare_entries types call n es vs c).left
  entries_ok n [] no_val c e = (e, no_entry_left)
  entries_ok n [] (then_val v vs) c e = absurd (stray_not c e)
  entries_ok n (x ∷ es) no_val c e = absurd (stray_not c e)
  entries_ok n (x ∷ es) (then_val v vs) c e =
      let c1 = compare types call n 256 no_val None None x.shape v c in
      let c2 = compare_range types call x.range v c1 in
      let a = entries_ok n es vs c2 e in
      let b = range_ok x.range v c1 a.0 in
      let d = compare_ok n 256 no_val None None x.shape v c b.0 in
      (d.0, entry_then d.1 b.1 a.1)
