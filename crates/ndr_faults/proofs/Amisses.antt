-- A reading that fails comes to a part that departs so.
use Rattle.std.proofs.Common.{◌≡◌, ℕ, zero, suc, ◌+◌, ◌-◌, ◌*◌, ◌<◌, ◌≤◌, ℤ, Bool, true, false, List, [], ◌∷◌, ◌++◌, length, Option, Some, None, Result, Ok, Err, refl, sym, ap, subst, ◌∙◌, arith, suc-mul}
use Rattle.std.specs.Prelude.{slice_get, nat_lt, not, ◌==◌}
use Rattle.std.proofs.lemmas.Bool.{ltb-true}
use Rattle.rpc_base.specs.declared.identifiers.Order.{Order}
use Rattle.ndr_value.specs.Forms.{Form, OfBool, OfByte, OfChar, OfInt, OfUint, OfEnum, OfNamed, OfStruct, OfUnion, OfArray, OfText, OfRef, OfUnique, OfFull, OfHandle, Forms, no_form, then_form, Body, empty, holds, ArmForms}
use Rattle.ndr_value.specs.Fits.{arm_of}
use Rattle.ndr_value.specs.Values.{Val, VBool, VByte, VChar, VInt, VUint, VEnum, VStruct, VUnion, VArray, VText, VPtr, VFull, VHandle, Vals, no_val, then_val}
use Rattle.ndr_table.specs.Tables.{OpForm}
use Rattle.ndr_scalars.specs.Scalars.{up, signed, Scalar}
use Rattle.ndr_arrays.specs.Bind.{◌>>=◌}
use Rattle.ndr_arrays.proofs.Steps.{bind_ok, through, when_ok, ok_is}
use Rattle.ndr_model.specs.declared.departure.Departure.{Departure}
use Rattle.ndr_model.specs.declared.departure.Departure.TheVariants.{Tag, Pointer, TooDeep, Trailing}
use Rattle.ndr_model.specs.declared.way.Way.{Way}
use Rattle.ndr_model.specs.declared.mark.Mark.TheVariants.{Referent}
use Rattle.ndr_model.specs.Places.{Place, past, Last, onto, noting, keeping, look}
use Rattle.ndr_model.specs.Same.{IsSame, same}
use Rattle.ndr_model.specs.Part.{IsTag, for_last, in_place, tag_size, opened_marks, count_marks, tag_marks}
use Rattle.ndr_model.specs.Stub.{Entry, entries, range_marks, start}
use Rattle.ndr_model.specs.Reading.{number, name_at, wire_at, chars_at, array_at, tag_at, struct_at}
use Rattle.ndr_model.specs.Scan.{level, unique_by, full_scan, full_by, of_type, arm_scan, each, times, scan}
use Rattle.ndr_model.specs.Build.{PartEnds, Cursor, cursor, Found, ends, referent, behind_ref, behind_unique, behind_known, behind_met, behind_full, built_each, built_times, in_struct, in_array, built_arm, build, whole, follows, no_more, read_values}
use Rattle.ndr_model.specs.Message.{enough}
use Rattle.ndr_model.proofs.Alike.{same_of}
use Rattle.ndr_model.proofs.Mets.{Mets, Ext, ext_self, ext_then, eq_self, less_not, found_on, found_last, found_less}
use Rattle.ndr_model.proofs.Pieces.{number_is, tag_is, array_is, begins}
use Rattle.ndr_model.proofs.Sound.{build_stands, whole_stands}
use Rattle.ndr_laws.proofs.Grounded.{EachForm, HasForm, Shallow, Targets, EachTarget, Grounded, EachEntry, each_arm, arm_has}
use Rattle.ndr_laws.proofs.Levels.{plus, plus_is, tight, tight_is, types_grounded, op_entries}
use Rattle.ndr_faults.specs.First.{IsOpOf, reads}
use Rattle.ndr_faults.specs.Flat.{with_id}
use Rattle.ndr_faults.specs.Causes.{number_size, Off, number_cut, handle_cut, structure_off, array_off, text_off, tag_off, no_arm, another_shape, no_name, no_level_ref, no_level_unique, no_level_full}
use Rattle.ndr_faults.specs.Amiss.{Amiss, itself, of_name, of_structure, of_arm, of_array, AmongMembers, this_member, later_member, AmongElements, this_element, later_element, WholeAmiss, in_flat_part, in_referents, Behind, behind_name, behind_structure, behind_arm, behind_array, behind_ref as ref_behind, behind_unique as unique_behind, behind_full as full_behind, BehindMembers, behind_this_member, behind_later_member, BehindElements, behind_this_element, behind_later_element, OneAmiss, this_entry, later_entry, more_behind}
use Rattle.ndr_faults.proofs.Clear.{Clear, EachClear, AllClear, EntriesClear, arm_clear, types_clear, op_clear}
use Rattle.ndr_faults.proofs.Causes.{Stops, first_stops, next_stops, err_is, stops, never, mapped_stops, if_stops, else_stops, number_off, array_fails, chars_fail, NameOff, name_cut, above, name_fails, wire_fails, tag_fails, structure_fails}
use Rattle.ndr_faults.proofs.Flats.{at_a_level, members_flat, elements_flat, scan_flat, members_grow, elements_grow}

-- what goes on with what was read
after : {A B : Type 0} {z : Result B Departure} (r : Result A Departure) (f : A → Result B Departure) (x : A) → r ≡ Ok x → (r >>= f) ≡ z → f x ≡ z
after r f x e g = sym (through r f x e) ∙ g

-- what is read for one thing is read for another
both_ways : {A B C : Type 0} (r : Result A Departure) (f : A → B) (g : A → C) (y : B) (d : Departure) → (r >>= λ x. Ok (f x)) ≡ Ok y → (r >>= λ x. Ok (g x)) ≡ Err d → ⊥
both_ways (Ok x) f g y d e h = never (g x) d h
both_ways (Err c) f g y d e h = absurd cc

level_fails : (room i : ℕ) (x : Place) (d : Departure) → level room i (Ok x) ≡ Err d → (room ≡ 0) × (TooDeep i ≡ d)
level_fails zero i x d e = (refl, err_is Place (TooDeep i) d e)
level_fails (suc room) i x d e = absurd (never x d e)

module _ (types : List Form) (order : Order) (octets : List ℕ) where
  module _ (deep : ℕ) (grounded : Grounded types deep) (clear : AllClear types) where
    abbrev Scans : ℕ → ℕ → Form → Type 0
    Scans n room s = (moved : Option ℕ) (p : Place) (d : Departure) → scan types order octets n room moved s p ≡ Err d → Amiss types order octets room moved s p d

    abbrev Builds : ℕ → ℕ → Form → Type 0
    Builds n room s = (moved : Option ℕ) (p : Place) (q : Last) (h : Place) (d : Departure) → scan types order octets n room moved s p ≡ Ok h → Ext h.met q.here.met
        → build types order octets n room moved s (cursor p) q ≡ Err d → Behind types order octets room moved s p q d

    abbrev Both : ℕ → ℕ → Form → Type 0
    Both n room s = Scans n room s × Builds n room s

    abbrev AllBoth : ℕ → Type 0
    AllBoth n = (room d : ℕ) (s : Form) → Shallow types d s → Targets types deep s → Clear types s → room * (deep + 1) + d ≤ n → Both n room s

    -- ---- rows

    each_scans : (n room d : ℕ) → AllBoth n → room * (deep + 1) + d ≤ n → (ss : Forms) → EachForm (Shallow types d) ss → EachTarget types deep ss → EachClear types ss
        → (own : Option ℕ) (p : Place) (x : Departure) → each (scan types order octets n room) own ss p ≡ Err x → AmongMembers types order octets room own ss p x
    each_scans n room d so le no_form sh tg cl own p x e = absurd (never p x e)
    each_scans n room d so le (then_form s ss) sh tg cl own p x e =
        by (stops (scan types order octets n room (for_last ss own) s p) (λ h. each (scan types order octets n room) own ss h) x e)
        ((so room d s sh.0 tg.0 cl.0 le).0 (for_last ss own) p x) (λ h. each_scans n room d so le ss sh.1 tg.1 cl.1 own h x)
      where
        by : Stops (scan types order octets n room (for_last ss own) s p) (λ h. each (scan types order octets n room) own ss h) x
            → (scan types order octets n room (for_last ss own) s p ≡ Err x → Amiss types order octets room (for_last ss own) s p x)
            → ((h : Place) → each (scan types order octets n room) own ss h ≡ Err x → AmongMembers types order octets room own ss h x) → AmongMembers types order octets room own (then_form s ss) p x
        by (first_stops f) one more = this_member (one f)
        by (next_stops h f g) one more = later_member (scan_flat types order octets n room (for_last ss own) s p h f) (more h g)

    times_scans : (n room : ℕ) (s : Form) → Scans n room s → (c : ℕ) (p : Place) (x : Departure) → times (scan types order octets n room None s) c p ≡ Err x → AmongElements types order octets room c s p x
    times_scans n room s so zero p x e = absurd (never p x e)
    times_scans n room s so (suc c) p x e = by (stops (scan types order octets n room None s p) (λ h. times (scan types order octets n room None s) c h) x e) (λ h. times_scans n room s so c h x)
      where
        by : Stops (scan types order octets n room None s p) (λ h. times (scan types order octets n room None s) c h) x
            → ((h : Place) → times (scan types order octets n room None s) c h ≡ Err x → AmongElements types order octets room c s h x) → AmongElements types order octets room (suc c) s p x
        by (first_stops f) more = this_element (so None p x f)
        by (next_stops h f g) more = later_element (scan_flat types order octets n room None s p h f) (more h g)

    each_builds : (n room d : ℕ) → AllBoth n → room * (deep + 1) + d ≤ n → (ss : Forms) → EachForm (Shallow types d) ss → EachTarget types deep ss → EachClear types ss
        → (own : Option ℕ) (p : Place) (q : Last) (h : Place) (x : Departure) → each (scan types order octets n room) own ss p ≡ Ok h → Ext h.met q.here.met
        → built_each (build types order octets n room) own ss (cursor p) q ≡ Err x → BehindMembers types order octets room own ss p q x
    each_builds n room d so le no_form sh tg cl own p q h x f ext e = absurd cc
    each_builds n room d so le (then_form s ss) sh tg cl own p q h x f ext e =
        let a = bind_ok (scan types order octets n room (for_last ss own) s p) (λ y. each (scan types order octets n room) own ss y) h f in
        let rest = members_grow types order octets (members_flat types order octets n room (scan_flat types order octets n) own ss a.0 h a.2) in
        by a.0 a.1 (ext_then a.0.met h.met q.here.met rest ext)
        (stops (build types order octets n room (for_last ss own) s (cursor p) q) (λ y. built_each (build types order octets n room) own ss y.1.flat y.1.all >>= λ z. Ok (then_val y.0 z.0, z.1)) x e)
        ((so room d s sh.0 tg.0 cl.0 le).1 (for_last ss own) p q a.0 x a.1) (λ g grown. each_builds n room d so le ss sh.1 tg.1 cl.1 own a.0 g h x a.2 (ext_then h.met q.here.met g.here.met ext grown))
      where
        by : (m : Place) → scan types order octets n room (for_last ss own) s p ≡ Ok m → Ext m.met q.here.met
            → Stops {B = Vals × PartEnds} (build types order octets n room (for_last ss own) s (cursor p) q) (λ y. built_each (build types order octets n room) own ss y.1.flat y.1.all >>= λ z. Ok (then_val y.0 z.0, z.1)) x
            → (Ext m.met q.here.met → build types order octets n room (for_last ss own) s (cursor p) q ≡ Err x → Behind types order octets room (for_last ss own) s p q x)
            → ((g : Last) → Ext q.here.met g.here.met → built_each (build types order octets n room) own ss (cursor m) g ≡ Err x → BehindMembers types order octets room own ss m g x)
            → BehindMembers types order octets room own (then_form s ss) p q x
        by m f0 own_ext (first_stops g) one more = behind_this_member (one own_ext g)
        by m f0 own_ext (next_stops y g k) one more =
            let b = build_stands types order octets n room (for_last ss own) s p q m y g f0 own_ext in
            let l = mapped_stops (built_each (build types order octets n room) own ss y.1.flat y.1.all) (λ z. (then_val y.0 z.0, z.1)) x k in
            behind_later_member b.0 (more y.1.all b.2 (subst (λ (c : Cursor). built_each (build types order octets n room) own ss c y.1.all ≡ Err x) b.1 l))

    times_builds : (n room : ℕ) (s : Form) → Builds n room s → (c : ℕ) (p : Place) (q : Last) (h : Place) (x : Departure) → times (scan types order octets n room None s) c p ≡ Ok h → Ext h.met q.here.met
        → built_times (build types order octets n room None s) c (cursor p) q ≡ Err x → BehindElements types order octets room c s p q x
    times_builds n room s so zero p q h x f ext e = absurd cc
    times_builds n room s so (suc c) p q h x f ext e =
        let a = bind_ok (scan types order octets n room None s p) (λ y. times (scan types order octets n room None s) c y) h f in
        let rest = elements_grow types order octets (elements_flat types order octets n room (scan_flat types order octets n) s c a.0 h a.2) in
        by a.0 a.1 (ext_then a.0.met h.met q.here.met rest ext)
        (stops (build types order octets n room None s (cursor p) q) (λ y. built_times (build types order octets n room None s) c y.1.flat y.1.all >>= λ z. Ok (then_val y.0 z.0, z.1)) x e)
        (λ g grown. times_builds n room s so c a.0 g h x a.2 (ext_then h.met q.here.met g.here.met ext grown))
      where
        by : (m : Place) → scan types order octets n room None s p ≡ Ok m → Ext m.met q.here.met
            → Stops {B = Vals × PartEnds} (build types order octets n room None s (cursor p) q) (λ y. built_times (build types order octets n room None s) c y.1.flat y.1.all >>= λ z. Ok (then_val y.0 z.0, z.1)) x
            → ((g : Last) → Ext q.here.met g.here.met → built_times (build types order octets n room None s) c (cursor m) g ≡ Err x → BehindElements types order octets room c s m g x)
            → BehindElements types order octets room (suc c) s p q x
        by m f0 own_ext (first_stops g) more = behind_this_element (so None p q m x f0 own_ext g)
        by m f0 own_ext (next_stops y g k) more =
            let b = build_stands types order octets n room None s p q m y g f0 own_ext in
            let l = mapped_stops (built_times (build types order octets n room None s) c y.1.flat y.1.all) (λ z. (then_val y.0 z.0, z.1)) x k in
            behind_later_element b.0 (more y.1.all b.2 (subst (λ (z : Cursor). built_times (build types order octets n room None s) c z y.1.all ≡ Err x) b.1 l))

    -- ---- referents

    pub whole_amiss : (n room : ℕ) (s : Form) (q : Last) (x : Departure) → Both n room s → whole types order octets n room s q ≡ Err x → WholeAmiss types order octets room s q x
    whole_amiss n room s q x so e = by (stops (scan types order octets n room None s q.here) (λ h. build types order octets n room None s (cursor q.here) (onto h q) >>= λ y. Ok (y.0, y.1.all)) x e)
      where
        by : Stops {B = Val × Last} (scan types order octets n room None s q.here) (λ h. build types order octets n room None s (cursor q.here) (onto h q) >>= λ y. Ok (y.0, y.1.all)) x → WholeAmiss types order octets room s q x
        by (first_stops f) = in_flat_part (so.0 None q.here x f)
        by (next_stops h f g) =
            in_referents (scan_flat types order octets n room None s q.here h f)
            (so.1 None q.here (onto h q) h x f (ext_self h.met) (mapped_stops (build types order octets n room None s (cursor q.here) (onto h q)) (λ y. (y.0, y.1.all)) x g))

    abbrev refer : ℕ → ℕ → ℕ → Form → Last → Found
    refer n room i s q = referent (scan types order octets n) (build types order octets n) room i s q

    -- where a level is left
    refers : (n room d i : ℕ) (s : Form) (q : Last) (x : Departure) → AllBoth n → suc room * (deep + 1) + suc d ≤ suc n → Shallow types deep s → Targets types deep s → Clear types s
        → refer n (suc room) i s q ≡ Err x → WholeAmiss types order octets room s q x
    refers n room d i s q x so le sh tg cl e = whole_amiss n room s q x (so room deep s sh tg cl (omega (arith, le, suc-mul room (deep + 1)))) e

    abbrev Refers : ℕ → ℕ → Form → Type 0
    Refers n room s = (r : ℕ) → room ≡ suc r → (i : ℕ) (q : Last) (x : Departure) → refer n room i s q ≡ Err x → WholeAmiss types order octets r s q x

    all_refer : (n room d : ℕ) (s : Form) → AllBoth n → room * (deep + 1) + suc d ≤ suc n → Shallow types deep s → Targets types deep s → Clear types s → Refers n room s
    all_refer n room d s so le sh tg cl r is i q x e =
        refers n r d i s q x so (subst (λ (z : ℕ). z * (deep + 1) + suc d ≤ suc n) is le) sh tg cl (subst (λ (z : ℕ). refer n z i s q ≡ Err x) is e)

    -- a behind where there is a level
    at_level : (room r : ℕ) (moved : Option ℕ) (s : Form) (p : Place) (q : Last) (x : Departure) → room ≡ suc r → Behind types order octets (suc r) moved s p q x → Behind types order octets room moved s p q x
    at_level room r moved s p q x is b = subst (λ (z : ℕ). Behind types order octets z moved s p q x) (sym is) b

    ref_builds : (n room : ℕ) (moved : Option ℕ) (s : Form) (p : Place) (q : Last) (h : Place) (x : Departure) (k j : ℕ) → Refers n room s → Scalar order octets 4 k p.at j
        → level room (up p.at 4) (Ok (past p j)) ≡ Ok h → behind_ref (cursor (past p j)) (refer n room (up p.at 4) s q) ≡ Err x → Behind types order octets room moved (OfRef s) p q x
    ref_builds n room moved s p q h x k j so at f e =
        let a = at_a_level room (up p.at 4) (past p j) h f in
        at_level room a.0 moved (OfRef s) p q x a.1
        (ref_behind at (so a.0 a.1 (up p.at 4) q x (mapped_stops (refer n room (up p.at 4) s q) (λ y. (y.0, ends (cursor (past p j)) y.1)) x e)))

    unique_builds : (n room : ℕ) (moved : Option ℕ) (s : Form) (p : Place) (q : Last) (h : Place) (x : Departure) (id j : ℕ) → Refers n room s → Scalar order octets 4 id p.at j
        → unique_by id room p j ≡ Ok h → behind_unique id (cursor (past p j)) q (refer n room (up p.at 4) s q) ≡ Err x → Behind types order octets room moved (OfUnique s) p q x
    unique_builds n room moved s p q h x zero j so at f e = absurd cc
    unique_builds n room moved s p q h x (suc id) j so at f e =
        let a = at_a_level room (up p.at 4) (past p j) h f in
        at_level room a.0 moved (OfUnique s) p q x a.1
        (unique_behind at (so a.0 a.1 (up p.at 4) q x (mapped_stops (refer n room (up p.at 4) s q) (λ y. (VPtr y.0, ends (cursor (past p j)) y.1)) x e)))

    known_builds : (n room : ℕ) (moved : Option ℕ) (s : Form) (p : Place) (q : Last) (h : Place) (x : Departure) (id j : ℕ) → Refers n room s → Scalar order octets 4 (suc id) p.at j → (o : Option (ℕ × Form)) → look p.met (suc id) ≡ o
        → full_scan room (suc id) s o p j ≡ Ok h → Ext h.met q.here.met → behind_met (up p.at 4) (look q.here.met (suc id)) (cursor (past p j)) q (refer n room (up p.at 4) s (noting (Referent true ∷ []) q)) ≡ Err x
        → Behind types order octets room moved (OfFull s) p q x
    known_builds n room moved s p q h x id j so at None is f ext e =
        let found = refer n room (up p.at 4) s (noting (Referent true ∷ []) q) in
        let a = at_a_level room (up p.at 4) (with_id p j (suc id) s) h f in
        let grown : Ext (p.met ++ (suc id, s) ∷ []) q.here.met = subst (λ (y : Place). Ext y.met q.here.met) (sym a.2) ext in
        let lk : look q.here.met (suc id) ≡ Some (length p.met, s) =
        ap (λ (ms : Mets). look ms (suc id)) grown.1 ∙ found_on 0 (p.met ++ (suc id, s) ∷ []) grown.0 (suc id) (length p.met, s) (found_last 0 p.met (suc id) s is ∙ ap (λ (k : ℕ). Some (k, s)) (let z : 0 + length p.met ≡ length p.met = omega arith in z)) in
        let one : behind_met (up p.at 4) (look q.here.met (suc id)) (cursor (past p j)) q found ≡ behind_known (length p.met) true (cursor (past p j)) q found =
        ap (λ (o : Option (ℕ × Form)). behind_met (up p.at 4) o (cursor (past p j)) q found) lk
        ∙ ap (λ (b : Bool). behind_known (length p.met) b (cursor (past p j)) q found) (eq_self (length p.met)) in
        at_level room a.0 moved (OfFull s) p q x a.1
        (full_behind at is (so a.0 a.1 (up p.at 4) (noting (Referent true ∷ []) q) x (mapped_stops found (λ y. (VFull (Some (length p.met)), ends (record { at = j; ids = suc (length p.met); handles = length p.wires }) (keeping (length p.met) y.0 y.1))) x (sym one ∙ e))))
    known_builds n room moved s p q h x id j so at (Some m) is f ext e =
        let found = refer n room (up p.at 4) s (noting (Referent true ∷ []) q) in
        let w = when_ok (same m.1 s) (Pointer (up p.at 4)) (Ok (past p j)) h f in
        let grown : Ext p.met q.here.met = subst (λ (y : Place). Ext y.met q.here.met) (sym (ok_is Departure (past p j) h w.1)) ext in
        let lk : look q.here.met (suc id) ≡ Some m = ap (λ (ms : Mets). look ms (suc id)) grown.1 ∙ found_on 0 p.met grown.0 (suc id) m is in
        let below : (m.0 == length p.met) ≡ false = less_not m.0 (length p.met) (let k = found_less 0 p.met (suc id) m is in omega (arith, k)) in
        let one : behind_met (up p.at 4) (look q.here.met (suc id)) (cursor (past p j)) q found ≡ behind_known m.0 false (cursor (past p j)) q found =
        ap (λ (o : Option (ℕ × Form)). behind_met (up p.at 4) o (cursor (past p j)) q found) lk
        ∙ ap (λ (b : Bool). behind_known m.0 b (cursor (past p j)) q found) below in
        absurd (never (VFull (Some m.0), ends (cursor (past p j)) (noting (Referent false ∷ []) q)) x (sym one ∙ e))

    full_builds : (n room : ℕ) (moved : Option ℕ) (s : Form) (p : Place) (q : Last) (h : Place) (x : Departure) (id j : ℕ) → Refers n room s → Scalar order octets 4 id p.at j
        → full_by id room s p j ≡ Ok h → Ext h.met q.here.met → behind_full id (up p.at 4) (cursor (past p j)) q (refer n room (up p.at 4) s (noting (Referent true ∷ []) q)) ≡ Err x
        → Behind types order octets room moved (OfFull s) p q x
    full_builds n room moved s p q h x zero j so at f ext e = absurd cc
    full_builds n room moved s p q h x (suc id) j so at f ext e = known_builds n room moved s p q h x id j so at (look p.met (suc id)) refl f ext e

    -- ---- a pointer in a flat part

    no_level : (room : ℕ) (moved : Option ℕ) (s : Form) (p y : Place) (x : Departure) → Off types order octets 0 moved s p (TooDeep (up p.at 4)) → level room (up p.at 4) (Ok y) ≡ Err x → Amiss types order octets room moved s p x
    no_level room moved s p y x off e =
        let f = level_fails room (up p.at 4) y x e in
        subst (λ (r : ℕ). Amiss types order octets r moved s p x) (sym f.0) (subst (λ (z : Departure). Amiss types order octets 0 moved s p z) f.1 (itself off))

    unique_scans : (room id j : ℕ) (moved : Option ℕ) (s : Form) (p : Place) (x : Departure) → Scalar order octets 4 id p.at j → unique_by id room p j ≡ Err x → Amiss types order octets room moved (OfUnique s) p x
    unique_scans room zero j moved s p x at e = absurd (never (past p j) x e)
    unique_scans room (suc id) j moved s p x at e = no_level room moved (OfUnique s) p (past p j) x (no_level_unique at) e

    other_not : (t s : Form) → same t s ≡ false → IsSame t s → ⊥
    other_not t s e is = absurd (let f = same_of t s is in cc)

    full_scans : (room id j : ℕ) (moved : Option ℕ) (s : Form) (p : Place) (x : Departure) → Scalar order octets 4 id p.at j → full_by id room s p j ≡ Err x → Amiss types order octets room moved (OfFull s) p x
    full_scans room zero j moved s p x at e = absurd (never (past p j) x e)
    full_scans room (suc id) j moved s p x at e = by (look p.met (suc id)) refl e
      where
        by : (o : Option (ℕ × Form)) → look p.met (suc id) ≡ o → full_scan room (suc id) s o p j ≡ Err x → Amiss types order octets room moved (OfFull s) p x
        by None is f = no_level room moved (OfFull s) p (with_id p j (suc id) s) x (no_level_full at is) f
        by (Some m) is f =
            let w = else_stops (same m.1 s) (Pointer (up p.at 4)) x (past p j) f in
            subst (λ (z : Departure). Amiss types order octets room moved (OfFull s) p z) w.1 (itself (another_shape at is (other_not m.1 s w.0)))

    -- ---- arms

    arm_scans : (n room : ℕ) (moved : Option ℕ) (t : Form) (arms : ArmForms) (tag : ℤ) (p : Place) (j : ℕ) (x : Departure) (b : Option Body) → IsTag order octets t tag (in_place types (OfUnion t arms) p.at) j → arm_of (OfUnion t arms) tag ≡ b
        → ((s : Form) → b ≡ Some (holds s) → Scans n room s) → arm_scan b (up (in_place types (OfUnion t arms) p.at) (tag_size t)) (past p j) (scan types order octets n room None) ≡ Err x
        → Amiss types order octets room moved (OfUnion t arms) p x
    arm_scans n room moved t arms tag p j x None at is so e =
        subst (λ (z : Departure). Amiss types order octets room moved (OfUnion t arms) p z) (err_is Place (Tag (up (in_place types (OfUnion t arms) p.at) (tag_size t))) x e) (itself (no_arm at is))
    arm_scans n room moved t arms tag p j x (Some empty) at is so e = absurd (never (past p j) x e)
    arm_scans n room moved t arms tag p j x (Some (holds s)) at is so e = of_arm at is (so s refl None (past p j) x e)

    arm_builds : (n room : ℕ) (moved : Option ℕ) (t : Form) (arms : ArmForms) (tag : ℤ) (p : Place) (q : Last) (h : Place) (j : ℕ) (x : Departure) (b : Option Body) → IsTag order octets t tag (in_place types (OfUnion t arms) p.at) j
        → arm_of (OfUnion t arms) tag ≡ b → ((s : Form) → b ≡ Some (holds s) → Builds n room s)
        → arm_scan b (up (in_place types (OfUnion t arms) p.at) (tag_size t)) (past p j) (scan types order octets n room None) ≡ Ok h → Ext h.met q.here.met
        → built_arm b (up (in_place types (OfUnion t arms) p.at) (tag_size t)) tag (cursor (past p j)) (noting (tag_marks types t (OfUnion t arms) tag p.at) q) (build types order octets n room None) ≡ Err x
        → Behind types order octets room moved (OfUnion t arms) p q x
    arm_builds n room moved t arms tag p q h j x None at is so f ext e = absurd cc
    arm_builds n room moved t arms tag p q h j x (Some empty) at is so f ext e = absurd cc
    arm_builds n room moved t arms tag p q h j x (Some (holds s)) at is so f ext e =
        let own = noting (tag_marks types t (OfUnion t arms) tag p.at) q in
        behind_arm at is (so s refl None (past p j) own h x f ext (mapped_stops (build types order octets n room None s (cursor (past p j)) own) (λ y. (VUnion tag y.0, y.1)) x e))

    -- ---- shape by shape

    type_both : (n room d : ℕ) → AllBoth n → room * (deep + 1) + d ≤ n → (c : ℕ) → HasForm (Shallow types d) (slice_get types c) → (s : Form) → slice_get types c ≡ Some s → Both n room s
    type_both n room d so le c sh s is = so room d s (subst (λ (o : Option Form). HasForm (Shallow types d) o) is sh) (grounded c s is) (clear c s is) le

    named_is : {A : Type 0} (o : Option Form) (at : ℕ) (go : Form → Result A Departure) (s : Form) (r : Result A Departure) → o ≡ Some s → of_type o at go ≡ r → go s ≡ r
    named_is o at go s r is e = sym (ap (λ (x : Option Form). of_type x at go) is) ∙ e

    number_amiss : (room size : ℕ) (moved : Option ℕ) (s : Form) (p : Place) (x : Departure) → number_size s ≡ Some size → number order octets size p.at ≡ Err x → Amiss types order octets room moved s p x
    number_amiss room size moved s p x is e =
        let f = number_off order octets size p.at x e in subst (λ (z : Departure). Amiss types order octets room moved s p z) f.1 (itself (number_cut is f.0))

    plain_both : (n room size : ℕ) (s : Form) (make : ℕ → Val) → number_size s ≡ Some size
        → ((moved : Option ℕ) (p : Place) → scan types order octets n room moved s p ≡ (number order octets size p.at >>= λ x. Ok (past p x.1)))
        → ((moved : Option ℕ) (p : Place) (q : Last) → build types order octets n room moved s (cursor p) q ≡ (number order octets size p.at >>= λ x. Ok (make x.0, ends (cursor (past p x.1)) q))) → Both n room s
    plain_both n room size s make is scanned built = (
      λ moved p x e. number_amiss room size moved s p x is (mapped_stops (number order octets size p.at) (λ y. past p y.1) x (sym (scanned moved p) ∙ e)),
      λ moved p q h x f ext e. absurd (both_ways (number order octets size p.at) (λ y. past p y.1) (λ y. (make y.0, ends (cursor (past p y.1)) q)) h x (sym (scanned moved p) ∙ f) (sym (built moved p q) ∙ e)),
    )

    one_both : (n room d : ℕ) → AllBoth n → (s : Form) → Shallow types (suc d) s → Targets types deep s → Clear types s → room * (deep + 1) + suc d ≤ suc n → Both (suc n) room s
    unfolding scan build
    one_both n room d so OfBool sh tg cl le = plain_both (suc n) room 1 OfBool (λ k. VBool (not (k == 0))) refl (λ moved p. refl) (λ moved p q. refl)
    one_both n room d so OfByte sh tg cl le = plain_both (suc n) room 1 OfByte VByte refl (λ moved p. refl) (λ moved p q. refl)
    one_both n room d so OfChar sh tg cl le = plain_both (suc n) room 1 OfChar VChar refl (λ moved p. refl) (λ moved p q. refl)
    one_both n room d so (OfInt size) sh tg cl le = plain_both (suc n) room size (OfInt size) (λ k. VInt (signed size k)) refl (λ moved p. refl) (λ moved p q. refl)
    one_both n room d so (OfUint size) sh tg cl le = plain_both (suc n) room size (OfUint size) VUint refl (λ moved p. refl) (λ moved p q. refl)
    one_both n room d so (OfEnum count) sh tg cl le = (
      λ moved p x e. named moved p x (name_fails order octets count p.at x (mapped_stops (name_at order octets count p.at) (λ y. past p y.1) x e)),
      λ moved p q h x f ext e. absurd (both_ways (name_at order octets count p.at) (λ y. past p y.1) (λ y. (VEnum y.0, ends (cursor (past p y.1)) q)) h x f e),
    )
      where
        named : (moved : Option ℕ) (p : Place) (x : Departure) → NameOff order octets count p.at x → Amiss types order octets room moved (OfEnum count) p x
        named moved p x (name_cut c is) = subst (λ (z : Departure). Amiss types order octets room moved (OfEnum count) p z) is (itself (number_cut {size = 2} refl c))
        named moved p x (above k j at le is) = subst (λ (z : Departure). Amiss types order octets room moved (OfEnum count) p z) is (itself (no_name at le))
    one_both n room d so (OfHandle kind) sh tg cl le = (
      λ moved p x e. let f = wire_fails order octets p.at x (mapped_stops (wire_at order octets p.at) (λ y. record { at = y.1; met = p.met; wires = p.wires ++ y.0 ∷ [] }) x e) in
          subst (λ (z : Departure). Amiss types order octets room moved (OfHandle kind) p z) f.1 (itself (handle_cut f.0)),
      λ moved p q h x f ext e. absurd (both_ways (wire_at order octets p.at) (λ y. record { at = y.1; met = p.met; wires = p.wires ++ y.0 ∷ [] })
          (λ y. (VHandle (length p.wires), ends (record { at = y.1; ids = length p.met; handles = suc (length p.wires) }) q)) h x f e),
    )
    one_both n room d so (OfText size) sh tg cl le = (
      λ moved p x e. itself (text_off (chars_fail order octets size moved p.at x (mapped_stops (chars_at order octets size moved p.at) (λ y. past p y.1) x e))),
      λ moved p q h x f ext e. absurd (both_ways (chars_at order octets size moved p.at) (λ y. past p y.1) (λ y. (VText y.0, ends (cursor (past p y.1)) q)) h x f e),
    )
    one_both n room d so (OfNamed c switch) sh tg cl le =
        let both = type_both n room d so (omega (arith, le)) c sh cl.0 cl.1 in (
          λ moved p x e. of_name cl.1 (both.0 moved p x (named_is (slice_get types c) p.at (λ s. scan types order octets n room moved s p) cl.0 (Err x) cl.1 e)),
          λ moved p q h x f ext e. behind_name cl.1
              (both.1 moved p q h x (named_is (slice_get types c) p.at (λ s. scan types order octets n room moved s p) cl.0 (Ok h) cl.1 f) ext
              (named_is (slice_get types c) p.at (λ s. build types order octets n room moved s (cursor p) q) cl.0 (Err x) cl.1 e)),
        )
    one_both n room d so (OfStruct ss) sh tg cl le = (
      λ moved p x e. by moved p x (stops (struct_at order octets types ss moved p.at) (λ y. each (scan types order octets n room) y.0 ss (past p y.1)) x e),
      λ moved p q h x f ext e. let a = bind_ok (struct_at order octets types ss moved p.at) (λ y. each (scan types order octets n room) y.0 ss (past p y.1)) h f in
          let own = noting (opened_marks moved a.0.0 p.at) q in
          let g = after (struct_at order octets types ss moved p.at) (λ y. in_struct (built_each (build types order octets n room) y.0 ss (cursor (past p y.1)) (noting (opened_marks moved y.0 p.at) q))) a.0 a.1 e in
          behind_structure (begins order octets types ss moved p.at a.0 a.1)
          (each_builds n room d so (omega (arith, le)) ss sh tg cl a.0.0 (past p a.0.1) own h x a.2 ext (mapped_stops (built_each (build types order octets n room) a.0.0 ss (cursor (past p a.0.1)) own) (λ y. (VStruct y.0, y.1)) x g)),
    )
      where
        by : (moved : Option ℕ) (p : Place) (x : Departure) → Stops (struct_at order octets types ss moved p.at) (λ y. each (scan types order octets n room) y.0 ss (past p y.1)) x → Amiss types order octets room moved (OfStruct ss) p x
        by moved p x (first_stops f) = itself (structure_off (structure_fails types order octets ss moved p.at x f))
        by moved p x (next_stops y f g) = of_structure (begins order octets types ss moved p.at y f) (each_scans n room d so (omega (arith, le)) ss sh tg cl y.0 (past p y.1) x g)
    one_both n room d so (OfUnion t arms) sh tg cl le = (
      λ moved p x e. by moved p x (stops (tag_at order octets t arms (in_place types u p.at)) (λ y. arm_scan (arm_of u y.0) (up (in_place types u p.at) (tag_size t)) (past p y.1) (scan types order octets n room None)) x e),
      λ moved p q h x f ext e. let begin = in_place types u p.at in
          let a = bind_ok (tag_at order octets t arms begin) (λ y. arm_scan (arm_of u y.0) (up begin (tag_size t)) (past p y.1) (scan types order octets n room None)) h f in
          let g = after (tag_at order octets t arms begin) (λ y. built_arm (arm_of u y.0) (up begin (tag_size t)) y.0 (cursor (past p y.1)) (noting (tag_marks types t u y.0 p.at) q) (build types order octets n room None)) a.0 a.1 e in
          arm_builds n room moved t arms a.0.0 p q h a.0.1 x (arm_of u a.0.0) (tag_is order octets t arms begin a.0 a.1) refl (λ s is. (arm_both a.0.0 s is).1) a.2 ext g,
    )
      where
        u : Form
        u = OfUnion t arms

        arm_both : (tag : ℤ) (s : Form) → arm_of (OfUnion t arms) tag ≡ Some (holds s) → Both n room s
        arm_both tag s e = so room d s (arm_has (Shallow types d) s t arms tag e sh) (arm_has (Targets types deep) s t arms tag e (each_arm types deep arms tg)) (arm_clear types s t arms tag e cl.1) (omega (arith, le))

        by : (moved : Option ℕ) (p : Place) (x : Departure)
            → Stops (tag_at order octets t arms (in_place types (OfUnion t arms) p.at)) (λ y. arm_scan (arm_of (OfUnion t arms) y.0) (up (in_place types (OfUnion t arms) p.at) (tag_size t)) (past p y.1) (scan types order octets n room None)) x
            → Amiss types order octets room moved (OfUnion t arms) p x
        by moved p x (first_stops f) = itself (tag_off (tag_fails order octets t arms (in_place types (OfUnion t arms) p.at) x cl.0 f))
        by moved p x (next_stops y f g) =
            arm_scans n room moved t arms y.0 p y.1 x (arm_of (OfUnion t arms) y.0) (tag_is order octets t arms (in_place types (OfUnion t arms) p.at) y f) refl (λ s is. (arm_both y.0 s is).0) g
    one_both n room d so (OfArray kind s) sh tg cl le = (
      λ moved p x e. by moved p x (stops (array_at order octets kind moved p.at) (λ y. times (scan types order octets n room None s) y.0.actual (past p y.1)) x e),
      λ moved p q h x f ext e. let a = bind_ok (array_at order octets kind moved p.at) (λ y. times (scan types order octets n room None s) y.0.actual (past p y.1)) h f in
          let own = noting (count_marks kind moved a.0.0 p.at a.0.1) q in
          let g = after (array_at order octets kind moved p.at) (λ y. in_array (built_times (build types order octets n room None s) y.0.actual (cursor (past p y.1)) (noting (count_marks kind moved y.0 p.at y.1) q))) a.0 a.1 e in
          behind_array (array_is order octets kind moved p.at a.0 a.1)
          (times_builds n room s element.1 a.0.0.actual (past p a.0.1) own h x a.2 ext (mapped_stops (built_times (build types order octets n room None s) a.0.0.actual (cursor (past p a.0.1)) own) (λ y. (VArray y.0, y.1)) x g)),
    )
      where
        element : Both n room s
        element = so room d s sh tg cl (omega (arith, le))

        by : (moved : Option ℕ) (p : Place) (x : Departure) → Stops (array_at order octets kind moved p.at) (λ y. times (scan types order octets n room None s) y.0.actual (past p y.1)) x → Amiss types order octets room moved (OfArray kind s) p x
        by moved p x (first_stops f) = itself (array_off (array_fails order octets kind moved p.at x f))
        by moved p x (next_stops y f g) = of_array (array_is order octets kind moved p.at y f) (times_scans n room s element.0 y.0.actual (past p y.1) x g)
    one_both n room d so (OfRef s) sh tg cl le = (
      λ moved p x e. by moved p x (stops (number order octets 4 p.at) (λ y. level room (up p.at 4) (Ok (past p y.1))) x e),
      λ moved p q h x f ext e. let a = bind_ok (number order octets 4 p.at) (λ y. level room (up p.at 4) (Ok (past p y.1))) h f in
          ref_builds n room moved s p q h x a.0.0 a.0.1 (all_refer n room d s so le tg.0 tg.1 cl) (number_is order octets 4 p.at a.0 a.1) a.2
          (after (number order octets 4 p.at) (λ y. behind_ref (cursor (past p y.1)) (refer n room (up p.at 4) s q)) a.0 a.1 e),
    )
      where
        by : (moved : Option ℕ) (p : Place) (x : Departure) → Stops (number order octets 4 p.at) (λ y. level room (up p.at 4) (Ok (past p y.1))) x → Amiss types order octets room moved (OfRef s) p x
        by moved p x (first_stops f) = number_amiss room 4 moved (OfRef s) p x refl f
        by moved p x (next_stops y f g) = no_level room moved (OfRef s) p (past p y.1) x (no_level_ref (number_is order octets 4 p.at y f)) g
    one_both n room d so (OfUnique s) sh tg cl le = (
      λ moved p x e. by moved p x (stops (number order octets 4 p.at) (λ y. unique_by y.0 room p y.1) x e),
      λ moved p q h x f ext e. let a = bind_ok (number order octets 4 p.at) (λ y. unique_by y.0 room p y.1) h f in
          unique_builds n room moved s p q h x a.0.0 a.0.1 (all_refer n room d s so le tg.0 tg.1 cl) (number_is order octets 4 p.at a.0 a.1) a.2
          (after (number order octets 4 p.at) (λ y. behind_unique y.0 (cursor (past p y.1)) q (refer n room (up p.at 4) s q)) a.0 a.1 e),
    )
      where
        by : (moved : Option ℕ) (p : Place) (x : Departure) → Stops (number order octets 4 p.at) (λ y. unique_by y.0 room p y.1) x → Amiss types order octets room moved (OfUnique s) p x
        by moved p x (first_stops f) = number_amiss room 4 moved (OfUnique s) p x refl f
        by moved p x (next_stops y f g) = unique_scans room y.0 y.1 moved s p x (number_is order octets 4 p.at y f) g
    one_both n room d so (OfFull s) sh tg cl le = (
      λ moved p x e. by moved p x (stops (number order octets 4 p.at) (λ y. full_by y.0 room s p y.1) x e),
      λ moved p q h x f ext e. let a = bind_ok (number order octets 4 p.at) (λ y. full_by y.0 room s p y.1) h f in
          full_builds n room moved s p q h x a.0.0 a.0.1 (all_refer n room d s so le tg.0 tg.1 cl) (number_is order octets 4 p.at a.0 a.1) a.2 ext
          (after (number order octets 4 p.at) (λ y. behind_full y.0 (up p.at 4) (cursor (past p y.1)) q (refer n room (up p.at 4) s (noting (Referent true ∷ []) q))) a.0 a.1 e),
    )
      where
        by : (moved : Option ℕ) (p : Place) (x : Departure) → Stops (number order octets 4 p.at) (λ y. full_by y.0 room s p y.1) x → Amiss types order octets room moved (OfFull s) p x
        by moved p x (first_stops f) = number_amiss room 4 moved (OfFull s) p x refl f
        by moved p x (next_stops y f g) = full_scans room y.0 y.1 moved s p x (number_is order octets 4 p.at y f) g

    both : (n room d : ℕ) (s : Form) → Shallow types d s → Targets types deep s → Clear types s → room * (deep + 1) + d ≤ n → Both n room s
    both n room zero s sh tg cl le = absurd sh
    both zero room (suc d) s sh tg cl le = absurd (omega (arith, le))
    both (suc n) room (suc d) s sh tg cl le = one_both n room d (both n) s sh tg cl le

    -- ---- the parameters in order

    module _ (wide : 256 * (deep + 1) + deep ≤ enough) where
      follow_amiss : (es : List Entry) (q : Last) (x : Departure) → EachEntry types deep es → EntriesClear types es → follows types order octets enough es q ≡ Err x → OneAmiss types order octets es q x
      follow_amiss [] q x sh cl e = absurd cc
      follow_amiss (e ∷ es) q x sh cl f =
          by (stops (whole types order octets enough 256 e.shape q) (λ y. follows types order octets enough es (noting (range_marks e q.here.at) y.1) >>= λ z. Ok (then_val y.0 z.0, z.1)) x f)
          (λ h. follow_amiss es (noting (range_marks e q.here.at) h) x sh.1 cl.1)
        where
          by : Stops {B = Vals × Last} (whole types order octets enough 256 e.shape q) (λ y. follows types order octets enough es (noting (range_marks e q.here.at) y.1) >>= λ z. Ok (then_val y.0 z.0, z.1)) x
              → ((h : Last) → follows types order octets enough es (noting (range_marks e q.here.at) h) ≡ Err x → OneAmiss types order octets es (noting (range_marks e q.here.at) h) x) → OneAmiss types order octets (e ∷ es) q x
          by (first_stops g) more = this_entry (whole_amiss enough 256 e.shape q x (both enough 256 deep e.shape sh.0.0 sh.0.1 cl.0 wide) g)
          by (next_stops y g k) more =
              later_entry (whole_stands types order octets enough 256 e.shape q y g)
              (more y.1 (mapped_stops (follows types order octets enough es (noting (range_marks e q.here.at) y.1)) (λ z. (then_val y.0 z.0, z.1)) x k))

      follow_ends : (es : List Entry) (q : Last) (y : Vals × Last) (n : ℕ) → follows types order octets enough es q ≡ Ok y → y.1.here.at + n ≡ length octets → 7 < n → OneAmiss types order octets es q (Trailing n)
      follow_ends [] q y n f is many = more_behind (ap (λ (z : Vals × Last). z.1.here.at + n) (ok_is Departure (no_val, q) y f) ∙ is) many
      follow_ends (e ∷ es) q y n f is many =
          let a = bind_ok (whole types order octets enough 256 e.shape q) (λ z. follows types order octets enough es (noting (range_marks e q.here.at) z.1) >>= λ w. Ok (then_val z.0 w.0, w.1)) y f in
          let b = bind_ok (follows types order octets enough es (noting (range_marks e q.here.at) a.0.1)) (λ w. Ok (then_val a.0.0 w.0, w.1)) y a.2 in
          let same : b.0.1 ≡ y.1 = ap (λ (z : Vals × Last). z.1) (ok_is Departure (then_val a.0.0 b.0.0, b.0.1) y b.2) in
          later_entry (whole_stands types order octets enough 256 e.shape q a.0 a.1)
          (follow_ends es (noting (range_marks e q.here.at) a.0.1) b.0 n b.1 (ap (λ (z : Last). z.here.at + n) same ∙ is) many)

      reads_amiss : (es : List Entry) (x : Departure) → EachEntry types deep es → EntriesClear types es → reads types order es octets ≡ Err x → OneAmiss types order octets es start x
      unfolding read_values
      reads_amiss es x sh cl e = by (stops (follows types order octets enough es start) (λ y. no_more types order octets y) x e)
        where
          by : Stops (follows types order octets enough es start) (λ y. no_more types order octets y) x → OneAmiss types order octets es start x
          by (first_stops f) = follow_amiss es start x sh cl f
          by (next_stops y f g) =
              let k = if_stops (nat_lt (y.1.here.at + 7) (length octets)) (Trailing (length octets - y.1.here.at)) x y g in
              let lt : y.1.here.at + 7 < length octets = ltb-true _ _ k.0 in
              subst (λ (z : Departure). OneAmiss types order octets es start z) k.1 (follow_ends es start y (length octets - y.1.here.at) f (omega (arith, lt)) (omega (arith, lt)))

module _ (types : List Form) (op : OpForm) (way : Way) (order : Order) where
  -- between a pointer and the next stand less than 1024 constructs and names
  most_is : plus (suc (tight 256)) 255 ≤ 1023
  most_is = omega (arith, plus_is (suc (tight 256)) 255, tight_is 256)

  pub is_amiss : (octets : List ℕ) (d : Departure) → IsOpOf types op → reads types order (entries way op) octets ≡ Err d → OneAmiss types order octets (entries way op) start d
  is_amiss octets d o e =
      let t = o.is in
      reads_amiss types order octets 1023 (types_grounded types t.ops (length types) refl t.table.types_are t.shallow.types_are 1023 most_is)
      (types_clear types (length types) refl t.table.types_are o.sound.types_are) (omega arith) (entries way op) d
      (op_entries types t.ops (length types) refl t.table.types_are t.shallow.types_are 1023 most_is way t.number op t.table.ops_are t.shallow.ops_are t.is)
      (op_clear types (length types) refl t.ops way t.number op t.table.ops_are o.sound.ops_are t.is) e
