-- A departure among the referents of a value, by what stands in the octets, is the one that is read.
use Rattle.std.proofs.Common.{◌≡◌, ℕ, zero, suc, ◌+◌, ◌*◌, ◌≤◌, ℤ, Bool, true, List, [], ◌∷◌, ◌++◌, length, Option, Some, None, Ok, Err, refl, sym, ap, subst, ◌∙◌, arith, suc-mul}
use Rattle.std.specs.Prelude.{slice_get, ◌==◌}
use Rattle.rpc_base.specs.declared.identifiers.Order.{Order}
use Rattle.ndr_value.specs.Forms.{Form, OfNamed, OfStruct, OfUnion, OfArray, OfFull, Forms, Body, empty, holds, ArmForms}
use Rattle.ndr_value.specs.Fits.{arm_of}
use Rattle.ndr_value.specs.Values.{Val, VStruct, VUnion, VArray, Vals, then_val}
use Rattle.ndr_scalars.specs.Scalars.{up, Scalar}
use Rattle.ndr_arrays.specs.Bind.{◌>>=◌}
use Rattle.ndr_arrays.specs.declared.counts.Counts.{Counts}
use Rattle.ndr_arrays.proofs.Steps.{through, ok_is}
use Rattle.ndr_model.specs.declared.departure.Departure.{Departure}
use Rattle.ndr_model.specs.declared.mark.Mark.TheVariants.{Referent}
use Rattle.ndr_model.specs.Same.{same}
use Rattle.ndr_model.specs.Places.{Place, past, Last, onto, noting, look}
use Rattle.ndr_model.specs.Part.{Part, a_bool, a_byte, a_char, an_int, a_uint, an_enum, a_handle, a_text, a_name, a_struct, an_empty_arm, an_arm, an_array, a_ref, a_null, a_unique, a_null_full, a_new, a_repeat, Parts, no_part, then_part, Items, no_item, then_item, IsTag, Begins, for_last, in_place, tag_size, opened_marks, count_marks, tag_marks}
use Rattle.ndr_model.specs.Reading.{number, array_at, tag_at, struct_at}
use Rattle.ndr_model.specs.Scan.{of_type, scan}
use Rattle.ndr_model.proofs.Mets.{Ext, ext_self, ext_then}
use Rattle.ndr_laws.proofs.Grounded.{EachForm, Shallow, Targets, EachTarget, Grounded, each_arm, type_has, arm_has}
use Rattle.ndr_laws.proofs.Again.{number_again, array_again, tag_again, begins_again}
use Rattle.ndr_faults.specs.Flat.{Flat, flat_number, flat_enum, flat_handle, flat_text, flat_type, flat_structure, flat_empty_arm, flat_arm, flat_array, flat_ref, flat_null, flat_unique, flat_null_full, flat_new, flat_repeat, FlatMembers, no_flat_member, flat_member_then, FlatElements, no_flat_element, flat_element_then}
use Rattle.ndr_faults.proofs.Clear.{Clear, EachClear, AllClear, arm_clear}
use Rattle.stub_laws.proofs.Cuts.{stopped}
use Rattle.ndr_value.specs.declared.shape.Count.{Count}
use Rattle.ndr_value.specs.declared.shape.ArrayKind.{ArrayKind}
use Rattle.ndr_arrays.specs.Counted.{HasCounts}
use Rattle.ndr_model.specs.Build.{Cursor, ahead, cursor, ends, Found, referent, behind_ref, behind_unique, behind_known, behind_met, behind_full, built_each, built_times, in_struct, in_array, built_arm, build, whole}
use Rattle.ndr_model.proofs.Mets.{Mets, eq_self, found_on, found_last}
use Rattle.ndr_laws.proofs.Grows.{part_grows}
use Rattle.ndr_laws.proofs.Complete.{part_built}
use Rattle.ndr_faults.specs.Amiss.{WholeAmiss, in_flat_part, in_referents, Behind, behind_name, behind_structure, behind_arm, behind_array, behind_ref as ref_behind, behind_unique as unique_behind, behind_full as full_behind, BehindMembers, behind_this_member, behind_later_member, BehindElements, behind_this_element, behind_later_element}
use Rattle.stub_laws.proofs.Told.{flat_scans, amiss_scans}

some_is : {A : Type 0} (x y : A) → Some x ≡ Some y → x ≡ y
some_is x y e = cc

-- an id that wasn't met is that of the next number
new_found : (p : Place) (q : Last) (id : ℕ) (s : Form) → look p.met id ≡ None → Ext (p.met ++ (id, s) ∷ []) q.here.met → look q.here.met id ≡ Some (length p.met, s)
new_found p q id s is ext =
    ap (λ (ms : Mets). look ms id) ext.1 ∙ found_on 0 (p.met ++ (id, s) ∷ []) ext.0 id (length p.met, s) (found_last 0 p.met id s is ∙ ap (λ (k : ℕ). Some (k, s)) (let z : 0 + length p.met ≡ length p.met = omega arith in z))

new_built : (i n : ℕ) (s : Form) (a : Cursor) (q : Last) (found : Found) (o : Option (ℕ × Form)) → o ≡ Some (n, s) → n ≡ a.ids → behind_met i o a q found ≡ behind_known n true a q found
new_built i n s a q found o e same = ap (λ (x : Option (ℕ × Form)). behind_met i x a q found) e ∙ ap (λ (b : Bool). behind_known n b a q found) (ap (λ (k : ℕ). n == k) (sym same) ∙ eq_self n)

module _ (types : List Form) (order : Order) (octets : List ℕ) where
  -- ---- a flat part only adds ids

  mutual
    flat_grows : {room : ℕ} {moved : Option ℕ} {s : Form} {p h : Place} → Flat types order octets room moved s p h → Ext p.met h.met
    flat_grows (flat_number {p = p} e at) = ext_self p.met
    flat_grows (flat_enum {p = p} at lt) = ext_self p.met
    flat_grows (flat_handle {p = p} at) = ext_self p.met
    flat_grows (flat_text {p = p} at) = ext_self p.met
    flat_grows (flat_type is f) = flat_grows f
    flat_grows (flat_structure b fs) = members_grow fs
    flat_grows (flat_empty_arm {p = p} at is) = ext_self p.met
    flat_grows (flat_arm at is f) = flat_grows f
    flat_grows (flat_array at fs) = elements_grow fs
    flat_grows (flat_ref {p = p} at) = ext_self p.met
    flat_grows (flat_null {p = p} at) = ext_self p.met
    flat_grows (flat_unique {p = p} at) = ext_self p.met
    flat_grows (flat_null_full {p = p} at) = ext_self p.met
    flat_grows (flat_new at is) = (_, refl)
    flat_grows (flat_repeat {p = p} at is alike) = ext_self p.met

    members_grow : {room : ℕ} {own : Option ℕ} {ss : Forms} {p h : Place} → FlatMembers types order octets room own ss p h → Ext p.met h.met
    members_grow (no_flat_member {p = p}) = ext_self p.met
    members_grow (flat_member_then {p = p} {h = h} {h' = k} f fs) = ext_then p.met h.met k.met (flat_grows f) (members_grow fs)

    elements_grow : {room c : ℕ} {s : Form} {p h : Place} → FlatElements types order octets room c s p h → Ext p.met h.met
    elements_grow (no_flat_element {p = p}) = ext_self p.met
    elements_grow (flat_element_then {p = p} {h = h} {h' = k} f fs) = ext_then p.met h.met k.met (flat_grows f) (elements_grow fs)

  -- ---- the flat part of a value

  mutual
    part_flat : {room : ℕ} {moved : Option ℕ} {s : Form} {v : Val} {p p' : Place} {q q' : Last} → Part types order octets room moved s v p p' q q' → Flat types order octets room moved s p p'
    part_flat (a_bool at) = flat_number refl at
    part_flat (a_byte at) = flat_number refl at
    part_flat (a_char at) = flat_number refl at
    part_flat (an_int at) = flat_number refl at
    part_flat (a_uint at) = flat_number refl at
    part_flat (an_enum at lt) = flat_enum at lt
    part_flat (a_handle at) = flat_handle at
    part_flat (a_text at) = flat_text at
    part_flat (a_name is part) = flat_type is (part_flat part)
    part_flat (a_struct b ps) = flat_structure b (parts_flat ps)
    part_flat (an_empty_arm at is) = flat_empty_arm at is
    part_flat (an_arm at is part) = flat_arm at is (part_flat part)
    part_flat (an_array at ps) = flat_array at (items_flat ps)
    part_flat (a_ref at part) = flat_ref at
    part_flat (a_null at) = flat_null at
    part_flat (a_unique at part) = flat_unique at
    part_flat (a_null_full at) = flat_null_full at
    part_flat (a_new at is part) = flat_new at is
    part_flat (a_repeat at is alike) = flat_repeat at is alike

    parts_flat : {room : ℕ} {own : Option ℕ} {ss : Forms} {vs : Vals} {p p' : Place} {q q' : Last} → Parts types order octets room own ss vs p p' q q' → FlatMembers types order octets room own ss p p'
    parts_flat no_part = no_flat_member
    parts_flat (then_part part ps) = flat_member_then (part_flat part) (parts_flat ps)

    items_flat : {room c : ℕ} {s : Form} {vs : Vals} {p p' : Place} {q q' : Last} → Items types order octets room c s vs p p' q q' → FlatElements types order octets room c s p p'
    items_flat no_item = no_flat_element
    items_flat (then_item part ps) = flat_element_then (part_flat part) (items_flat ps)

  one_flat : {room : ℕ} {moved : Option ℕ} {s : Form} {p h k : Place} (d : ℕ) → Shallow types d s → Flat types order octets room moved s p h → Flat types order octets room moved s p k → h ≡ k
  one_flat {h = h} {k = k} d sh f g = ok_is Departure h k (sym (flat_scans types order octets d d f sh (omega arith)) ∙ flat_scans types order octets d d g sh (omega arith))

  -- ---- the flat parts below

  members_of : {room i : ℕ} {moved own : Option ℕ} {ss : Forms} {p h : Place} → Begins types order octets ss moved own p.at i → Flat types order octets room moved (OfStruct ss) p h → FlatMembers types order octets room own ss (past p i) h
  members_of b (flat_number e at) = absurd cc
  members_of {room} {i} {own = own} {ss = ss} {p = p} {h = h} b (flat_structure {i = j} {own = other} c fs) =
      let same : ◌≡◌ {A = Option ℕ × ℕ} (other, j) (own, i) = ok_is Departure (other, j) (own, i) (sym (begins_again order octets c) ∙ begins_again order octets b) in
      subst (λ (x : Option ℕ × ℕ). FlatMembers types order octets room x.0 ss (past p x.1) h) same fs

  elements_of : {room i : ℕ} {moved : Option ℕ} {kind : ArrayKind} {c : Counts} {s : Form} {p h : Place} → HasCounts order octets moved kind c p.at i → Flat types order octets room moved (OfArray kind s) p h
      → FlatElements types order octets room c.actual s (past p i) h
  elements_of b (flat_number e at) = absurd cc
  elements_of {room} {i} {c = c} {s = s} {p = p} {h = h} b (flat_array {i = j} {counts = other} e fs) =
      let same : ◌≡◌ {A = Counts × ℕ} (other, j) (c, i) = ok_is Departure (other, j) (c, i) (sym (array_again order octets e) ∙ array_again order octets b) in
      subst (λ (x : Counts × ℕ). FlatElements types order octets room x.0.actual s (past p x.1) h) same fs

  type_of : {room c : ℕ} {moved : Option ℕ} {switch : Option Count} {s : Form} {p h : Place} → slice_get types c ≡ Some s → Flat types order octets room moved (OfNamed c switch) p h → Flat types order octets room moved s p h
  type_of is (flat_number e at) = absurd cc
  type_of {room} {moved = moved} {s = s} {p = p} {h = h} is (flat_type {s = t} e f) = subst (λ (x : Form). Flat types order octets room moved x p h) (some_is t s (sym e ∙ is)) f

  same_body : (a b : Body) → Some a ≡ Some b → a ≡ b
  same_body a b e = cc

  same_held : (s t : Form) → Some (holds s) ≡ Some (holds t) → s ≡ t
  same_held s t e = cc

  not_empty : (s : Form) → Some empty ≡ Some (holds s) → ⊥
  not_empty s e = absurd cc

  held_of : {room j : ℕ} {moved : Option ℕ} {t s : Form} {arms : ArmForms} {tag : ℤ} {p h : Place} → IsTag order octets t tag (in_place types (OfUnion t arms) p.at) j → arm_of (OfUnion t arms) tag ≡ Some (holds s)
      → Flat types order octets room moved (OfUnion t arms) p h → Flat types order octets room None s (past p j) h
  held_of at is (flat_number e x) = absurd cc
  held_of {j = j} {t = t} {s = s} {arms = arms} {tag = tag} at is (flat_empty_arm {j = k} {tag = other} x e) =
      let same : ◌≡◌ {A = ℤ × ℕ} (other, k) (tag, j) = ok_is Departure (other, k) (tag, j) (sym (tag_again order octets arms x) ∙ tag_again order octets arms at) in
      absurd (not_empty s (sym e ∙ ap (λ (y : ℤ × ℕ). arm_of (OfUnion t arms) y.0) same ∙ is))
  held_of {room} {j} {t = t} {s = s} {arms = arms} {tag = tag} {p = p} {h = h} at is (flat_arm {j = k} {s = u} {tag = other} x e f) =
      let same : ◌≡◌ {A = ℤ × ℕ} (other, k) (tag, j) = ok_is Departure (other, k) (tag, j) (sym (tag_again order octets arms x) ∙ tag_again order octets arms at) in
      let form = same_held u s (sym e ∙ ap (λ (y : ℤ × ℕ). arm_of (OfUnion t arms) y.0) same ∙ is) in
      subst (λ (y : ℤ × ℕ). Flat types order octets room None s (past p y.1) h) same (subst (λ (z : Form). Flat types order octets room None z (past p k) h) form f)

  id_kept : {room id j : ℕ} {moved : Option ℕ} {s : Form} {p h : Place} → Scalar order octets 4 (suc id) p.at j → look p.met (suc id) ≡ None → Flat types order octets room moved (OfFull s) p h → Ext (p.met ++ (suc id, s) ∷ []) h.met
  id_kept at is (flat_number e x) = absurd cc
  id_kept {id = id} {j = j} at is (flat_null_full {j = k} x) =
      let same : ◌≡◌ {A = ℕ × ℕ} (0, k) (suc id, j) = ok_is Departure (0, k) (suc id, j) (sym (number_again order octets x) ∙ number_again order octets at) in
      absurd (let e = ap (λ (y : ℕ × ℕ). y.0) same in omega (arith, e))
  id_kept {id = id} {j = j} {s = s} {p = p} at is (flat_new {id = other} {j = k} x e) =
      let same : ◌≡◌ {A = ℕ × ℕ} (suc other, k) (suc id, j) = ok_is Departure (suc other, k) (suc id, j) (sym (number_again order octets x) ∙ number_again order octets at) in
      subst (λ (y : ℕ × ℕ). Ext (p.met ++ (y.0, s) ∷ []) (p.met ++ (suc other, s) ∷ [])) same (ext_self (p.met ++ (suc other, s) ∷ []))
  id_kept {id = id} {j = j} {p = p} at is (flat_repeat {id = other} {j = k} x e alike) =
      let same : ◌≡◌ {A = ℕ × ℕ} (suc other, k) (suc id, j) = ok_is Departure (suc other, k) (suc id, j) (sym (number_again order octets x) ∙ number_again order octets at) in
      absurd (let f = sym e ∙ ap (λ (y : ℕ × ℕ). look p.met y.0) same ∙ is in cc)

  -- ---- what departs behind it is told

  module _ (clear : AllClear types) (deep : ℕ) (grounded : Grounded types deep) where
    less : (r n d : ℕ) → suc r * (deep + 1) + suc d ≤ suc n → r * (deep + 1) + deep ≤ n
    less r n d le = omega (arith, suc-mul r (deep + 1))

    wide : (r n d : ℕ) → r * (deep + 1) + d ≤ n → d ≤ n
    wide r n d le = omega (arith, le)

    mutual
      unfolding scan build

      pub whole_told : {room : ℕ} {s : Form} {q : Last} {x : Departure} (n : ℕ) → WholeAmiss types order octets room s q x → Shallow types deep s → Targets types deep s → Clear types s → room * (deep + 1) + deep ≤ n
          → whole types order octets n room s q ≡ Err x
      whole_told {room} n (in_flat_part {s = s} {q = q} {d = x} a) sh tg cl le =
          stopped (scan types order octets n room None s q.here) (λ h. build types order octets n room None s (cursor q.here) (onto h q) >>= λ y. Ok (y.0, y.1.all)) x
          (amiss_scans types order octets clear deep n a sh cl (wide room n deep le))
      whole_told {room} n (in_referents {s = s} {q = q} {h = h} {d = x} f b) sh tg cl le =
          through (scan types order octets n room None s q.here) (λ h. build types order octets n room None s (cursor q.here) (onto h q) >>= λ y. Ok (y.0, y.1.all)) h (flat_scans types order octets deep n f sh (wide room n deep le))
          ∙ stopped (build types order octets n room None s (cursor q.here) (onto h q)) (λ y. Ok (y.0, y.1.all)) x (behind_told deep n b f (ext_self h.met) sh tg cl le)

      behind_told : {room : ℕ} {moved : Option ℕ} {s : Form} {p h : Place} {q : Last} {x : Departure} (d n : ℕ) → Behind types order octets room moved s p q x → Flat types order octets room moved s p h → Ext h.met q.here.met
          → Shallow types d s → Targets types deep s → Clear types s → room * (deep + 1) + d ≤ n → build types order octets n room moved s (cursor p) q ≡ Err x
      behind_told zero n b f ext sh tg cl le = absurd sh
      behind_told (suc d) zero b f ext sh tg cl le = absurd (omega (arith, le))
      behind_told (suc d) (suc n) (behind_name {room = room} {c = c} {moved = moved} {s = s} {p = p} {q = q} is b) f ext sh tg cl le =
          ap (λ (o : Option Form). of_type o p.at (λ t. build types order octets n room moved t (cursor p) q)) is
          ∙ behind_told d n b (type_of is f) ext (type_has types (Shallow types d) c s sh is) (grounded c s is) (clear c s is) (omega (arith, le))
      behind_told (suc d) (suc n) (behind_structure {room = room} {i = i} {moved = moved} {own = own} {ss = ss} {p = p} {q = q} {d = x} b bs) f ext sh tg cl le =
          through (struct_at order octets types ss moved p.at) (λ x. in_struct (built_each (build types order octets n room) x.0 ss (ahead (cursor p) x.1) (noting (opened_marks moved x.0 p.at) q))) (own, i) (begins_again order octets b)
          ∙ stopped (built_each (build types order octets n room) own ss (cursor (past p i)) (noting (opened_marks moved own p.at) q)) (λ y. Ok (VStruct y.0, y.1)) x (members_told d n bs (members_of b f) ext sh tg cl (omega (arith, le)))
      behind_told (suc d) (suc n) (behind_arm {room = room} {j = j} {t = t} {s = s} {arms = arms} {tag = tag} {p = p} {q = q} {d = x} at is b) f ext sh tg cl le =
          let u = OfUnion t arms in
          let place = up (in_place types u p.at) (tag_size t) in
          let marked = noting (tag_marks types t u tag p.at) q in
          through (tag_at order octets t arms (in_place types u p.at)) (λ x. built_arm (arm_of u x.0) place x.0 (ahead (cursor p) x.1) (noting (tag_marks types t u x.0 p.at) q) (build types order octets n room None)) (tag, j) (tag_again order octets arms at)
          ∙ ap (λ (o : Option Body). built_arm o place tag (cursor (past p j)) marked (build types order octets n room None)) is
          ∙ stopped (build types order octets n room None s (cursor (past p j)) marked) (λ y. Ok (VUnion tag y.0, y.1)) x
          (behind_told d n b (held_of at is f) ext (arm_has (Shallow types d) s t arms tag is sh) (arm_has (Targets types deep) s t arms tag is (each_arm types deep arms tg)) (arm_clear types s t arms tag is cl.1) (omega (arith, le)))
      behind_told (suc d) (suc n) (behind_array {room = room} {i = i} {moved = moved} {kind = kind} {counts = c} {s = s} {p = p} {q = q} {d = x} at bs) f ext sh tg cl le =
          through (array_at order octets kind moved p.at) (λ x. in_array (built_times (build types order octets n room None s) x.0.actual (ahead (cursor p) x.1) (noting (count_marks kind moved x.0 p.at x.1) q))) (c, i) (array_again order octets at)
          ∙ stopped (built_times (build types order octets n room None s) c.actual (cursor (past p i)) (noting (count_marks kind moved c p.at i) q)) (λ y. Ok (VArray y.0, y.1)) x (elements_told d n bs (elements_of at f) ext sh tg cl (omega (arith, le)))
      behind_told (suc d) (suc n) (ref_behind {room = r} {n = k} {j = j} {s = s} {p = p} {q = q} {d = x} at w) f ext sh tg cl le =
          through (number order octets 4 p.at) (λ y. behind_ref (ahead (cursor p) y.1) (referent (scan types order octets n) (build types order octets n) (suc r) (up p.at 4) s q)) (k, j) (number_again order octets at)
          ∙ ap (λ (g : Found). behind_ref (cursor (past p j)) g) (whole_told n w tg.0 tg.1 cl (less r n d le))
      behind_told (suc d) (suc n) (unique_behind {room = r} {id = id} {j = j} {s = s} {p = p} {q = q} {d = x} at w) f ext sh tg cl le =
          through (number order octets 4 p.at) (λ y. behind_unique y.0 (ahead (cursor p) y.1) q (referent (scan types order octets n) (build types order octets n) (suc r) (up p.at 4) s q)) (suc id, j) (number_again order octets at)
          ∙ ap (λ (g : Found). behind_unique (suc id) (cursor (past p j)) q g) (whole_told n w tg.0 tg.1 cl (less r n d le))
      behind_told {h = h} (suc d) (suc n) (full_behind {room = r} {id = id} {j = j} {s = s} {p = p} {q = q} {d = x} at is w) f ext sh tg cl le =
          let found = referent (scan types order octets n) (build types order octets n) (suc r) (up p.at 4) s (noting (Referent true ∷ []) q) in
          let ids = p.met ++ (suc id, s) ∷ [] in
          through (number order octets 4 p.at) (λ y. behind_full y.0 (up p.at 4) (ahead (cursor p) y.1) q found) (suc id, j) (number_again order octets at)
          ∙ new_built (up p.at 4) (length p.met) s (cursor (past p j)) q found (look q.here.met (suc id)) (new_found p q (suc id) s is (ext_then ids h.met q.here.met (id_kept at is f) ext)) refl
          ∙ ap (λ (g : Found). behind_known (length p.met) true (cursor (past p j)) q g) (whole_told n w tg.0 tg.1 cl (less r n d le))

      members_told : {room : ℕ} {own : Option ℕ} {ss : Forms} {p h : Place} {q : Last} {x : Departure} (d n : ℕ) → BehindMembers types order octets room own ss p q x → FlatMembers types order octets room own ss p h → Ext h.met q.here.met
          → EachForm (Shallow types d) ss → EachTarget types deep ss → EachClear types ss → room * (deep + 1) + d ≤ n → built_each (build types order octets n room) own ss (cursor p) q ≡ Err x
      members_told {h = e} d n (behind_this_member {room = room} {own = own} {s = s} {ss = ss} {p = p} {q = q} {d = x} b) (flat_member_then {h = h} f fs) ext sh tg cl le =
          stopped (build types order octets n room (for_last ss own) s (cursor p) q) (λ y. built_each (build types order octets n room) own ss y.1.flat y.1.all >>= λ z. Ok (then_val y.0 z.0, z.1)) x
          (behind_told d n b f (ext_then h.met e.met q.here.met (members_grow fs) ext) sh.0 tg.0 cl.0 le)
      members_told {h = e} d n (behind_later_member {room = room} {own = own} {s = s} {v = v} {ss = ss} {p = p} {h = k} {q = q} {g = g} {d = x} part b) (flat_member_then {h = h} f fs) ext sh tg cl le =
          let same = one_flat d sh.0 f (part_flat part) in
          let rest = subst (λ (z : Place). FlatMembers types order octets room own ss z e) same fs in
          through (build types order octets n room (for_last ss own) s (cursor p) q) (λ y. built_each (build types order octets n room) own ss y.1.flat y.1.all >>= λ z. Ok (then_val y.0 z.0, z.1)) (v, ends (cursor k) g)
          (part_built types order octets deep grounded d n part (ext_then k.met e.met q.here.met (members_grow rest) ext) sh.0 tg.0 le).1
          ∙ stopped (built_each (build types order octets n room) own ss (cursor k) g) (λ z. Ok (then_val v z.0, z.1)) x
          (members_told d n b rest (ext_then e.met q.here.met g.here.met ext (part_grows types order octets part).1) sh.1 tg.1 cl.1 le)

      elements_told : {room c : ℕ} {s : Form} {p h : Place} {q : Last} {x : Departure} (d n : ℕ) → BehindElements types order octets room c s p q x → FlatElements types order octets room c s p h → Ext h.met q.here.met
          → Shallow types d s → Targets types deep s → Clear types s → room * (deep + 1) + d ≤ n → built_times (build types order octets n room None s) c (cursor p) q ≡ Err x
      elements_told {h = e} d n (behind_this_element {room = room} {n = c} {s = s} {p = p} {q = q} {d = x} b) (flat_element_then {h = h} f fs) ext sh tg cl le =
          stopped (build types order octets n room None s (cursor p) q) (λ y. built_times (build types order octets n room None s) c y.1.flat y.1.all >>= λ z. Ok (then_val y.0 z.0, z.1)) x
          (behind_told d n b f (ext_then h.met e.met q.here.met (elements_grow fs) ext) sh tg cl le)
      elements_told {h = e} d n (behind_later_element {room = room} {n = c} {s = s} {v = v} {p = p} {h = k} {q = q} {g = g} {d = x} part b) (flat_element_then {h = h} f fs) ext sh tg cl le =
          let same = one_flat d sh f (part_flat part) in
          let rest = subst (λ (z : Place). FlatElements types order octets room c s z e) same fs in
          through (build types order octets n room None s (cursor p) q) (λ y. built_times (build types order octets n room None s) c y.1.flat y.1.all >>= λ z. Ok (then_val y.0 z.0, z.1)) (v, ends (cursor k) g)
          (part_built types order octets deep grounded d n part (ext_then k.met e.met q.here.met (elements_grow rest) ext) sh tg le).1
          ∙ stopped (built_times (build types order octets n room None s) c (cursor k) g) (λ z. Ok (then_val v z.0, z.1)) x
          (elements_told d n b rest (ext_then e.met q.here.met g.here.met ext (part_grows types order octets part).1) sh tg cl le)
