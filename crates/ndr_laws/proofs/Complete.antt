-- What stands in the octets is built.
use Rattle.std.proofs.Common.{◌≡◌, ℕ, zero, suc, ◌+◌, ◌*◌, ◌≤◌, Bool, true, false, List, [], ◌∷◌, ◌++◌, length, length-append, Option, Some, None, Result, Ok, refl, sym, ap, ◌∙◌, arith, suc-mul}
use Rattle.std.specs.Prelude.{◌==◌, not}
use Rattle.rpc_base.specs.declared.identifiers.Order.{Order}
use Rattle.rpc_base.specs.declared.identifiers.WireHandle.{WireHandle}
use Rattle.ndr_value.specs.Forms.{Form, OfUnion, Forms, Body}
use Rattle.ndr_value.specs.Fits.{arm_of}
use Rattle.ndr_value.specs.Values.{Val, VBool, VByte, VChar, VInt, VUint, VEnum, VStruct, VUnion, VArray, VText, VFull, VHandle, Vals, then_val}
use Rattle.ndr_scalars.specs.Scalars.{up, signed}
use Rattle.ndr_arrays.specs.Bind.{◌>>=◌}
use Rattle.ndr_arrays.proofs.Steps.{through}
use Rattle.ndr_model.specs.declared.departure.Departure.{Departure}
use Rattle.ndr_model.specs.declared.mark.Mark.TheVariants.{Referent}
use Rattle.ndr_model.specs.Same.{same}
use Rattle.ndr_model.specs.Places.{Place, past, Last, onto, noting, keeping, look}
use Rattle.ndr_model.specs.Part.{Part, a_bool, a_byte, a_char, an_int, a_uint, an_enum, a_handle, a_text, a_name, a_struct, an_empty_arm, an_arm, an_array, a_ref, a_null, a_unique, a_null_full, a_new, a_repeat, Parts, no_part, then_part, Items, no_item, then_item, Whole, for_last, in_place, tag_size, opened_marks, count_marks, tag_marks}
use Rattle.ndr_model.specs.Reading.{number, name_at, wire_at, chars_at, array_at, tag_at, struct_at}
use Rattle.ndr_model.specs.Scan.{Scanned, level, unique_by, full_scan, full_by, of_type, arm_scan, each, times, scan}
use Rattle.ndr_model.specs.Build.{Cursor, ahead, cursor, ends, Built, Found, referent, behind_ref, behind_unique, behind_known, behind_met, behind_full, built_each, built_times, in_struct, in_array, built_arm, build, whole}
use Rattle.ndr_model.proofs.Alike.{same_of}
use Rattle.ndr_model.proofs.Mets.{Mets, Ext, ext_self, ext_then, eq_self, less_not, found_on, found_last, found_less}
use Rattle.ndr_laws.proofs.Grounded.{EachForm, Shallow, Targets, EachTarget, Grounded, each_arm, type_has, arm_has}
use Rattle.ndr_laws.proofs.Again.{number_again, name_again, wire_again, array_again, chars_again, tag_again, begins_again}
use Rattle.ndr_laws.proofs.Grows.{part_grows, parts_grow, items_grow}

abbrev flat_end : {A : Type 0} → Place → A × ℕ → Scanned
flat_end p y = Ok (past p y.1)

abbrev shown_at : {A : Type 0} → (A × ℕ → Val) → Place → Last → A × ℕ → Built
shown_at shown p q y = Ok (shown y, ends (ahead (cursor p) y.1) q)

-- a piece without referents, where it is read
leaf : {A : Type 0} (r : Result (A × ℕ) Departure) (shown : A × ℕ → Val) (p : Place) (q : Last) (x : A × ℕ) → r ≡ Ok x
    → ((r >>= λ y. flat_end p y) ≡ Ok (past p x.1)) × ((r >>= λ y. shown_at shown p q y) ≡ Ok (shown x, ends (cursor (past p x.1)) q))
leaf r shown p q x e = (through r (λ y. flat_end p y) x e, through r (λ y. shown_at shown p q y) x e)

abbrev with_id : Place → ℕ → ℕ → Form → Place
with_id p j id s = record { at = j; met = p.met ++ (id, s) ∷ []; wires = p.wires }

abbrev one_id_more : Place → ℕ → Cursor
one_id_more p j = record { at = j; ids = suc (length p.met); handles = length p.wires }

abbrev with_wire : Place → WireHandle × ℕ → Place
with_wire p x = record { at = x.1; met = p.met; wires = p.wires ++ x.0 ∷ [] }

abbrev one_handle_more : Place → ℕ → Cursor
one_handle_more p j = record { at = j; ids = length p.met; handles = suc (length p.wires) }

-- an id that wasn't met is that of the next number
new_found : (p : Place) (q : Last) (id : ℕ) (s : Form) → look p.met id ≡ None → Ext (p.met ++ (id, s) ∷ []) q.here.met → look q.here.met id ≡ Some (length p.met, s)
new_found p q id s is ext =
    ap (λ (ms : Mets). look ms id) ext.1 ∙ found_on 0 (p.met ++ (id, s) ∷ []) ext.0 id (length p.met, s) (found_last 0 p.met id s is ∙ ap (λ (k : ℕ). Some (k, s)) (let z : 0 + length p.met ≡ length p.met = omega arith in z))

met_found : (p : Place) (q : Last) (id n : ℕ) (t : Form) → look p.met id ≡ Some (n, t) → Ext p.met q.here.met → look q.here.met id ≡ Some (n, t)
met_found p q id n t is ext = ap (λ (ms : Mets). look ms id) ext.1 ∙ found_on 0 p.met ext.0 id (n, t) is

met_before : (p : Place) (id n : ℕ) (t : Form) → look p.met id ≡ Some (n, t) → (n == length p.met) ≡ false
met_before p id n t is = less_not n (length p.met) (let k = found_less 0 p.met id (n, t) is in omega (arith, k))

-- how a full pointer is built, by what is known of its id
new_built : (i n : ℕ) (s : Form) (a : Cursor) (q : Last) (found : Found) (o : Option (ℕ × Form)) → o ≡ Some (n, s) → n ≡ a.ids → behind_met i o a q found ≡ behind_known n true a q found
new_built i n s a q found o e same = ap (λ (x : Option (ℕ × Form)). behind_met i x a q found) e ∙ ap (λ (b : Bool). behind_known n b a q found) (ap (λ (k : ℕ). n == k) (sym same) ∙ eq_self n)

old_built : (i n : ℕ) (t : Form) (a : Cursor) (q : Last) (found : Found) (o : Option (ℕ × Form)) → o ≡ Some (n, t) → (n == a.ids) ≡ false → behind_met i o a q found ≡ behind_known n false a q found
old_built i n t a q found o e other = ap (λ (x : Option (ℕ × Form)). behind_met i x a q found) e ∙ ap (λ (b : Bool). behind_known n b a q found) other

met_scanned : (room id : ℕ) (s : Form) (m : ℕ × Form) (p : Place) (j : ℕ) (o : Option (ℕ × Form)) → o ≡ Some m → same m.1 s ≡ true → full_scan room id s o p j ≡ Ok (past p j)
met_scanned room id s m p j o e alike = rw (e, alike) refl

module _ (types : List Form) (order : Order) (octets : List ℕ) (deep : ℕ) (grounded : Grounded types deep) where
  abbrev Gone : ℕ → ℕ → Option ℕ → Form → Val → Place → Place → Last → Last → Type 0
  Gone n room moved s v p p' q q' = (scan types order octets n room moved s p ≡ Ok p') × (build types order octets n room moved s (cursor p) q ≡ Ok (v, ends (cursor p') q'))

  abbrev Many : ℕ → ℕ → Option ℕ → Forms → Vals → Place → Place → Last → Last → Type 0
  Many n room own ss vs p p' q q' = (each (scan types order octets n room) own ss p ≡ Ok p') × (built_each (build types order octets n room) own ss (cursor p) q ≡ Ok (vs, ends (cursor p') q'))

  abbrev Counted : ℕ → ℕ → ℕ → Form → Vals → Place → Place → Last → Last → Type 0
  Counted n room c s vs p p' q q' = (times (scan types order octets n room None s) c p ≡ Ok p') × (built_times (build types order octets n room None s) c (cursor p) q ≡ Ok (vs, ends (cursor p') q'))

  -- a referent is found, where its parts are
  refers : (n r place : ℕ) (s : Form) (v : Val) (q q' : Last) (h : Place) → Gone n r None s v q.here h (onto h q) q' → referent (scan types order octets n) (build types order octets n) (suc r) place s q ≡ Ok (v, q')
  refers n r place s v q q' h g =
      through (scan types order octets n r None s q.here) (λ x. build types order octets n r None s (cursor q.here) (onto x q) >>= λ y. Ok (y.0, y.1.all)) h g.0
      ∙ through (build types order octets n r None s (cursor q.here) (onto h q)) (λ y. Ok (y.0, y.1.all)) (v, ends (cursor h) q') g.1

  less : (r n d : ℕ) → suc r * (deep + 1) + suc d ≤ suc n → r * (deep + 1) + deep ≤ n
  less r n d le = omega (arith, suc-mul r (deep + 1))

  new_gone : (n r place id j : ℕ) (s : Form) (v : Val) (p h : Place) (q q' : Last) → look p.met (suc id) ≡ None → Ext (p.met ++ (suc id, s) ∷ []) q.here.met
      → Gone n r None s v q.here h (onto h (noting (Referent true ∷ []) q)) q'
      → (full_by (suc id) (suc r) s p j ≡ Ok (with_id p j (suc id) s))
      × (behind_full (suc id) place (cursor (past p j)) q (referent (scan types order octets n) (build types order octets n) (suc r) place s (noting (Referent true ∷ []) q)) ≡ Ok (VFull (Some (length p.met)), ends (cursor (with_id p j (suc id) s)) (keeping (length p.met) v q')))
  new_gone n r place id j s v p h q q' is ext g =
      let found = referent (scan types order octets n) (build types order octets n) (suc r) place s (noting (Referent true ∷ []) q) in
      let count : suc (length p.met) ≡ length (p.met ++ (suc id, s) ∷ []) = omega (arith, length-append p.met ((suc id, s) ∷ [])) in (
        ap (λ (o : Option (ℕ × Form)). full_scan (suc r) (suc id) s o p j) is,
        new_built place (length p.met) s (cursor (past p j)) q found (look q.here.met (suc id)) (new_found p q (suc id) s is ext) refl
            ∙ through found (λ x. Ok (VFull (Some (length p.met)), ends (one_id_more p j) (keeping (length p.met) x.0 x.1))) (v, q') (refers n r place s v (noting (Referent true ∷ []) q) q' h g)
            ∙ ap (λ (k : ℕ). Ok (VFull (Some (length p.met)), ends (record { at = j; ids = k; handles = length p.wires }) (keeping (length p.met) v q'))) count,
      )

  mutual
    unfolding scan build

    pub part_built : {room : ℕ} {moved : Option ℕ} {s : Form} {v : Val} {p p' : Place} {q q' : Last} (d n : ℕ) → Part types order octets room moved s v p p' q q' → Ext p'.met q.here.met
        → Shallow types d s → Targets types deep s → room * (deep + 1) + d ≤ n → Gone n room moved s v p p' q q'
    part_built zero n part ext sh tg le = absurd sh
    part_built (suc d) zero part ext sh tg le = absurd (omega (arith, le))
    part_built (suc d) (suc n) (a_bool {n = x} {j = j} {p = p} {q = q} at) ext sh tg le = leaf (number order octets 1 p.at) (λ y. VBool (not (y.0 == 0))) p q (x, j) (number_again order octets at)
    part_built (suc d) (suc n) (a_byte {n = x} {j = j} {p = p} {q = q} at) ext sh tg le = leaf (number order octets 1 p.at) (λ y. VByte y.0) p q (x, j) (number_again order octets at)
    part_built (suc d) (suc n) (a_char {n = x} {j = j} {p = p} {q = q} at) ext sh tg le = leaf (number order octets 1 p.at) (λ y. VChar y.0) p q (x, j) (number_again order octets at)
    part_built (suc d) (suc n) (an_int {size = size} {n = x} {j = j} {p = p} {q = q} at) ext sh tg le = leaf (number order octets size p.at) (λ y. VInt (signed size y.0)) p q (x, j) (number_again order octets at)
    part_built (suc d) (suc n) (a_uint {size = size} {n = x} {j = j} {p = p} {q = q} at) ext sh tg le = leaf (number order octets size p.at) (λ y. VUint y.0) p q (x, j) (number_again order octets at)
    part_built (suc d) (suc n) (an_enum {count = count} {n = x} {j = j} {p = p} {q = q} at lt) ext sh tg le = leaf (name_at order octets count p.at) (λ y. VEnum y.0) p q (x, j) (name_again order octets at lt)
    part_built (suc d) (suc n) (a_text {j = j} {moved = moved} {size = size} {text = text} {p = p} {q = q} at) ext sh tg le = leaf (chars_at order octets size moved p.at) (λ y. VText y.0) p q (text, j) (chars_again order octets at)
    part_built (suc d) (suc n) (a_handle {j = j} {w = w} {p = p} {q = q} at) ext sh tg le =
        let e = wire_again order octets at in
        let count : suc (length p.wires) ≡ length (p.wires ++ w ∷ []) = omega (arith, length-append p.wires (w ∷ [])) in (
          through (wire_at order octets p.at) (λ x. Ok (with_wire p x)) (w, j) e,
          through (wire_at order octets p.at) (λ x. Ok (VHandle (length p.wires), ends (one_handle_more p x.1) q)) (w, j) e
              ∙ ap (λ (k : ℕ). Ok (VHandle (length p.wires), ends (record { at = j; ids = length p.met; handles = k }) q)) count,
        )
    part_built (suc d) (suc n) (a_name {room = room} {c = c} {moved = moved} {s = s} {p = p} {q = q} is part) ext sh tg le =
        let g = part_built d n part ext (type_has types (Shallow types d) c s sh is) (grounded c s is) (omega (arith, le)) in (
          ap (λ (o : Option Form). of_type o p.at (λ t. scan types order octets n room moved t p)) is ∙ g.0,
          ap (λ (o : Option Form). of_type o p.at (λ t. build types order octets n room moved t (cursor p) q)) is ∙ g.1,
        )
    part_built (suc d) (suc n) (a_struct {room = room} {i = i} {moved = moved} {own = own} {ss = ss} {vs = vs} {p = p} {p' = p'} {q = q} {q' = q'} b ps) ext sh tg le =
        let e = begins_again order octets b in
        let g = parts_built d n ps ext sh tg (omega (arith, le)) in (
          through (struct_at order octets types ss moved p.at) (λ x. each (scan types order octets n room) x.0 ss (past p x.1)) (own, i) e ∙ g.0,
          through (struct_at order octets types ss moved p.at) (λ x. in_struct (built_each (build types order octets n room) x.0 ss (ahead (cursor p) x.1) (noting (opened_marks moved x.0 p.at) q))) (own, i) e
              ∙ through (built_each (build types order octets n room) own ss (cursor (past p i)) (noting (opened_marks moved own p.at) q)) (λ x. Ok (VStruct x.0, x.1)) (vs, ends (cursor p') q') g.1,
        )
    part_built (suc d) (suc n) (an_empty_arm {room = room} {j = j} {moved = moved} {t = t} {arms = arms} {tag = tag} {p = p} {q = q} at is) ext sh tg le =
        let e = tag_again order octets arms at in
        let u = OfUnion t arms in
        let place = up (in_place types u p.at) (tag_size t) in
        let marked = noting (tag_marks types t u tag p.at) q in (
          through (tag_at order octets t arms (in_place types u p.at)) (λ x. arm_scan (arm_of u x.0) place (past p x.1) (scan types order octets n room None)) (tag, j) e
              ∙ ap (λ (o : Option Body). arm_scan o place (past p j) (scan types order octets n room None)) is,
          through (tag_at order octets t arms (in_place types u p.at)) (λ x. built_arm (arm_of u x.0) place x.0 (ahead (cursor p) x.1) (noting (tag_marks types t u x.0 p.at) q) (build types order octets n room None)) (tag, j) e
              ∙ ap (λ (o : Option Body). built_arm o place tag (cursor (past p j)) marked (build types order octets n room None)) is,
        )
    part_built (suc d) (suc n) (an_arm {room = room} {j = j} {moved = moved} {t = t} {s = s} {arms = arms} {tag = tag} {v = v} {p = p} {p' = p'} {q = q} {q' = q'} at is part) ext sh tg le =
        let e = tag_again order octets arms at in
        let u = OfUnion t arms in
        let place = up (in_place types u p.at) (tag_size t) in
        let marked = noting (tag_marks types t u tag p.at) q in
        let g = part_built d n part ext (arm_has (Shallow types d) s t arms tag is sh) (arm_has (Targets types deep) s t arms tag is (each_arm types deep arms tg)) (omega (arith, le)) in (
          through (tag_at order octets t arms (in_place types u p.at)) (λ x. arm_scan (arm_of u x.0) place (past p x.1) (scan types order octets n room None)) (tag, j) e
              ∙ ap (λ (o : Option Body). arm_scan o place (past p j) (scan types order octets n room None)) is ∙ g.0,
          through (tag_at order octets t arms (in_place types u p.at)) (λ x. built_arm (arm_of u x.0) place x.0 (ahead (cursor p) x.1) (noting (tag_marks types t u x.0 p.at) q) (build types order octets n room None)) (tag, j) e
              ∙ ap (λ (o : Option Body). built_arm o place tag (cursor (past p j)) marked (build types order octets n room None)) is
              ∙ through (build types order octets n room None s (cursor (past p j)) marked) (λ x. Ok (VUnion tag x.0, x.1)) (v, ends (cursor p') q') g.1,
        )
    part_built (suc d) (suc n) (an_array {room = room} {i = i} {moved = moved} {kind = kind} {counts = c} {s = s} {vs = vs} {p = p} {p' = p'} {q = q} {q' = q'} at ps) ext sh tg le =
        let e = array_again order octets at in
        let g = items_built d n ps ext sh tg (omega (arith, le)) in (
          through (array_at order octets kind moved p.at) (λ x. times (scan types order octets n room None s) x.0.actual (past p x.1)) (c, i) e ∙ g.0,
          through (array_at order octets kind moved p.at) (λ x. in_array (built_times (build types order octets n room None s) x.0.actual (ahead (cursor p) x.1) (noting (count_marks kind moved x.0 p.at x.1) q))) (c, i) e
              ∙ through (built_times (build types order octets n room None s) c.actual (cursor (past p i)) (noting (count_marks kind moved c p.at i) q)) (λ x. Ok (VArray x.0, x.1)) (vs, ends (cursor p') q') g.1,
        )
    part_built (suc d) (suc n) (a_ref {room = r} {n = x} {j = j} {s = s} {v = v} {p = p} {h = h} {q = q} {q' = q'} at part) ext sh tg le =
        let e = number_again order octets at in
        let g = refers n r (up p.at 4) s v q q' h (part_built deep n part (ext_self h.met) tg.0 tg.1 (less r n d le)) in (
          through (number order octets 4 p.at) (λ y. level (suc r) (up p.at 4) (Ok (past p y.1))) (x, j) e,
          through (number order octets 4 p.at) (λ y. behind_ref (ahead (cursor p) y.1) (referent (scan types order octets n) (build types order octets n) (suc r) (up p.at 4) s q)) (x, j) e
              ∙ ap (λ (f : Found). behind_ref (cursor (past p j)) f) g,
        )
    part_built (suc d) (suc n) (a_null {room = room} {j = j} {s = s} {p = p} {q = q} at) ext sh tg le =
        let e = number_again order octets at in (
          through (number order octets 4 p.at) (λ y. unique_by y.0 room p y.1) (0, j) e,
          through (number order octets 4 p.at) (λ y. behind_unique y.0 (ahead (cursor p) y.1) q (referent (scan types order octets n) (build types order octets n) room (up p.at 4) s q)) (0, j) e,
        )
    part_built (suc d) (suc n) (a_unique {room = r} {id = id} {j = j} {s = s} {v = v} {p = p} {h = h} {q = q} {q' = q'} at part) ext sh tg le =
        let e = number_again order octets at in
        let g = refers n r (up p.at 4) s v q q' h (part_built deep n part (ext_self h.met) tg.0 tg.1 (less r n d le)) in (
          through (number order octets 4 p.at) (λ y. unique_by y.0 (suc r) p y.1) (suc id, j) e,
          through (number order octets 4 p.at) (λ y. behind_unique y.0 (ahead (cursor p) y.1) q (referent (scan types order octets n) (build types order octets n) (suc r) (up p.at 4) s q)) (suc id, j) e
              ∙ ap (λ (f : Found). behind_unique (suc id) (cursor (past p j)) q f) g,
        )
    part_built (suc d) (suc n) (a_null_full {room = room} {j = j} {s = s} {p = p} {q = q} at) ext sh tg le =
        let e = number_again order octets at in (
          through (number order octets 4 p.at) (λ y. full_by y.0 room s p y.1) (0, j) e,
          through (number order octets 4 p.at) (λ y. behind_full y.0 (up p.at 4) (ahead (cursor p) y.1) q (referent (scan types order octets n) (build types order octets n) room (up p.at 4) s (noting (Referent true ∷ []) q))) (0, j) e,
        )
    part_built (suc d) (suc n) (a_new {room = r} {id = id} {j = j} {s = s} {v = v} {p = p} {h = h} {q = q} {q' = q'} at is part) ext sh tg le =
        let e = number_again order octets at in
        let g = new_gone n r (up p.at 4) id j s v p h q q' is ext (part_built deep n part (ext_self h.met) tg.0 tg.1 (less r n d le)) in (
          through (number order octets 4 p.at) (λ y. full_by y.0 (suc r) s p y.1) (suc id, j) e ∙ g.0,
          through (number order octets 4 p.at) (λ y. behind_full y.0 (up p.at 4) (ahead (cursor p) y.1) q (referent (scan types order octets n) (build types order octets n) (suc r) (up p.at 4) s (noting (Referent true ∷ []) q))) (suc id, j) e ∙ g.1,
        )
    part_built (suc d) (suc n) (a_repeat {room = room} {id = id} {j = j} {n = k} {s = s} {t = t} {p = p} {q = q} at is alike) ext sh tg le =
        let e = number_again order octets at in
        let found = referent (scan types order octets n) (build types order octets n) room (up p.at 4) s (noting (Referent true ∷ []) q) in (
          through (number order octets 4 p.at) (λ y. full_by y.0 room s p y.1) (suc id, j) e ∙ met_scanned room (suc id) s (k, t) p j (look p.met (suc id)) is (same_of t s alike),
          through (number order octets 4 p.at) (λ y. behind_full y.0 (up p.at 4) (ahead (cursor p) y.1) q found) (suc id, j) e
              ∙ old_built (up p.at 4) k t (cursor (past p j)) q found (look q.here.met (suc id)) (met_found p q (suc id) k t is ext) (met_before p (suc id) k t is),
        )

    pub parts_built : {room : ℕ} {own : Option ℕ} {ss : Forms} {vs : Vals} {p p' : Place} {q q' : Last} (d n : ℕ) → Parts types order octets room own ss vs p p' q q' → Ext p'.met q.here.met
        → EachForm (Shallow types d) ss → EachTarget types deep ss → room * (deep + 1) + d ≤ n → Many n room own ss vs p p' q q'
    parts_built d n no_part ext sh tg le = (refl, refl)
    parts_built d n (then_part {room = room} {moved = own} {s = s} {v = v} {ss = ss} {vs = vs} {p = p} {h = h} {p' = p'} {q = q} {g = b} {q' = q'} part ps) ext sh tg le =
        let f = part_built d n part (ext_then h.met p'.met q.here.met (parts_grow types order octets ps).0 ext) sh.0 tg.0 le in
        let g = parts_built d n ps (ext_then p'.met q.here.met b.here.met ext (part_grows types order octets part).1) sh.1 tg.1 le in (
          through (scan types order octets n room (for_last ss own) s p) (λ x. each (scan types order octets n room) own ss x) h f.0 ∙ g.0,
          through (build types order octets n room (for_last ss own) s (cursor p) q) (λ x. built_each (build types order octets n room) own ss x.1.flat x.1.all >>= λ z. Ok (then_val x.0 z.0, z.1)) (v, ends (cursor h) b) f.1
              ∙ through (built_each (build types order octets n room) own ss (cursor h) b) (λ z. Ok (then_val v z.0, z.1)) (vs, ends (cursor p') q') g.1,
        )

    pub items_built : {room c : ℕ} {s : Form} {vs : Vals} {p p' : Place} {q q' : Last} (d n : ℕ) → Items types order octets room c s vs p p' q q' → Ext p'.met q.here.met
        → Shallow types d s → Targets types deep s → room * (deep + 1) + d ≤ n → Counted n room c s vs p p' q q'
    items_built d n no_item ext sh tg le = (refl, refl)
    items_built d n (then_item {room = room} {n = c} {s = s} {v = v} {vs = vs} {p = p} {h = h} {p' = p'} {q = q} {g = b} {q' = q'} part ps) ext sh tg le =
        let f = part_built d n part (ext_then h.met p'.met q.here.met (items_grow types order octets ps).0 ext) sh tg le in
        let g = items_built d n ps (ext_then p'.met q.here.met b.here.met ext (part_grows types order octets part).1) sh tg le in (
          through (scan types order octets n room None s p) (λ x. times (scan types order octets n room None s) c x) h f.0 ∙ g.0,
          through (build types order octets n room None s (cursor p) q) (λ x. built_times (build types order octets n room None s) c x.1.flat x.1.all >>= λ z. Ok (then_val x.0 z.0, z.1)) (v, ends (cursor h) b) f.1
              ∙ through (built_times (build types order octets n room None s) c (cursor h) b) (λ z. Ok (then_val v z.0, z.1)) (vs, ends (cursor p') q') g.1,
        )

  -- what stands at a place is found there
  pub whole_found : (n room : ℕ) (s : Form) (v : Val) (q q' : Last) → Whole types order octets room s v q q' → Shallow types deep s → Targets types deep s → room * (deep + 1) + deep ≤ n → whole types order octets n room s q ≡ Ok (v, q')
  whole_found n room s v q q' w sh tg le = refers n room 0 s v q q' w.h (part_built deep n w.part (ext_self w.h.met) sh tg le)
