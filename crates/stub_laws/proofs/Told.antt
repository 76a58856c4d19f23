-- A departure by what stands in the octets is the one that is read.
use Rattle.std.proofs.Common.{◌≡◌, ℕ, zero, suc, ◌≤◌, Bool, true, false, List, length, Option, Some, None, Result, Ok, Err, refl, sym, ap, subst, ◌∙◌, arith}
use Rattle.std.specs.Prelude.{nat_lt, if◌then◌else◌}
use Rattle.rpc_base.specs.declared.identifiers.Order.{Order}
use Rattle.ndr_value.specs.Forms.{Form, OfBool, OfByte, OfChar, OfInt, OfUint, OfEnum, OfUnion, OfRef, OfUnique, OfFull, Forms, Body}
use Rattle.ndr_value.specs.Fits.{arm_of}
use Rattle.ndr_scalars.specs.Scalars.{up}
use Rattle.ndr_arrays.specs.Bind.{◌>>=◌}
use Rattle.ndr_arrays.proofs.Steps.{through}
use Rattle.ndr_model.specs.declared.departure.Departure.{Departure}
use Rattle.ndr_model.specs.declared.departure.Departure.TheVariants.{Short, Tag, Pointer, Trailing}
use Rattle.ndr_model.specs.declared.departure.Departure.TheVariants as departures
use Rattle.ndr_model.specs.Same.{IsSame, same}
use Rattle.ndr_model.specs.Places.{Place, past, look}
use Rattle.ndr_model.specs.Part.{for_last, in_place, tag_size}
use Rattle.ndr_model.specs.Reading.{number, name_at, wire_at, chars_at, array_at, tag_at, struct_at}
use Rattle.ndr_model.specs.Scan.{level, unique_by, full_scan, full_by, of_type, arm_scan, each, times, scan}
use Rattle.ndr_model.proofs.Alike.{same_is, same_of}
use Rattle.ndr_laws.proofs.Grounded.{EachForm, Shallow, type_has, arm_has}
use Rattle.ndr_laws.proofs.Again.{number_again, name_again, wire_again, array_again, chars_again, tag_again, begins_again}
use Rattle.ndr_faults.specs.Flat.{plain_size, with_wire, Flat, flat_number, flat_enum, flat_handle, flat_text, flat_type, flat_structure, flat_empty_arm, flat_arm, flat_array, flat_ref, flat_null, flat_unique, flat_null_full, flat_new, flat_repeat, FlatMembers, no_flat_member, flat_member_then, FlatElements, no_flat_element, flat_element_then}
use Rattle.ndr_faults.specs.Causes.{number_size, Off, number_cut, handle_cut, structure_off, array_off, text_off, tag_off, no_arm, another_shape, no_name, no_level_ref, no_level_unique, no_level_full}
use Rattle.ndr_faults.specs.Amiss.{Amiss, itself, of_name, of_structure, of_arm, of_array, AmongMembers, this_member, later_member, AmongElements, this_element, later_element}
use Rattle.ndr_faults.proofs.Clear.{Clear, EachClear, AllClear, arm_clear}
use Rattle.stub_laws.proofs.Cuts.{stopped, number_stops, name_stops, wire_stops, array_stops, chars_stop, tag_stops, structure_stops}

some_is : {A : Type 0} (x y : A) → Some x ≡ Some y → x ≡ y
some_is x y e = cc

met_scanned : (room id : ℕ) (s : Form) (m : ℕ × Form) (p : Place) (j : ℕ) (o : Option (ℕ × Form)) → o ≡ Some m → same m.1 s ≡ true → full_scan room id s o p j ≡ Ok (past p j)
met_scanned room id s m p j o e alike = rw (e, alike) refl

other_scanned : (room id : ℕ) (s : Form) (m : ℕ × Form) (p : Place) (j : ℕ) (o : Option (ℕ × Form)) → o ≡ Some m → same m.1 s ≡ false → full_scan room id s o p j ≡ Err (Pointer (up p.at 4))
other_scanned room id s m p j o e other = rw (e, other) refl

not_same : (s t : Form) → (IsSame s t → ⊥) → same s t ≡ false
not_same s t differ = by (same s t) refl
  where
    by : (b : Bool) → same s t ≡ b → b ≡ false
    by true e = absurd (differ (same_is s t e))
    by false e = refl

module _ (types : List Form) (order : Order) (octets : List ℕ) where
  -- ---- what stands is gone over

  plain_scans : (n room : ℕ) (moved : Option ℕ) (s : Form) (p : Place) (size x j : ℕ) → plain_size s ≡ Some size → number order octets size p.at ≡ Ok (x, j) → scan types order octets (suc n) room moved s p ≡ Ok (past p j)
  unfolding scan
  plain_scans n room moved OfBool p size x j e r = through (number order octets 1 p.at) (λ y. Ok (past p y.1)) (x, j) (subst (λ (k : ℕ). number order octets k p.at ≡ Ok (x, j)) (sym (some_is 1 size e)) r)
  plain_scans n room moved OfByte p size x j e r = through (number order octets 1 p.at) (λ y. Ok (past p y.1)) (x, j) (subst (λ (k : ℕ). number order octets k p.at ≡ Ok (x, j)) (sym (some_is 1 size e)) r)
  plain_scans n room moved OfChar p size x j e r = through (number order octets 1 p.at) (λ y. Ok (past p y.1)) (x, j) (subst (λ (k : ℕ). number order octets k p.at ≡ Ok (x, j)) (sym (some_is 1 size e)) r)
  plain_scans n room moved (OfInt k) p size x j e r = through (number order octets k p.at) (λ y. Ok (past p y.1)) (x, j) (subst (λ (k : ℕ). number order octets k p.at ≡ Ok (x, j)) (sym (some_is k size e)) r)
  plain_scans n room moved (OfUint k) p size x j e r = through (number order octets k p.at) (λ y. Ok (past p y.1)) (x, j) (subst (λ (k : ℕ). number order octets k p.at ≡ Ok (x, j)) (sym (some_is k size e)) r)
  plain_scans n room moved _ p size x j e r = absurd cc

  mutual
    unfolding scan

    pub flat_scans : {room : ℕ} {moved : Option ℕ} {s : Form} {p h : Place} (d n : ℕ) → Flat types order octets room moved s p h → Shallow types d s → d ≤ n → scan types order octets n room moved s p ≡ Ok h
    flat_scans zero n f sh le = absurd sh
    flat_scans (suc d) zero f sh le = absurd (omega (arith, le))
    flat_scans (suc d) (suc n) (flat_number {room = room} {size = size} {n = x} {j = j} {moved = moved} {s = s} {p = p} e at) sh le = plain_scans n room moved s p size x j e (number_again order octets at)
    flat_scans (suc d) (suc n) (flat_enum {count = count} {n = x} {j = j} {p = p} at lt) sh le = through (name_at order octets count p.at) (λ y. Ok (past p y.1)) (x, j) (name_again order octets at lt)
    flat_scans (suc d) (suc n) (flat_handle {j = j} {w = w} {p = p} at) sh le = through (wire_at order octets p.at) (λ y. Ok (with_wire p y.1 y.0)) (w, j) (wire_again order octets at)
    flat_scans (suc d) (suc n) (flat_text {j = j} {moved = moved} {size = size} {text = text} {p = p} at) sh le = through (chars_at order octets size moved p.at) (λ y. Ok (past p y.1)) (text, j) (chars_again order octets at)
    flat_scans (suc d) (suc n) (flat_type {room = room} {c = c} {moved = moved} {s = s} {p = p} is f) sh le =
        ap (λ (o : Option Form). of_type o p.at (λ t. scan types order octets n room moved t p)) is ∙ flat_scans d n f (type_has types (Shallow types d) c s sh is) (omega (arith, le))
    flat_scans (suc d) (suc n) (flat_structure {room = room} {i = i} {moved = moved} {own = own} {ss = ss} {p = p} b fs) sh le =
        through (struct_at order octets types ss moved p.at) (λ x. each (scan types order octets n room) x.0 ss (past p x.1)) (own, i) (begins_again order octets b) ∙ members_scan d n fs sh (omega (arith, le))
    flat_scans (suc d) (suc n) (flat_empty_arm {room = room} {j = j} {t = t} {arms = arms} {tag = tag} {p = p} at is) sh le =
        let u = OfUnion t arms in
        let place = up (in_place types u p.at) (tag_size t) in
        through (tag_at order octets t arms (in_place types u p.at)) (λ x. arm_scan (arm_of u x.0) place (past p x.1) (scan types order octets n room None)) (tag, j) (tag_again order octets arms at)
        ∙ ap (λ (o : Option Body). arm_scan o place (past p j) (scan types order octets n room None)) is
    flat_scans (suc d) (suc n) (flat_arm {room = room} {j = j} {t = t} {s = s} {arms = arms} {tag = tag} {p = p} at is f) sh le =
        let u = OfUnion t arms in
        let place = up (in_place types u p.at) (tag_size t) in
        through (tag_at order octets t arms (in_place types u p.at)) (λ x. arm_scan (arm_of u x.0) place (past p x.1) (scan types order octets n room None)) (tag, j) (tag_again order octets arms at)
        ∙ ap (λ (o : Option Body). arm_scan o place (past p j) (scan types order octets n room None)) is ∙ flat_scans d n f (arm_has (Shallow types d) s t arms tag is sh) (omega (arith, le))
    flat_scans (suc d) (suc n) (flat_array {room = room} {i = i} {moved = moved} {kind = kind} {counts = c} {s = s} {p = p} at fs) sh le =
        through (array_at order octets kind moved p.at) (λ x. times (scan types order octets n room None s) x.0.actual (past p x.1)) (c, i) (array_again order octets at) ∙ elements_scan d n fs sh (omega (arith, le))
    flat_scans (suc d) (suc n) (flat_ref {room = room} {n = x} {j = j} {p = p} at) sh le = through (number order octets 4 p.at) (λ y. level (suc room) (up p.at 4) (Ok (past p y.1))) (x, j) (number_again order octets at)
    flat_scans (suc d) (suc n) (flat_null {room = room} {j = j} {p = p} at) sh le = through (number order octets 4 p.at) (λ y. unique_by y.0 room p y.1) (0, j) (number_again order octets at)
    flat_scans (suc d) (suc n) (flat_unique {room = room} {id = id} {j = j} {p = p} at) sh le = through (number order octets 4 p.at) (λ y. unique_by y.0 (suc room) p y.1) (suc id, j) (number_again order octets at)
    flat_scans (suc d) (suc n) (flat_null_full {room = room} {j = j} {s = s} {p = p} at) sh le = through (number order octets 4 p.at) (λ y. full_by y.0 room s p y.1) (0, j) (number_again order octets at)
    flat_scans (suc d) (suc n) (flat_new {room = room} {id = id} {j = j} {s = s} {p = p} at is) sh le =
        through (number order octets 4 p.at) (λ y. full_by y.0 (suc room) s p y.1) (suc id, j) (number_again order octets at) ∙ ap (λ (o : Option (ℕ × Form)). full_scan (suc room) (suc id) s o p j) is
    flat_scans (suc d) (suc n) (flat_repeat {room = room} {id = id} {j = j} {n = k} {s = s} {t = t} {p = p} at is alike) sh le =
        through (number order octets 4 p.at) (λ y. full_by y.0 room s p y.1) (suc id, j) (number_again order octets at) ∙ met_scanned room (suc id) s (k, t) p j (look p.met (suc id)) is (same_of t s alike)

    members_scan : {room : ℕ} {own : Option ℕ} {ss : Forms} {p h : Place} (d n : ℕ) → FlatMembers types order octets room own ss p h → EachForm (Shallow types d) ss → d ≤ n → each (scan types order octets n room) own ss p ≡ Ok h
    members_scan d n no_flat_member sh le = refl
    members_scan d n (flat_member_then {room = room} {own = own} {s = s} {ss = ss} {p = p} {h = h} f fs) sh le =
        through (scan types order octets n room (for_last ss own) s p) (λ x. each (scan types order octets n room) own ss x) h (flat_scans d n f sh.0 le) ∙ members_scan d n fs sh.1 le

    elements_scan : {room c : ℕ} {s : Form} {p h : Place} (d n : ℕ) → FlatElements types order octets room c s p h → Shallow types d s → d ≤ n → times (scan types order octets n room None s) c p ≡ Ok h
    elements_scan d n no_flat_element sh le = refl
    elements_scan d n (flat_element_then {room = room} {n = c} {s = s} {p = p} {h = h} f fs) sh le =
        through (scan types order octets n room None s p) (λ x. times (scan types order octets n room None s) c x) h (flat_scans d n f sh le) ∙ elements_scan d n fs sh le

  -- ---- what departs in it is told

  cut_scans : (n room : ℕ) (moved : Option ℕ) (s : Form) (p : Place) (size : ℕ) → number_size s ≡ Some size → number order octets size p.at ≡ Err (Short (length octets))
      → scan types order octets (suc n) room moved s p ≡ Err (Short (length octets))
  unfolding scan
  cut_scans n room moved OfBool p size e r = stopped (number order octets 1 p.at) (λ y. Ok (past p y.1)) (Short (length octets)) (subst (λ (k : ℕ). number order octets k p.at ≡ Err (Short (length octets))) (sym (some_is 1 size e)) r)
  cut_scans n room moved OfByte p size e r = stopped (number order octets 1 p.at) (λ y. Ok (past p y.1)) (Short (length octets)) (subst (λ (k : ℕ). number order octets k p.at ≡ Err (Short (length octets))) (sym (some_is 1 size e)) r)
  cut_scans n room moved OfChar p size e r = stopped (number order octets 1 p.at) (λ y. Ok (past p y.1)) (Short (length octets)) (subst (λ (k : ℕ). number order octets k p.at ≡ Err (Short (length octets))) (sym (some_is 1 size e)) r)
  cut_scans n room moved (OfInt k) p size e r = stopped (number order octets k p.at) (λ y. Ok (past p y.1)) (Short (length octets)) (subst (λ (k : ℕ). number order octets k p.at ≡ Err (Short (length octets))) (sym (some_is k size e)) r)
  cut_scans n room moved (OfUint k) p size e r = stopped (number order octets k p.at) (λ y. Ok (past p y.1)) (Short (length octets)) (subst (λ (k : ℕ). number order octets k p.at ≡ Err (Short (length octets))) (sym (some_is k size e)) r)
  cut_scans n room moved (OfEnum count) p size e r =
      let c : number order octets 2 p.at ≡ Err (Short (length octets)) = subst (λ (k : ℕ). number order octets k p.at ≡ Err (Short (length octets))) (sym (some_is 2 size e)) r in
      ap (λ (q : Result (ℕ × ℕ) Departure). q >>= (λ x. (if nat_lt x.0 count then Ok x else Err (departures.Text (up p.at 2)))) >>= λ y. Ok (past p y.1)) c
  cut_scans n room moved (OfRef s) p size e r = stopped (number order octets 4 p.at) (λ y. level room (up p.at 4) (Ok (past p y.1))) (Short (length octets)) (subst (λ (k : ℕ). number order octets k p.at ≡ Err (Short (length octets))) (sym (some_is 4 size e)) r)
  cut_scans n room moved (OfUnique s) p size e r = stopped (number order octets 4 p.at) (λ y. unique_by y.0 room p y.1) (Short (length octets)) (subst (λ (k : ℕ). number order octets k p.at ≡ Err (Short (length octets))) (sym (some_is 4 size e)) r)
  cut_scans n room moved (OfFull s) p size e r = stopped (number order octets 4 p.at) (λ y. full_by y.0 room s p y.1) (Short (length octets)) (subst (λ (k : ℕ). number order octets k p.at ≡ Err (Short (length octets))) (sym (some_is 4 size e)) r)
  cut_scans n room moved _ p size e r = absurd cc

  off_scans : {room : ℕ} {moved : Option ℕ} {s : Form} {p : Place} {x : Departure} (n : ℕ) → Off types order octets room moved s p x → Clear types s → scan types order octets (suc n) room moved s p ≡ Err x
  unfolding scan
  off_scans n (number_cut {room = room} {size = size} {moved = moved} {s = s} {p = p} e c) cl = cut_scans n room moved s p size e (number_stops order octets size p.at c)
  off_scans n (handle_cut {p = p} lt) cl = stopped (wire_at order octets p.at) (λ y. Ok (with_wire p y.1 y.0)) (Short (length octets)) (wire_stops order octets p.at lt)
  off_scans n (structure_off {room = room} {moved = moved} {ss = ss} {p = p} {d = x} o) cl =
      stopped (struct_at order octets types ss moved p.at) (λ x. each (scan types order octets n room) x.0 ss (past p x.1)) x (structure_stops order octets o)
  off_scans n (array_off {room = room} {moved = moved} {kind = kind} {s = s} {p = p} {d = x} o) cl =
      stopped (array_at order octets kind moved p.at) (λ x. times (scan types order octets n room None s) x.0.actual (past p x.1)) x (array_stops order octets o)
  off_scans n (text_off {moved = moved} {size = size} {p = p} {d = x} o) cl = stopped (chars_at order octets size moved p.at) (λ y. Ok (past p y.1)) x (chars_stop order octets o)
  off_scans n (tag_off {room = room} {t = t} {arms = arms} {p = p} {d = x} o) cl =
      let u = OfUnion t arms in
      stopped (tag_at order octets t arms (in_place types u p.at)) (λ x. arm_scan (arm_of u x.0) (up (in_place types u p.at) (tag_size t)) (past p x.1) (scan types order octets n room None)) x (tag_stops order octets cl.0 o)
  off_scans n (no_arm {room = room} {j = j} {t = t} {arms = arms} {tag = tag} {p = p} at is) cl =
      let u = OfUnion t arms in
      let place = up (in_place types u p.at) (tag_size t) in
      through (tag_at order octets t arms (in_place types u p.at)) (λ x. arm_scan (arm_of u x.0) place (past p x.1) (scan types order octets n room None)) (tag, j) (tag_again order octets arms at)
      ∙ ap (λ (o : Option Body). arm_scan o place (past p j) (scan types order octets n room None)) is
  off_scans n (another_shape {room = room} {id = id} {j = j} {n = k} {s = s} {t = t} {p = p} at is other) cl =
      through (number order octets 4 p.at) (λ y. full_by y.0 room s p y.1) (suc id, j) (number_again order octets at) ∙ other_scanned room (suc id) s (k, t) p j (look p.met (suc id)) is (not_same t s other)
  off_scans n (no_name {count = count} {p = p} at le) cl = stopped (name_at order octets count p.at) (λ y. Ok (past p y.1)) (departures.Text (up p.at 2)) (name_stops order octets at le)
  off_scans n (no_level_ref {n = x} {j = j} {p = p} at) cl = through (number order octets 4 p.at) (λ y. level 0 (up p.at 4) (Ok (past p y.1))) (x, j) (number_again order octets at)
  off_scans n (no_level_unique {id = id} {j = j} {p = p} at) cl = through (number order octets 4 p.at) (λ y. unique_by y.0 0 p y.1) (suc id, j) (number_again order octets at)
  off_scans n (no_level_full {id = id} {j = j} {s = s} {p = p} at is) cl =
      through (number order octets 4 p.at) (λ y. full_by y.0 0 s p y.1) (suc id, j) (number_again order octets at) ∙ ap (λ (o : Option (ℕ × Form)). full_scan 0 (suc id) s o p j) is

  module _ (clear : AllClear types) where
    mutual
      unfolding scan

      pub amiss_scans : {room : ℕ} {moved : Option ℕ} {s : Form} {p : Place} {x : Departure} (d n : ℕ) → Amiss types order octets room moved s p x → Shallow types d s → Clear types s → d ≤ n
          → scan types order octets n room moved s p ≡ Err x
      amiss_scans zero n a sh cl le = absurd sh
      amiss_scans (suc d) zero a sh cl le = absurd (omega (arith, le))
      amiss_scans (suc d) (suc n) (itself o) sh cl le = off_scans n o cl
      amiss_scans (suc d) (suc n) (of_name {room = room} {c = c} {moved = moved} {s = s} {p = p} is a) sh cl le =
          ap (λ (o : Option Form). of_type o p.at (λ t. scan types order octets n room moved t p)) is ∙ amiss_scans d n a (type_has types (Shallow types d) c s sh is) (clear c s is) (omega (arith, le))
      amiss_scans (suc d) (suc n) (of_structure {room = room} {i = i} {moved = moved} {own = own} {ss = ss} {p = p} b a) sh cl le =
          through (struct_at order octets types ss moved p.at) (λ x. each (scan types order octets n room) x.0 ss (past p x.1)) (own, i) (begins_again order octets b) ∙ among_scans d n a sh cl (omega (arith, le))
      amiss_scans (suc d) (suc n) (of_arm {room = room} {j = j} {t = t} {s = s} {arms = arms} {tag = tag} {p = p} at is a) sh cl le =
          let u = OfUnion t arms in
          let place = up (in_place types u p.at) (tag_size t) in
          through (tag_at order octets t arms (in_place types u p.at)) (λ x. arm_scan (arm_of u x.0) place (past p x.1) (scan types order octets n room None)) (tag, j) (tag_again order octets arms at)
          ∙ ap (λ (o : Option Body). arm_scan o place (past p j) (scan types order octets n room None)) is
          ∙ amiss_scans d n a (arm_has (Shallow types d) s t arms tag is sh) (arm_clear types s t arms tag is cl.1) (omega (arith, le))
      amiss_scans (suc d) (suc n) (of_array {room = room} {i = i} {moved = moved} {kind = kind} {counts = c} {s = s} {p = p} at a) sh cl le =
          through (array_at order octets kind moved p.at) (λ x. times (scan types order octets n room None s) x.0.actual (past p x.1)) (c, i) (array_again order octets at) ∙ some_scans d n a sh cl (omega (arith, le))

      among_scans : {room : ℕ} {own : Option ℕ} {ss : Forms} {p : Place} {x : Departure} (d n : ℕ) → AmongMembers types order octets room own ss p x → EachForm (Shallow types d) ss → EachClear types ss → d ≤ n
          → each (scan types order octets n room) own ss p ≡ Err x
      among_scans d n (this_member {room = room} {own = own} {s = s} {ss = ss} {p = p} {d = x} a) sh cl le =
          stopped (scan types order octets n room (for_last ss own) s p) (λ h. each (scan types order octets n room) own ss h) x (amiss_scans d n a sh.0 cl.0 le)
      among_scans d n (later_member {room = room} {own = own} {s = s} {ss = ss} {p = p} {h = h} f a) sh cl le =
          through (scan types order octets n room (for_last ss own) s p) (λ h. each (scan types order octets n room) own ss h) h (flat_scans d n f sh.0 le) ∙ among_scans d n a sh.1 cl.1 le

      some_scans : {room c : ℕ} {s : Form} {p : Place} {x : Departure} (d n : ℕ) → AmongElements types order octets room c s p x → Shallow types d s → Clear types s → d ≤ n
          → times (scan types order octets n room None s) c p ≡ Err x
      some_scans d n (this_element {room = room} {n = c} {s = s} {p = p} {d = x} a) sh cl le =
          stopped (scan types order octets n room None s p) (λ h. times (scan types order octets n room None s) c h) x (amiss_scans d n a sh cl le)
      some_scans d n (later_element {room = room} {n = c} {s = s} {p = p} {h = h} f a) sh cl le =
          through (scan types order octets n room None s p) (λ h. times (scan types order octets n room None s) c h) h (flat_scans d n f sh le) ∙ some_scans d n a sh cl le
