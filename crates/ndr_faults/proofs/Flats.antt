-- A flat part that is passed over stands.
use Rattle.std.proofs.Common.{◌≡◌, ℕ, zero, suc, List, [], ◌∷◌, Option, Some, None, Result, Ok, refl, sym, subst}
use Rattle.std.specs.Prelude.{slice_get}
use Rattle.rpc_base.specs.declared.identifiers.Order.{Order}
use Rattle.ndr_value.specs.Forms.{Form, OfBool, OfByte, OfChar, OfInt, OfUint, OfEnum, OfNamed, OfStruct, OfUnion, OfArray, OfText, OfRef, OfUnique, OfFull, OfHandle, Forms, no_form, then_form, Body, empty, holds, ArmForms}
use Rattle.ndr_value.specs.Fits.{arm_of}
use Rattle.ndr_scalars.specs.Scalars.{up, Scalar}
use Rattle.ndr_arrays.specs.Bind.{◌>>=◌}
use Rattle.ndr_arrays.proofs.Steps.{bind_ok, when_ok, ok_is}
use Rattle.ndr_model.specs.declared.departure.Departure.{Departure}
use Rattle.ndr_model.specs.declared.departure.Departure.TheVariants.{Pointer}
use Rattle.ndr_model.specs.Places.{Place, past, look}
use Rattle.ndr_model.specs.Same.{same}
use Rattle.ndr_model.specs.Part.{IsTag, for_last, in_place, tag_size}
use Rattle.ndr_model.specs.Reading.{number, name_at, wire_at, chars_at, array_at, tag_at, struct_at}
use Rattle.ndr_model.specs.Scan.{level, unique_by, full_scan, full_by, of_type, arm_scan, each, times, scan}
use Rattle.ndr_model.proofs.Alike.{same_is}
use Rattle.ndr_model.proofs.Mets.{Ext, ext_self, ext_then}
use Rattle.ndr_model.proofs.Pieces.{number_is, name_is, wire_is, array_is, chars_are, tag_is, begins}
use Rattle.ndr_faults.specs.Flat.{plain_size, with_wire, with_id, Flat, flat_number, flat_enum, flat_handle, flat_text, flat_type, flat_structure, flat_empty_arm, flat_arm, flat_array, flat_ref, flat_null, flat_unique, flat_null_full, flat_new, flat_repeat, FlatMembers, no_flat_member, flat_member_then, FlatElements, no_flat_element, flat_element_then}

type_is : {A : Type 0} (o : Option Form) (i : ℕ) (go : Form → Result A Departure) (y : A) → of_type o i go ≡ Ok y → (s : Form) × (o ≡ Some s) × (go s ≡ Ok y)
type_is None i go y e = absurd cc
type_is (Some s) i go y e = (s, refl, e)

pub at_a_level : (room i : ℕ) (x h : Place) → level room i (Ok x) ≡ Ok h → (r : ℕ) × (room ≡ suc r) × (x ≡ h)
at_a_level zero i x h e = absurd cc
at_a_level (suc r) i x h e = (r, refl, ok_is Departure x h e)

module _ (types : List Form) (order : Order) (octets : List ℕ) where
  abbrev pub AllFlat : ℕ → Type 0
  AllFlat n = (room : ℕ) (moved : Option ℕ) (s : Form) (p h : Place) → scan types order octets n room moved s p ≡ Ok h → Flat types order octets room moved s p h

  pub members_flat : (n room : ℕ) → AllFlat n → (own : Option ℕ) (ss : Forms) (p h : Place) → each (scan types order octets n room) own ss p ≡ Ok h → FlatMembers types order octets room own ss p h
  members_flat n room so own no_form p h e = subst (λ (x : Place). FlatMembers types order octets room own no_form p x) (ok_is Departure p h e) no_flat_member
  members_flat n room so own (then_form s ss) p h e =
      let a = bind_ok (scan types order octets n room (for_last ss own) s p) (λ x. each (scan types order octets n room) own ss x) h e in
      flat_member_then (so room (for_last ss own) s p a.0 a.1) (members_flat n room so own ss a.0 h a.2)

  pub elements_flat : (n room : ℕ) → AllFlat n → (s : Form) (c : ℕ) (p h : Place) → times (scan types order octets n room None s) c p ≡ Ok h → FlatElements types order octets room c s p h
  elements_flat n room so s zero p h e = subst (λ (x : Place). FlatElements types order octets room 0 s p x) (ok_is Departure p h e) no_flat_element
  elements_flat n room so s (suc c) p h e =
      let a = bind_ok (scan types order octets n room None s p) (λ x. times (scan types order octets n room None s) c x) h e in
      flat_element_then (so room None s p a.0 a.1) (elements_flat n room so s c a.0 h a.2)

  arm_flat : (n room : ℕ) → AllFlat n → (moved : Option ℕ) (t : Form) (arms : ArmForms) (tag : _) (i j : ℕ) (b : Option Body) (p h : Place) → IsTag order octets t tag (in_place types (OfUnion t arms) p.at) j
      → arm_of (OfUnion t arms) tag ≡ b → arm_scan b i (past p j) (scan types order octets n room None) ≡ Ok h → Flat types order octets room moved (OfUnion t arms) p h
  arm_flat n room so moved t arms tag i j None p h at is e = absurd cc
  arm_flat n room so moved t arms tag i j (Some empty) p h at is e = subst (λ (x : Place). Flat types order octets room moved (OfUnion t arms) p x) (ok_is Departure (past p j) h e) (flat_empty_arm at is)
  arm_flat n room so moved t arms tag i j (Some (holds s)) p h at is e = flat_arm at is (so room None s (past p j) h e)

  number_flat : (room size : ℕ) (moved : Option ℕ) (s : Form) (p h : Place) → plain_size s ≡ Some size → (number order octets size p.at >>= λ x. Ok (past p x.1)) ≡ Ok h → Flat types order octets room moved s p h
  number_flat room size moved s p h is e =
      let a = bind_ok (number order octets size p.at) (λ x. Ok (past p x.1)) h e in
      subst (λ (x : Place). Flat types order octets room moved s p x) (ok_is Departure (past p a.0.1) h a.2) (flat_number is (number_is order octets size p.at a.0 a.1))

  in_level : (room : ℕ) (moved : Option ℕ) (s : Form) (p x h : Place) → ((r : ℕ) → Flat types order octets (suc r) moved s p x) → level room (up p.at 4) (Ok x) ≡ Ok h → Flat types order octets room moved s p h
  in_level room moved s p x h go e =
      let a = at_a_level room (up p.at 4) x h e in
      subst (λ (r : ℕ). Flat types order octets r moved s p h) (sym a.1) (subst (λ (y : Place). Flat types order octets (suc a.0) moved s p y) a.2 (go a.0))

  unique_flat : (room id j : ℕ) (moved : Option ℕ) (s : Form) (p h : Place) → Scalar order octets 4 id p.at j → unique_by id room p j ≡ Ok h → Flat types order octets room moved (OfUnique s) p h
  unique_flat room zero j moved s p h at e = subst (λ (x : Place). Flat types order octets room moved (OfUnique s) p x) (ok_is Departure (past p j) h e) (flat_null at)
  unique_flat room (suc id) j moved s p h at e = in_level room moved (OfUnique s) p (past p j) h (λ r. flat_unique at) e

  full_flat : (room id j : ℕ) (moved : Option ℕ) (s : Form) (p h : Place) → Scalar order octets 4 id p.at j → full_by id room s p j ≡ Ok h → Flat types order octets room moved (OfFull s) p h
  full_flat room zero j moved s p h at e = subst (λ (x : Place). Flat types order octets room moved (OfFull s) p x) (ok_is Departure (past p j) h e) (flat_null_full at)
  full_flat room (suc id) j moved s p h at e = by (look p.met (suc id)) refl e
    where
      by : (o : Option (ℕ × Form)) → look p.met (suc id) ≡ o → full_scan room (suc id) s o p j ≡ Ok h → Flat types order octets room moved (OfFull s) p h
      by None is f = in_level room moved (OfFull s) p (with_id p j (suc id) s) h (λ r. flat_new at is) f
      by (Some m) is f =
          let w = when_ok (same m.1 s) (Pointer (up p.at 4)) (Ok (past p j)) h f in
          subst (λ (x : Place). Flat types order octets room moved (OfFull s) p x) (ok_is Departure (past p j) h w.1) (flat_repeat at is (same_is m.1 s w.0))

  one_flat : (n room : ℕ) → AllFlat n → (moved : Option ℕ) (s : Form) (p h : Place) → scan types order octets (suc n) room moved s p ≡ Ok h → Flat types order octets room moved s p h
  unfolding scan
  one_flat n room so moved OfBool p h e = number_flat room 1 moved OfBool p h refl e
  one_flat n room so moved OfByte p h e = number_flat room 1 moved OfByte p h refl e
  one_flat n room so moved OfChar p h e = number_flat room 1 moved OfChar p h refl e
  one_flat n room so moved (OfInt size) p h e = number_flat room size moved (OfInt size) p h refl e
  one_flat n room so moved (OfUint size) p h e = number_flat room size moved (OfUint size) p h refl e
  one_flat n room so moved (OfEnum count) p h e =
      let a = bind_ok (name_at order octets count p.at) (λ x. Ok (past p x.1)) h e in
      let b = name_is order octets count p.at a.0 a.1 in
      subst (λ (x : Place). Flat types order octets room moved (OfEnum count) p x) (ok_is Departure (past p a.0.1) h a.2) (flat_enum b.0 b.1)
  one_flat n room so moved (OfHandle kind) p h e =
      let a = bind_ok (wire_at order octets p.at) (λ x. Ok (with_wire p x.1 x.0)) h e in
      subst (λ (x : Place). Flat types order octets room moved (OfHandle kind) p x) (ok_is Departure (with_wire p a.0.1 a.0.0) h a.2) (flat_handle (wire_is order octets p.at a.0 a.1))
  one_flat n room so moved (OfText size) p h e =
      let a = bind_ok (chars_at order octets size moved p.at) (λ x. Ok (past p x.1)) h e in
      subst (λ (x : Place). Flat types order octets room moved (OfText size) p x) (ok_is Departure (past p a.0.1) h a.2) (flat_text (chars_are order octets size moved p.at a.0 a.1))
  one_flat n room so moved (OfNamed c switch) p h e = let a = type_is (slice_get types c) p.at (λ s. scan types order octets n room moved s p) h e in flat_type a.1 (so room moved a.0 p h a.2)
  one_flat n room so moved (OfStruct ss) p h e =
      let a = bind_ok (struct_at order octets types ss moved p.at) (λ x. each (scan types order octets n room) x.0 ss (past p x.1)) h e in
      flat_structure (begins order octets types ss moved p.at a.0 a.1) (members_flat n room so a.0.0 ss (past p a.0.1) h a.2)
  one_flat n room so moved (OfUnion t arms) p h e =
      let u = OfUnion t arms in
      let begin = in_place types u p.at in
      let a = bind_ok (tag_at order octets t arms begin) (λ x. arm_scan (arm_of u x.0) (up begin (tag_size t)) (past p x.1) (scan types order octets n room None)) h e in
      arm_flat n room so moved t arms a.0.0 (up begin (tag_size t)) a.0.1 (arm_of u a.0.0) p h (tag_is order octets t arms begin a.0 a.1) refl a.2
  one_flat n room so moved (OfArray kind s) p h e =
      let a = bind_ok (array_at order octets kind moved p.at) (λ x. times (scan types order octets n room None s) x.0.actual (past p x.1)) h e in
      flat_array (array_is order octets kind moved p.at a.0 a.1) (elements_flat n room so s a.0.0.actual (past p a.0.1) h a.2)
  one_flat n room so moved (OfRef s) p h e =
      let a = bind_ok (number order octets 4 p.at) (λ x. level room (up p.at 4) (Ok (past p x.1))) h e in
      in_level room moved (OfRef s) p (past p a.0.1) h (λ r. flat_ref (number_is order octets 4 p.at a.0 a.1)) a.2
  one_flat n room so moved (OfUnique s) p h e =
      let a = bind_ok (number order octets 4 p.at) (λ x. unique_by x.0 room p x.1) h e in
      unique_flat room a.0.0 a.0.1 moved s p h (number_is order octets 4 p.at a.0 a.1) a.2
  one_flat n room so moved (OfFull s) p h e =
      let a = bind_ok (number order octets 4 p.at) (λ x. full_by x.0 room s p x.1) h e in
      full_flat room a.0.0 a.0.1 moved s p h (number_is order octets 4 p.at a.0 a.1) a.2

  pub scan_flat : (n room : ℕ) (moved : Option ℕ) (s : Form) (p h : Place) → scan types order octets n room moved s p ≡ Ok h → Flat types order octets room moved s p h
  unfolding scan
  scan_flat zero room moved s p h e = absurd cc
  scan_flat (suc n) room moved s p h e = one_flat n room (scan_flat n) moved s p h e

  -- ids that were met stay met
  mutual
    pub flat_grows : {room : ℕ} {moved : Option ℕ} {s : Form} {p h : Place} → Flat types order octets room moved s p h → Ext p.met h.met
    flat_grows (flat_number {p = p} is at) = ext_self p.met
    flat_grows (flat_enum {p = p} at lt) = ext_self p.met
    flat_grows (flat_handle {p = p} at) = ext_self p.met
    flat_grows (flat_text {p = p} at) = ext_self p.met
    flat_grows (flat_type is f) = flat_grows f
    flat_grows (flat_structure b fs) = members_grow fs
    flat_grows (flat_empty_arm {p = p} at is) = ext_self p.met
    flat_grows (flat_arm at is f) = flat_grows f
    flat_grows (flat_array at fs) = elements_grow fs
    flat_grows (flat_ref {p = p} at) = ext_self p.met
    flat_grows (flat_null {p = p} at) = ext_self p.met
    flat_grows (flat_unique {p = p} at) = ext_self p.met
    flat_grows (flat_null_full {p = p} at) = ext_self p.met
    flat_grows (flat_new {id = id} {s = s} at is) = ((suc id, s) ∷ [], refl)
    flat_grows (flat_repeat {p = p} at is alike) = ext_self p.met

    pub members_grow : {room : ℕ} {own : Option ℕ} {ss : Forms} {p h : Place} → FlatMembers types order octets room own ss p h → Ext p.met h.met
    members_grow (no_flat_member {p = p}) = ext_self p.met
    members_grow (flat_member_then {p = p} {h = h} {h' = h'} f fs) = ext_then p.met h.met h'.met (flat_grows f) (members_grow fs)

    pub elements_grow : {room n : ℕ} {s : Form} {p h : Place} → FlatElements types order octets room n s p h → Ext p.met h.met
    elements_grow (no_flat_element {p = p}) = ext_self p.met
    elements_grow (flat_element_then {p = p} {h = h} {h' = h'} f fs) = ext_then p.met h.met h'.met (flat_grows f) (elements_grow fs)
