-- What is built stands so in the octets.
use Rattle.std.proofs.Common.{◌≡◌, ℕ, zero, suc, ◌+◌, ℤ, Bool, true, false, List, [], ◌∷◌, ◌++◌, length, length-append, Option, Some, None, Result, Ok, refl, sym, ap, subst, ◌∙◌, arith}
use Rattle.std.specs.Prelude.{slice_get, ◌==◌, not}
use Rattle.rpc_base.specs.declared.identifiers.Order.{Order}
use Rattle.rpc_base.specs.declared.identifiers.WireHandle.{WireHandle}
use Rattle.ndr_value.specs.Forms.{Form, OfBool, OfByte, OfChar, OfInt, OfUint, OfEnum, OfNamed, OfStruct, OfUnion, OfArray, OfText, OfRef, OfUnique, OfFull, OfHandle, Forms, no_form, then_form, Body, empty, holds, ArmForms}
use Rattle.ndr_value.specs.Fits.{arm_of}
use Rattle.ndr_value.specs.Values.{Val, VBool, VByte, VChar, VInt, VUint, VEnum, VStruct, VEmpty, VUnion, VArray, VText, VNull, VPtr, VFull, VHandle, Vals, no_val, then_val}
use Rattle.ndr_scalars.specs.Scalars.{up, signed, Scalar}
use Rattle.ndr_arrays.specs.Bind.{◌>>=◌}
use Rattle.ndr_arrays.proofs.Steps.{bind_ok, through, when_ok, ok_is}
use Rattle.ndr_model.specs.declared.departure.Departure.{Departure}
use Rattle.ndr_model.specs.declared.departure.Departure.TheVariants.{Pointer}
use Rattle.ndr_model.specs.declared.mark.Mark.TheVariants.{Referent}
use Rattle.ndr_model.specs.Same.{same}
use Rattle.ndr_model.specs.Places.{Place, past, Last, onto, noting, keeping, look}
use Rattle.ndr_model.specs.Part.{IsTag, Part, a_bool, a_byte, a_char, an_int, a_uint, an_enum, a_handle, a_text, a_name, a_struct, an_empty_arm, an_arm, an_array, a_ref, a_null, a_unique, a_null_full, a_new, a_repeat, Parts, no_part, then_part, Items, no_item, then_item, Whole, for_last, in_place, tag_size, opened_marks, count_marks, tag_marks}
use Rattle.ndr_model.specs.Reading.{number, name_at, wire_at, chars_at, array_at, tag_at, struct_at}
use Rattle.ndr_model.specs.Scan.{Scanned, level, unique_by, full_scan, full_by, of_type, arm_scan, each, times, past_number, scan_at, scan}
use Rattle.ndr_model.specs.Build.{Cursor, ahead, cursor, PartEnds, ends, Built, referent, behind_ref, behind_unique, behind_known, behind_met, behind_full, built_each, built_times, in_struct, in_array, built_arm, build_at, build, whole}
use Rattle.ndr_model.proofs.Alike.{same_is}
use Rattle.ndr_model.proofs.Mets.{Mets, Ext, ext_self, ext_then, eq_self, less_not, found_on, found_last, found_less}
use Rattle.ndr_model.proofs.Pieces.{number_is, name_is, wire_is, array_is, chars_are, tag_is, begins}

type_is : {A : Type 0} (o : Option Form) (i : ℕ) (go : Form → Result A Departure) (y : A) → of_type o i go ≡ Ok y → (s : Form) × (o ≡ Some s) × (go s ≡ Ok y)
type_is None i go y e = absurd cc
type_is (Some s) i go y e = (s, refl, e)

level_is : (room i : ℕ) (x h : Place) → level room i (Ok x) ≡ Ok h → x ≡ h
level_is zero i x h e = absurd cc
level_is (suc room) i x h e = ok_is Departure x h e

-- ---- a scan only adds ids

unique_ext : (room : ℕ) (p h : Place) (id j : ℕ) → unique_by id room p j ≡ Ok h → Ext p.met h.met
unique_ext room p h zero j e = subst (λ (x : Place). Ext p.met x.met) (ok_is Departure (past p j) h e) (ext_self p.met)
unique_ext room p h (suc id) j e = subst (λ (x : Place). Ext p.met x.met) (level_is room (up p.at 4) (past p j) h e) (ext_self p.met)

abbrev with_id : Place → ℕ → ℕ → Form → Place
with_id p j id s = record { at = j; met = p.met ++ (id, s) ∷ []; wires = p.wires }

scan_full_ext : (room : ℕ) (s : Form) (p h : Place) (id j : ℕ) (o : Option (ℕ × Form)) → full_scan room (suc id) s o p j ≡ Ok h → Ext p.met h.met
scan_full_ext room s p h id j None e = subst (λ (x : Place). Ext p.met x.met) (level_is room (up p.at 4) (with_id p j (suc id) s) h e) ((suc id, s) ∷ [], refl)
scan_full_ext room s p h id j (Some m) e =
    let g = when_ok (same m.1 s) (Pointer (up p.at 4)) (Ok (past p j)) h e in subst (λ (x : Place). Ext p.met x.met) (ok_is Departure (past p j) h g.1) (ext_self p.met)

full_ext : (room : ℕ) (s : Form) (p h : Place) (id j : ℕ) → full_by id room s p j ≡ Ok h → Ext p.met h.met
full_ext room s p h zero j e = subst (λ (x : Place). Ext p.met x.met) (ok_is Departure (past p j) h e) (ext_self p.met)
full_ext room s p h (suc id) j e = scan_full_ext room s p h id j (look p.met (suc id)) e

module _ (types : List Form) (order : Order) (octets : List ℕ) (sc : ℕ → Option ℕ → Form → Place → Scanned) where
  abbrev AllExt : Type 0
  AllExt = (room : ℕ) (moved : Option ℕ) (s : Form) (p h : Place) → sc room moved s p ≡ Ok h → Ext p.met h.met

  each_ext : AllExt → (room : ℕ) (own : Option ℕ) (ss : Forms) (p h : Place) → each (sc room) own ss p ≡ Ok h → Ext p.met h.met
  each_ext ex room own no_form p h e = subst (λ (x : Place). Ext p.met x.met) (ok_is Departure p h e) (ext_self p.met)
  each_ext ex room own (then_form s ss) p h e =
      let a = bind_ok (sc room (for_last ss own) s p) (λ x. each (sc room) own ss x) h e in
      ext_then p.met a.0.met h.met (ex room (for_last ss own) s p a.0 a.1) (each_ext ex room own ss a.0 h a.2)

  times_ext : AllExt → (room : ℕ) (s : Form) (n : ℕ) (p h : Place) → times (sc room None s) n p ≡ Ok h → Ext p.met h.met
  times_ext ex room s zero p h e = subst (λ (x : Place). Ext p.met x.met) (ok_is Departure p h e) (ext_self p.met)
  times_ext ex room s (suc n) p h e =
      let a = bind_ok (sc room None s p) (λ x. times (sc room None s) n x) h e in
      ext_then p.met a.0.met h.met (ex room None s p a.0 a.1) (times_ext ex room s n a.0 h a.2)

  arm_ext : AllExt → (room : ℕ) (o : Option Body) (i : ℕ) (p h : Place) → arm_scan o i p (sc room None) ≡ Ok h → Ext p.met h.met
  arm_ext ex room None i p h e = absurd cc
  arm_ext ex room (Some empty) i p h e = subst (λ (x : Place). Ext p.met x.met) (ok_is Departure p h e) (ext_self p.met)
  arm_ext ex room (Some (holds s)) i p h e = ex room None s p h e

  number_ext : (size : ℕ) (p h : Place) → past_number types order octets size p ≡ Ok h → Ext p.met h.met
  number_ext size p h f =
      let a = bind_ok (number order octets size p.at) (λ x. Ok (past p x.1)) h f in
      subst (λ (x : Place). Ext p.met x.met) (ok_is Departure (past p a.0.1) h a.2) (ext_self p.met)

  one_ext : AllExt → (room : ℕ) (moved : Option ℕ) (s : Form) (p h : Place) → scan_at types order octets room moved (sc room) s p ≡ Ok h → Ext p.met h.met
  one_ext ex room moved OfBool p h f = number_ext 1 p h f
  one_ext ex room moved OfByte p h f = number_ext 1 p h f
  one_ext ex room moved OfChar p h f = number_ext 1 p h f
  one_ext ex room moved (OfInt size) p h f = number_ext size p h f
  one_ext ex room moved (OfUint size) p h f = number_ext size p h f
  one_ext ex room moved (OfEnum count) p h f =
      let a = bind_ok (name_at order octets count p.at) (λ x. Ok (past p x.1)) h f in
      subst (λ (x : Place). Ext p.met x.met) (ok_is Departure (past p a.0.1) h a.2) (ext_self p.met)
  one_ext ex room moved (OfHandle kind) p h f =
      let a = bind_ok (wire_at order octets p.at) (λ x. Ok (record { at = x.1; met = p.met; wires = p.wires ++ x.0 ∷ [] })) h f in
      subst (λ (x : Place). Ext p.met x.met) (ok_is Departure (record { at = a.0.1; met = p.met; wires = p.wires ++ a.0.0 ∷ [] }) h a.2) (ext_self p.met)
  one_ext ex room moved (OfText size) p h f =
      let a = bind_ok (chars_at order octets size moved p.at) (λ x. Ok (past p x.1)) h f in
      subst (λ (x : Place). Ext p.met x.met) (ok_is Departure (past p a.0.1) h a.2) (ext_self p.met)
  one_ext ex room moved (OfNamed c switch) p h f = let a = type_is (slice_get types c) p.at (λ s. sc room moved s p) h f in ex room moved a.0 p h a.2
  one_ext ex room moved (OfStruct ss) p h f =
      let a = bind_ok (struct_at order octets types ss moved p.at) (λ x. each (sc room) x.0 ss (past p x.1)) h f in
      each_ext ex room a.0.0 ss (past p a.0.1) h a.2
  one_ext ex room moved (OfUnion t arms) p h f =
      let a = bind_ok (tag_at order octets t arms (in_place types (OfUnion t arms) p.at))
      (λ x. arm_scan (arm_of (OfUnion t arms) x.0) (up (in_place types (OfUnion t arms) p.at) (tag_size t)) (past p x.1) (sc room None)) h f in
      arm_ext ex room (arm_of (OfUnion t arms) a.0.0) (up (in_place types (OfUnion t arms) p.at) (tag_size t)) (past p a.0.1) h a.2
  one_ext ex room moved (OfArray kind s) p h f =
      let a = bind_ok (array_at order octets kind moved p.at) (λ x. times (sc room None s) x.0.actual (past p x.1)) h f in
      times_ext ex room s a.0.0.actual (past p a.0.1) h a.2
  one_ext ex room moved (OfRef s) p h f =
      let a = bind_ok (number order octets 4 p.at) (λ x. level room (up p.at 4) (Ok (past p x.1))) h f in
      subst (λ (x : Place). Ext p.met x.met) (level_is room (up p.at 4) (past p a.0.1) h a.2) (ext_self p.met)
  one_ext ex room moved (OfUnique s) p h f =
      let a = bind_ok (number order octets 4 p.at) (λ x. unique_by x.0 room p x.1) h f in unique_ext room p h a.0.0 a.0.1 a.2
  one_ext ex room moved (OfFull s) p h f =
      let a = bind_ok (number order octets 4 p.at) (λ x. full_by x.0 room s p x.1) h f in full_ext room s p h a.0.0 a.0.1 a.2

-- ---- what is built stands, where its parts do

module _ (types : List Form) (order : Order) (octets : List ℕ) (sc : ℕ → Option ℕ → Form → Place → Scanned) (bu : ℕ → Option ℕ → Form → Cursor → Last → Built) where
  abbrev Extends : Type 0
  Extends = AllExt types order octets sc

  abbrev Stands : ℕ → Option ℕ → Form → Place → Last → Place → Val × PartEnds → Type 0
  Stands room moved s p q h y = Part types order octets room moved s y.0 p h q y.1.all × (y.1.flat ≡ cursor h) × Ext q.here.met y.1.all.here.met

  abbrev AllStand : Type 0
  AllStand = (room : ℕ) (moved : Option ℕ) (s : Form) (p : Place) (q : Last) (h : Place) (y : Val × PartEnds) → bu room moved s (cursor p) q ≡ Ok y → sc room moved s p ≡ Ok h → Ext h.met q.here.met → Stands room moved s p q h y

  abbrev RowStands : ℕ → Option ℕ → Forms → Place → Last → Place → Vals × PartEnds → Type 0
  RowStands room own ss p q h y = Parts types order octets room own ss y.0 p h q y.1.all × (y.1.flat ≡ cursor h) × Ext q.here.met y.1.all.here.met

  each_stands : Extends → AllStand → (room : ℕ) (own : Option ℕ) (ss : Forms) (p : Place) (q : Last) (h : Place) (y : Vals × PartEnds) → built_each (bu room) own ss (cursor p) q ≡ Ok y → each (sc room) own ss p ≡ Ok h
      → Ext h.met q.here.met → RowStands room own ss p q h y
  each_stands ex so room own no_form p q h y e f ext =
      subst (λ (x : Place). RowStands room own no_form p q x y) (ok_is Departure p h f)
      (subst (λ (z : Vals × PartEnds). RowStands room own no_form p q p z) (ok_is Departure (no_val, ends (cursor p) q) y e) (no_part, refl, ext_self q.here.met))
  each_stands ex so room own (then_form s ss) p q h y e f ext =
      let a = bind_ok (bu room (for_last ss own) s (cursor p) q) (λ x. built_each (bu room) own ss x.1.flat x.1.all >>= λ z. Ok (then_val x.0 z.0, z.1)) y e in
      let b = bind_ok (built_each (bu room) own ss a.0.1.flat a.0.1.all) (λ z. Ok (then_val a.0.0 z.0, z.1)) y a.2 in
      let d = bind_ok (sc room (for_last ss own) s p) (λ x. each (sc room) own ss x) h f in
      let g = so room (for_last ss own) s p q d.0 a.0 a.1 d.1 (ext_then d.0.met h.met q.here.met (each_ext types order octets sc ex room own ss d.0 h d.2) ext) in
      let same : built_each (bu room) own ss a.0.1.flat a.0.1.all ≡ built_each (bu room) own ss (cursor d.0) a.0.1.all = ap (λ (c : Cursor). built_each (bu room) own ss c a.0.1.all) g.1 in
      let r = each_stands ex so room own ss d.0 a.0.1.all h b.0 (sym same ∙ b.1) d.2 (ext_then h.met q.here.met a.0.1.all.here.met ext g.2) in
      subst (λ (z : Vals × PartEnds). RowStands room own (then_form s ss) p q h z) (ok_is Departure (then_val a.0.0 b.0.0, b.0.1) y b.2)
      (then_part g.0 r.0, r.1, ext_then q.here.met a.0.1.all.here.met b.0.1.all.here.met g.2 r.2)

  abbrev ManyStand : ℕ → ℕ → Form → Place → Last → Place → Vals × PartEnds → Type 0
  ManyStand room n s p q h y = Items types order octets room n s y.0 p h q y.1.all × (y.1.flat ≡ cursor h) × Ext q.here.met y.1.all.here.met

  times_stand : Extends → AllStand → (room : ℕ) (s : Form) (n : ℕ) (p : Place) (q : Last) (h : Place) (y : Vals × PartEnds) → built_times (bu room None s) n (cursor p) q ≡ Ok y → times (sc room None s) n p ≡ Ok h
      → Ext h.met q.here.met → ManyStand room n s p q h y
  times_stand ex so room s zero p q h y e f ext =
      subst (λ (x : Place). ManyStand room zero s p q x y) (ok_is Departure p h f)
      (subst (λ (z : Vals × PartEnds). ManyStand room zero s p q p z) (ok_is Departure (no_val, ends (cursor p) q) y e) (no_item, refl, ext_self q.here.met))
  times_stand ex so room s (suc n) p q h y e f ext =
      let a = bind_ok (bu room None s (cursor p) q) (λ x. built_times (bu room None s) n x.1.flat x.1.all >>= λ z. Ok (then_val x.0 z.0, z.1)) y e in
      let b = bind_ok (built_times (bu room None s) n a.0.1.flat a.0.1.all) (λ z. Ok (then_val a.0.0 z.0, z.1)) y a.2 in
      let d = bind_ok (sc room None s p) (λ x. times (sc room None s) n x) h f in
      let g = so room None s p q d.0 a.0 a.1 d.1 (ext_then d.0.met h.met q.here.met (times_ext types order octets sc ex room s n d.0 h d.2) ext) in
      let same : built_times (bu room None s) n a.0.1.flat a.0.1.all ≡ built_times (bu room None s) n (cursor d.0) a.0.1.all = ap (λ (c : Cursor). built_times (bu room None s) n c a.0.1.all) g.1 in
      let r = times_stand ex so room s n d.0 a.0.1.all h b.0 (sym same ∙ b.1) d.2 (ext_then h.met q.here.met a.0.1.all.here.met ext g.2) in
      subst (λ (z : Vals × PartEnds). ManyStand room (suc n) s p q h z) (ok_is Departure (then_val a.0.0 b.0.0, b.0.1) y b.2)
      (then_item g.0 r.0, r.1, ext_then q.here.met a.0.1.all.here.met b.0.1.all.here.met g.2 r.2)

  abbrev Referred : ℕ → Form → Last → Val × Last → Type 0
  Referred room s q z = (r : ℕ) × (room ≡ suc r) × (h : Place) × Part types order octets r None s z.0 q.here h (onto h q) z.1 × Ext q.here.met z.1.here.met

  referent_stands : Extends → AllStand → (room i : ℕ) (s : Form) (q : Last) (z : Val × Last) → referent sc bu room i s q ≡ Ok z → Referred room s q z
  referent_stands ex so zero i s q z e = absurd cc
  referent_stands ex so (suc r) i s q z e =
      let a = bind_ok (sc r None s q.here) (λ h. bu r None s (cursor q.here) (onto h q) >>= λ x. Ok (x.0, x.1.all)) z e in
      let b = bind_ok (bu r None s (cursor q.here) (onto a.0 q)) (λ x. Ok (x.0, x.1.all)) z a.2 in
      let g = so r None s q.here (onto a.0 q) a.0 b.0 b.1 a.1 (ext_self a.0.met) in
      subst (λ (w : Val × Last). Referred (suc r) s q w) (ok_is Departure (b.0.0, b.0.1.all) z b.2)
      (r, refl, a.0, g.0, ext_then q.here.met a.0.met b.0.1.all.here.met (ex r None s q.here a.0 a.1) g.2)

  referred_by : (room r : ℕ) (s : Form) (v : Val) (q q' : Last) (h : Place) → suc room ≡ suc r → Part types order octets r None s v q.here h (onto h q) q' → Part types order octets room None s v q.here h (onto h q) q'
  referred_by room r s v q q' h e part =
      let same : r ≡ room = omega (arith, e) in
      subst (λ (n : ℕ). Part types order octets n None s v q.here h (onto h q) q') same part

  -- a piece without referents
  leaf : {A : Type 0} (r : Result (A × ℕ) Departure) (shown : A × ℕ → Val) (room : ℕ) (moved : Option ℕ) (s : Form) (p : Place) (q : Last) (h : Place) (y : Val × PartEnds)
      → ((x : A × ℕ) → r ≡ Ok x → Part types order octets room moved s (shown x) p (past p x.1) q q) → (r >>= λ x. Ok (shown x, ends (ahead (cursor p) x.1) q)) ≡ Ok y → (r >>= λ x. Ok (past p x.1)) ≡ Ok h
      → Stands room moved s p q h y
  leaf r shown room moved s p q h y make e f =
      let a = bind_ok r (λ x. Ok (shown x, ends (ahead (cursor p) x.1) q)) y e in
      let g = sym (through r (λ x. Ok (past p x.1)) a.0 a.1) ∙ f in
      subst (λ (x : Place). Stands room moved s p q x y) (ok_is Departure (past p a.0.1) h g)
      (subst (λ (z : Val × PartEnds). Stands room moved s p q (past p a.0.1) z) (ok_is Departure (shown a.0, ends (ahead (cursor p) a.0.1) q) y a.2) (make a.0 a.1, refl, ext_self q.here.met))

  arm_stands : Extends → AllStand → (room : ℕ) (moved : Option ℕ) (t : Form) (arms : ArmForms) (tag : ℤ) (i j : ℕ) (o : Option Body) (p : Place) (q : Last) (h : Place) (y : Val × PartEnds)
      → IsTag order octets t tag (in_place types (OfUnion t arms) p.at) j → arm_of (OfUnion t arms) tag ≡ o
      → built_arm o i tag (cursor (past p j)) (noting (tag_marks types t (OfUnion t arms) tag p.at) q) (bu room None) ≡ Ok y → arm_scan o i (past p j) (sc room None) ≡ Ok h → Ext h.met q.here.met → Stands room moved (OfUnion t arms) p q h y
  arm_stands ex so room moved t arms tag i j None p q h y at is e f ext = absurd cc
  arm_stands ex so room moved t arms tag i j (Some empty) p q h y at is e f ext =
      subst (λ (x : Place). Stands room moved (OfUnion t arms) p q x y) (ok_is Departure (past p j) h f)
      (subst (λ (z : Val × PartEnds). Stands room moved (OfUnion t arms) p q (past p j) z) (ok_is Departure (VEmpty tag, ends (cursor (past p j)) (noting (tag_marks types t (OfUnion t arms) tag p.at) q)) y e) (an_empty_arm at is, refl, ext_self q.here.met))
  arm_stands ex so room moved t arms tag i j (Some (holds s)) p q h y at is e f ext =
      let a = bind_ok (bu room None s (cursor (past p j)) (noting (tag_marks types t (OfUnion t arms) tag p.at) q)) (λ x. Ok (VUnion tag x.0, x.1)) y e in
      let g = so room None s (past p j) (noting (tag_marks types t (OfUnion t arms) tag p.at) q) h a.0 a.1 f ext in
      subst (λ (z : Val × PartEnds). Stands room moved (OfUnion t arms) p q h z) (ok_is Departure (VUnion tag a.0.0, a.0.1) y a.2) (an_arm at is g.0, g.1, g.2)

  unique_stands : Extends → AllStand → (room : ℕ) (moved : Option ℕ) (s : Form) (p : Place) (q : Last) (h : Place) (id j : ℕ) (y : Val × PartEnds) → Scalar order octets 4 id p.at j
      → unique_by id room p j ≡ Ok h → behind_unique id (cursor (past p j)) q (referent sc bu room (up p.at 4) s q) ≡ Ok y → Stands room moved (OfUnique s) p q h y
  unique_stands ex so room moved s p q h zero j y at f e =
      subst (λ (x : Place). Stands room moved (OfUnique s) p q x y) (ok_is Departure (past p j) h f)
      (subst (λ (z : Val × PartEnds). Stands room moved (OfUnique s) p q (past p j) z) (ok_is Departure (VNull, ends (cursor (past p j)) q) y e) (a_null at, refl, ext_self q.here.met))
  unique_stands ex so zero moved s p q h (suc id) j y at f e = absurd cc
  unique_stands ex so (suc room) moved s p q h (suc id) j y at f e =
      let a = bind_ok (referent sc bu (suc room) (up p.at 4) s q) (λ x. Ok (VPtr x.0, ends (cursor (past p j)) x.1)) y e in
      let b = referent_stands ex so (suc room) (up p.at 4) s q a.0 a.1 in
      subst (λ (x : Place). Stands (suc room) moved (OfUnique s) p q x y) (ok_is Departure (past p j) h f)
      (subst (λ (z : Val × PartEnds). Stands (suc room) moved (OfUnique s) p q (past p j) z) (ok_is Departure (VPtr a.0.0, ends (cursor (past p j)) a.0.1) y a.2)
      (a_unique at (referred_by room b.0 s a.0.0 q a.0.1 b.2 b.1 b.3), refl, b.4))

  ref_stands : Extends → AllStand → (room : ℕ) (moved : Option ℕ) (s : Form) (p : Place) (q : Last) (h : Place) (n j : ℕ) (y : Val × PartEnds) → Scalar order octets 4 n p.at j
      → level room (up p.at 4) (Ok (past p j)) ≡ Ok h → behind_ref (cursor (past p j)) (referent sc bu room (up p.at 4) s q) ≡ Ok y → Stands room moved (OfRef s) p q h y
  ref_stands ex so zero moved s p q h n j y at f e = absurd cc
  ref_stands ex so (suc room) moved s p q h n j y at f e =
      let a = bind_ok (referent sc bu (suc room) (up p.at 4) s q) (λ x. Ok (x.0, ends (cursor (past p j)) x.1)) y e in
      let b = referent_stands ex so (suc room) (up p.at 4) s q a.0 a.1 in
      subst (λ (x : Place). Stands (suc room) moved (OfRef s) p q x y) (ok_is Departure (past p j) h f)
      (subst (λ (z : Val × PartEnds). Stands (suc room) moved (OfRef s) p q (past p j) z) (ok_is Departure (a.0.0, ends (cursor (past p j)) a.0.1) y a.2)
      (a_ref at (referred_by room b.0 s a.0.0 q a.0.1 b.2 b.1 b.3), refl, b.4))

  abbrev one_id_more : Place → ℕ → Cursor
  one_id_more p j = record { at = j; ids = suc (length p.met); handles = length p.wires }

  -- a full pointer, by what was known of its id before it
  known_stands : Extends → AllStand → (room : ℕ) (moved : Option ℕ) (s : Form) (p : Place) (q : Last) (h : Place) (id j : ℕ) (o : Option (ℕ × Form)) (y : Val × PartEnds) → look p.met (suc id) ≡ o → Scalar order octets 4 (suc id) p.at j
      → full_scan room (suc id) s o p j ≡ Ok h → Ext h.met q.here.met → behind_met (up p.at 4) (look q.here.met (suc id)) (cursor (past p j)) q (referent sc bu room (up p.at 4) s (noting (Referent true ∷ []) q)) ≡ Ok y → Stands room moved (OfFull s) p q h y
  known_stands ex so zero moved s p q h id j None y is at f ext e = absurd cc
  known_stands ex so (suc room) moved s p q h id j None y is at f ext e =
      let made = ok_is Departure (with_id p j (suc id) s) h f in
      let grown : Ext (p.met ++ (suc id, s) ∷ []) q.here.met = subst (λ (x : Place). Ext x.met q.here.met) (sym made) ext in
      let lk : look q.here.met (suc id) ≡ Some (length p.met, s) =
      ap (λ (ms : Mets). look ms (suc id)) grown.1 ∙ found_on 0 (p.met ++ (suc id, s) ∷ []) grown.0 (suc id) (length p.met, s) (found_last 0 p.met (suc id) s is ∙ ap (λ (k : ℕ). Some (k, s)) (let z : 0 + length p.met ≡ length p.met = omega arith in z)) in
      let one : behind_met (up p.at 4) (look q.here.met (suc id)) (cursor (past p j)) q (referent sc bu (suc room) (up p.at 4) s (noting (Referent true ∷ []) q)) ≡ behind_known (length p.met) true (cursor (past p j)) q (referent sc bu (suc room) (up p.at 4) s (noting (Referent true ∷ []) q)) =
      ap (λ (o : Option (ℕ × Form)). behind_met (up p.at 4) o (cursor (past p j)) q (referent sc bu (suc room) (up p.at 4) s (noting (Referent true ∷ []) q))) lk
      ∙ ap (λ (b : Bool). behind_known (length p.met) b (cursor (past p j)) q (referent sc bu (suc room) (up p.at 4) s (noting (Referent true ∷ []) q))) (eq_self (length p.met)) in
      let a = bind_ok (referent sc bu (suc room) (up p.at 4) s (noting (Referent true ∷ []) q)) (λ x. Ok (VFull (Some (length p.met)), ends (one_id_more p j) (keeping (length p.met) x.0 x.1))) y (sym one ∙ e) in
      let b = referent_stands ex so (suc room) (up p.at 4) s (noting (Referent true ∷ []) q) a.0 a.1 in
      let count : suc (length p.met) ≡ length (p.met ++ (suc id, s) ∷ []) = omega (arith, length-append p.met ((suc id, s) ∷ [])) in
      let flat : one_id_more p j ≡ cursor (with_id p j (suc id) s) = ap (λ (n : ℕ). record { at = j; ids = n; handles = length p.wires }) count in
      subst (λ (x : Place). Stands (suc room) moved (OfFull s) p q x y) made
      (subst (λ (z : Val × PartEnds). Stands (suc room) moved (OfFull s) p q (with_id p j (suc id) s) z) (ok_is Departure (VFull (Some (length p.met)), ends (one_id_more p j) (keeping (length p.met) a.0.0 a.0.1)) y a.2)
      (a_new at is (referred_by room b.0 s a.0.0 (noting (Referent true ∷ []) q) a.0.1 b.2 b.1 b.3), flat, b.4))
  known_stands ex so room moved s p q h id j (Some m) y is at f ext e =
      let w = when_ok (same m.1 s) (Pointer (up p.at 4)) (Ok (past p j)) h f in
      let made = ok_is Departure (past p j) h w.1 in
      let grown : Ext p.met q.here.met = subst (λ (x : Place). Ext x.met q.here.met) (sym made) ext in
      let lk : look q.here.met (suc id) ≡ Some m = ap (λ (ms : Mets). look ms (suc id)) grown.1 ∙ found_on 0 p.met grown.0 (suc id) m is in
      let below : (m.0 == length p.met) ≡ false = less_not m.0 (length p.met) (let k = found_less 0 p.met (suc id) m is in omega (arith, k)) in
      let one : behind_met (up p.at 4) (look q.here.met (suc id)) (cursor (past p j)) q (referent sc bu room (up p.at 4) s (noting (Referent true ∷ []) q)) ≡ behind_known m.0 false (cursor (past p j)) q (referent sc bu room (up p.at 4) s (noting (Referent true ∷ []) q)) =
      ap (λ (o : Option (ℕ × Form)). behind_met (up p.at 4) o (cursor (past p j)) q (referent sc bu room (up p.at 4) s (noting (Referent true ∷ []) q))) lk
      ∙ ap (λ (b : Bool). behind_known m.0 b (cursor (past p j)) q (referent sc bu room (up p.at 4) s (noting (Referent true ∷ []) q))) below in
      subst (λ (x : Place). Stands room moved (OfFull s) p q x y) made
      (subst (λ (z : Val × PartEnds). Stands room moved (OfFull s) p q (past p j) z) (ok_is Departure (VFull (Some m.0), ends (cursor (past p j)) (noting (Referent false ∷ []) q)) y (sym one ∙ e))
      (a_repeat at is (same_is m.1 s w.0), refl, ext_self q.here.met))

  full_stands : Extends → AllStand → (room : ℕ) (moved : Option ℕ) (s : Form) (p : Place) (q : Last) (h : Place) (id j : ℕ) (y : Val × PartEnds) → Scalar order octets 4 id p.at j
      → full_by id room s p j ≡ Ok h → Ext h.met q.here.met → behind_full id (up p.at 4) (cursor (past p j)) q (referent sc bu room (up p.at 4) s (noting (Referent true ∷ []) q)) ≡ Ok y → Stands room moved (OfFull s) p q h y
  full_stands ex so room moved s p q h zero j y at f ext e =
      subst (λ (x : Place). Stands room moved (OfFull s) p q x y) (ok_is Departure (past p j) h f)
      (subst (λ (z : Val × PartEnds). Stands room moved (OfFull s) p q (past p j) z) (ok_is Departure (VFull None, ends (cursor (past p j)) q) y e) (a_null_full at, refl, ext_self q.here.met))
  full_stands ex so room moved s p q h (suc id) j y at f ext e = known_stands ex so room moved s p q h id j (look p.met (suc id)) y refl at f ext e

  abbrev one_handle_more : Place → ℕ → Cursor
  one_handle_more p j = record { at = j; ids = length p.met; handles = suc (length p.wires) }

  abbrev with_wire : Place → WireHandle × ℕ → Place
  with_wire p x = record { at = x.1; met = p.met; wires = p.wires ++ x.0 ∷ [] }

  one_stands : Extends → AllStand → (room : ℕ) (moved : Option ℕ) (s : Form) (p : Place) (q : Last) (h : Place) (y : Val × PartEnds) → build_at types order octets sc bu room moved s (cursor p) q ≡ Ok y
      → scan_at types order octets room moved (sc room) s p ≡ Ok h → Ext h.met q.here.met → Stands room moved s p q h y
  one_stands ex so room moved OfBool p q h y e f ext = leaf (number order octets 1 p.at) (λ x. VBool (not (x.0 == 0))) room moved OfBool p q h y (λ x is. a_bool (number_is order octets 1 p.at x is)) e f
  one_stands ex so room moved OfByte p q h y e f ext = leaf (number order octets 1 p.at) (λ x. VByte x.0) room moved OfByte p q h y (λ x is. a_byte (number_is order octets 1 p.at x is)) e f
  one_stands ex so room moved OfChar p q h y e f ext = leaf (number order octets 1 p.at) (λ x. VChar x.0) room moved OfChar p q h y (λ x is. a_char (number_is order octets 1 p.at x is)) e f
  one_stands ex so room moved (OfInt size) p q h y e f ext = leaf (number order octets size p.at) (λ x. VInt (signed size x.0)) room moved (OfInt size) p q h y (λ x is. an_int (number_is order octets size p.at x is)) e f
  one_stands ex so room moved (OfUint size) p q h y e f ext = leaf (number order octets size p.at) (λ x. VUint x.0) room moved (OfUint size) p q h y (λ x is. a_uint (number_is order octets size p.at x is)) e f
  one_stands ex so room moved (OfEnum count) p q h y e f ext =
      leaf (name_at order octets count p.at) (λ x. VEnum x.0) room moved (OfEnum count) p q h y (λ x is. let n = name_is order octets count p.at x is in an_enum n.0 n.1) e f
  one_stands ex so room moved (OfText size) p q h y e f ext =
      leaf (chars_at order octets size moved p.at) (λ x. VText x.0) room moved (OfText size) p q h y (λ x is. a_text (chars_are order octets size moved p.at x is)) e f
  one_stands ex so room moved (OfHandle kind) p q h y e f ext =
      let a = bind_ok (wire_at order octets p.at) (λ x. Ok (VHandle (length p.wires), ends (one_handle_more p x.1) q)) y e in
      let g = sym (through (wire_at order octets p.at) (λ x. Ok (with_wire p x)) a.0 a.1) ∙ f in
      let count : suc (length p.wires) ≡ length (p.wires ++ a.0.0 ∷ []) = omega (arith, length-append p.wires (a.0.0 ∷ [])) in
      let flat : one_handle_more p a.0.1 ≡ cursor (with_wire p a.0) = ap (λ (n : ℕ). record { at = a.0.1; ids = length p.met; handles = n }) count in
      subst (λ (x : Place). Stands room moved (OfHandle kind) p q x y) (ok_is Departure (with_wire p a.0) h g)
      (subst (λ (z : Val × PartEnds). Stands room moved (OfHandle kind) p q (with_wire p a.0) z) (ok_is Departure (VHandle (length p.wires), ends (one_handle_more p a.0.1) q) y a.2)
      (a_handle (wire_is order octets p.at a.0 a.1), flat, ext_self q.here.met))
  one_stands ex so room moved (OfNamed c switch) p q h y e f ext =
      let a = type_is (slice_get types c) p.at (λ s. bu room moved s (cursor p) q) y e in
      let g = sym (ap (λ (o : Option Form). of_type o p.at (λ s. sc room moved s p)) a.1) ∙ f in
      let r = so room moved a.0 p q h y a.2 g ext in
      (a_name a.1 r.0, r.1, r.2)
  one_stands ex so room moved (OfStruct ss) p q h y e f ext =
      let a = bind_ok (struct_at order octets types ss moved p.at) (λ x. in_struct (built_each (bu room) x.0 ss (ahead (cursor p) x.1) (noting (opened_marks moved x.0 p.at) q))) y e in
      let b = bind_ok (built_each (bu room) a.0.0 ss (cursor (past p a.0.1)) (noting (opened_marks moved a.0.0 p.at) q)) (λ x. Ok (VStruct x.0, x.1)) y a.2 in
      let g = sym (through (struct_at order octets types ss moved p.at) (λ x. each (sc room) x.0 ss (past p x.1)) a.0 a.1) ∙ f in
      let r = each_stands ex so room a.0.0 ss (past p a.0.1) (noting (opened_marks moved a.0.0 p.at) q) h b.0 b.1 g ext in
      subst (λ (z : Val × PartEnds). Stands room moved (OfStruct ss) p q h z) (ok_is Departure (VStruct b.0.0, b.0.1) y b.2) (a_struct (begins order octets types ss moved p.at a.0 a.1) r.0, r.1, r.2)
  one_stands ex so room moved (OfUnion t arms) p q h y e f ext =
      let start = in_place types (OfUnion t arms) p.at in
      let a = bind_ok (tag_at order octets t arms start) (λ x. built_arm (arm_of (OfUnion t arms) x.0) (up start (tag_size t)) x.0 (ahead (cursor p) x.1) (noting (tag_marks types t (OfUnion t arms) x.0 p.at) q) (bu room None)) y e in
      let g = sym (through (tag_at order octets t arms start) (λ x. arm_scan (arm_of (OfUnion t arms) x.0) (up start (tag_size t)) (past p x.1) (sc room None)) a.0 a.1) ∙ f in
      arm_stands ex so room moved t arms a.0.0 (up start (tag_size t)) a.0.1 (arm_of (OfUnion t arms) a.0.0) p q h y (tag_is order octets t arms start a.0 a.1) refl a.2 g ext
  one_stands ex so room moved (OfArray kind s) p q h y e f ext =
      let a = bind_ok (array_at order octets kind moved p.at) (λ x. in_array (built_times (bu room None s) x.0.actual (ahead (cursor p) x.1) (noting (count_marks kind moved x.0 p.at x.1) q))) y e in
      let b = bind_ok (built_times (bu room None s) a.0.0.actual (cursor (past p a.0.1)) (noting (count_marks kind moved a.0.0 p.at a.0.1) q)) (λ x. Ok (VArray x.0, x.1)) y a.2 in
      let g = sym (through (array_at order octets kind moved p.at) (λ x. times (sc room None s) x.0.actual (past p x.1)) a.0 a.1) ∙ f in
      let r = times_stand ex so room s a.0.0.actual (past p a.0.1) (noting (count_marks kind moved a.0.0 p.at a.0.1) q) h b.0 b.1 g ext in
      subst (λ (z : Val × PartEnds). Stands room moved (OfArray kind s) p q h z) (ok_is Departure (VArray b.0.0, b.0.1) y b.2) (an_array (array_is order octets kind moved p.at a.0 a.1) r.0, r.1, r.2)
  one_stands ex so room moved (OfRef s) p q h y e f ext =
      let a = bind_ok (number order octets 4 p.at) (λ x. behind_ref (ahead (cursor p) x.1) (referent sc bu room (up p.at 4) s q)) y e in
      let g = sym (through (number order octets 4 p.at) (λ x. level room (up p.at 4) (Ok (past p x.1))) a.0 a.1) ∙ f in
      ref_stands ex so room moved s p q h a.0.0 a.0.1 y (number_is order octets 4 p.at a.0 a.1) g a.2
  one_stands ex so room moved (OfUnique s) p q h y e f ext =
      let a = bind_ok (number order octets 4 p.at) (λ x. behind_unique x.0 (ahead (cursor p) x.1) q (referent sc bu room (up p.at 4) s q)) y e in
      let g = sym (through (number order octets 4 p.at) (λ x. unique_by x.0 room p x.1) a.0 a.1) ∙ f in
      unique_stands ex so room moved s p q h a.0.0 a.0.1 y (number_is order octets 4 p.at a.0 a.1) g a.2
  one_stands ex so room moved (OfFull s) p q h y e f ext =
      let a = bind_ok (number order octets 4 p.at) (λ x. behind_full x.0 (up p.at 4) (ahead (cursor p) x.1) q (referent sc bu room (up p.at 4) s (noting (Referent true ∷ []) q))) y e in
      let g = sym (through (number order octets 4 p.at) (λ x. full_by x.0 room s p x.1) a.0 a.1) ∙ f in
      full_stands ex so room moved s p q h a.0.0 a.0.1 y (number_is order octets 4 p.at a.0 a.1) g ext a.2

module _ (types : List Form) (order : Order) (octets : List ℕ) where
  scan_ext : (n room : ℕ) (moved : Option ℕ) (s : Form) (p h : Place) → scan types order octets n room moved s p ≡ Ok h → Ext p.met h.met
  unfolding scan
  scan_ext zero room moved s p h f = absurd cc
  scan_ext (suc n) room moved s p h f = one_ext types order octets (scan types order octets n) (scan_ext n) room moved s p h f

  pub build_stands : (n room : ℕ) (moved : Option ℕ) (s : Form) (p : Place) (q : Last) (h : Place) (y : Val × PartEnds) → build types order octets n room moved s (cursor p) q ≡ Ok y
      → scan types order octets n room moved s p ≡ Ok h → Ext h.met q.here.met → Stands types order octets (scan types order octets n) (build types order octets n) room moved s p q h y
  unfolding scan build
  build_stands zero room moved s p q h y e f ext = absurd cc
  build_stands (suc n) room moved s p q h y e f ext =
      one_stands types order octets (scan types order octets n) (build types order octets n) (scan_ext n) (build_stands n) room moved s p q h y e f ext

  -- a value with its referents
  pub whole_stands : (n room : ℕ) (s : Form) (q : Last) (z : Val × Last) → whole types order octets n room s q ≡ Ok z → Whole types order octets room s z.0 q z.1
  whole_stands n room s q z e =
      let a = bind_ok (scan types order octets n room None s q.here) (λ h. build types order octets n room None s (cursor q.here) (onto h q) >>= λ x. Ok (x.0, x.1.all)) z e in
      let b = bind_ok (build types order octets n room None s (cursor q.here) (onto a.0 q)) (λ x. Ok (x.0, x.1.all)) z a.2 in
      let g = build_stands n room None s q.here (onto a.0 q) a.0 b.0 b.1 a.1 (ext_self a.0.met) in
      subst (λ (w : Val × Last). Whole types order octets room s w.0 q w.1) (ok_is Departure (b.0.0, b.0.1.all) z b.2) (record { h = a.0; part = g.0 })
