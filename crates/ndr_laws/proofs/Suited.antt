-- The values of a message that has a stub suit their shapes.
use Rattle.std.proofs.Common.{◌≡◌, ℕ, suc, ◌+◌, ◌-◌, ◌^◌, ◌<◌, ℤ, pos, Bool, true, false, cond, List, [], ◌∷◌, ◌++◌, length, length-append, append_assoc, map, take, drop, Option, Some, None, refl, sym, ap, subst, ◌∙◌, arith, inl, inr}
use Rattle.std.specs.Prelude.{◌==◌, ◌||◌, not, nat_lt, position, slice_get, if◌then◌else◌}
use Rattle.std.specs.List.{position_or_len}
use Rattle.ndr_table.specs.Aligned.{is_last}
use Rattle.std.proofs.lemmas.List.{append-nil, append_cancel_left, map-append}
use Rattle.rpc_base.specs.declared.identifiers.Order.{Order}
use Rattle.rpc_base.specs.Fields.{IsOctets, FitsHandle}
use Rattle.rpc_base.proofs.FieldLaws.{IsOctets-drop, IsOctets-take}
use Rattle.ndr_value.specs.declared.shape.Count.{Count}
use Rattle.ndr_value.specs.declared.shape.ArrayKind.{ArrayKind}
use Rattle.ndr_value.specs.Forms.{Form, OfFull, OfUnion, Forms, Body, holds}
use Rattle.ndr_value.specs.Fits.{has_nul, arm_of}
use Rattle.ndr_value.specs.Values.{Val, VFull, Vals, no_val, then_val, count_of}
use Rattle.ndr_scalars.specs.Scalars.{up}
use Rattle.ndr_arrays.specs.declared.counts.Counts.{Counts}
use Rattle.ndr_arrays.specs.Counted.{moved_most, a_most, HasActual, HasCounts, of_fixed, of_varying, of_conformant, of_both}
use Rattle.ndr_arrays.specs.Texts.{IsText}
use Rattle.ndr_model.specs.declared.mark.Mark.{Mark}
use Rattle.ndr_model.specs.declared.mark.Mark.TheVariants.{Number, Referent}
use Rattle.ndr_model.specs.Places.{Place, Last, noting, look_from}
use Rattle.ndr_model.specs.Part.{IsWire, IsTag, tag_bool, tag_char, tag_int, tag_uint, tag_enum, tag_size, in_place, opens_with, Opens, in_a_greater, in_front, not_open, Part, a_bool, a_byte, a_char, an_int, a_uint, an_enum, a_handle, a_text, a_name, a_struct, an_empty_arm, an_arm, an_array, a_ref, a_null, a_unique, a_null_full, a_new, a_repeat, Parts, no_part, then_part, Items, no_item, then_item, opened_marks, count_marks, tag_marks}
use Rattle.ndr_model.specs.Named.{Call, nth}
use Rattle.ndr_model.specs.Agree.{Stood, Fronts, fronts_greater, fronts, fronts_none, most_in_front, most_here, AgreesCounts, agrees_fixed, agrees_varying, agrees_conformant, agrees_both, Agrees, plainly, by_name, by_members, by_empty_arm, by_arm, by_array, by_ref, by_null, by_pointer, by_null_full, by_new, by_repeat, AgreesEach, no_member_left, member_then, AgreesAll, all_plainly, no_element_left, element_then}
use Rattle.ndr_model.proofs.Mets.{Mets, Ext, ext_self, ext_then}
use Rattle.ndr_laws.proofs.Grows.{part_grows, parts_grow, items_grow}
use Rattle.ndr_model.specs.Fits.{Holds, HoldsTag, SuitsText, SuitsCounts, counts_fixed, counts_varying, counts_conformant, counts_both, Seen, with_item, Suits, suits_bool, suits_byte, suits_char, suits_int, suits_uint, suits_enum, suits_handle, suits_text, suits_name, suits_struct, suits_empty_arm, suits_arm, suits_array, suits_ref, suits_null, suits_unique, suits_null_full, suits_new, suits_repeat, SuitEach, no_member, then_member, SuitAll, no_element, then_element, SuitsRange, SuitEntries, no_entry, then_entry}
use Rattle.ndr_model.specs.Fits as holding
use Rattle.ndr_laws.proofs.Texts.{scalar_fits}
use Rattle.ndr_laws.proofs.Leaves.{handle_fits, signed_fits}
use Rattle.ndr_laws.proofs.Counts.{texted, placed_nul, mark_is}
use Rattle.ndr_laws.proofs.Marks.{part_notes, parts_note, items_note, tied_first}
use Rattle.ndr_laws.proofs.Kept.{In, Kept, ext_le, that_item, parts_leave, items_leave, kept_first, kept_second, kept_inner, kept_new}

-- a max_count in front of a structure, as it was read and as it is compared
pub data Tells : Option ℕ → Option Stood → Type 0 where
  tells_none : Tells None None
  tells : {most i : ℕ} → most < 2 ^ 32 → Tells (Some most) (Some (i, pos most))

tells_last : {moved : Option ℕ} {stood : Option Stood} (b : Bool) → Tells moved stood → Tells (if b then moved else None) (if b then stood else None)
tells_last true t = t
tells_last false t = tells_none

shapes_long : (ms : Mets) → length (map (λ m. m.1) ms) ≡ length ms
shapes_long [] = refl
shapes_long (m ∷ ms) = ap suc (shapes_long ms)

-- what was seen before a place
abbrev pub seen : Place → Seen
seen p = record { shapes = map (λ m. m.1) p.met; wires = p.wires }

same_held : (o : Option Body) (s t : Form) → o ≡ Some (holds s) → o ≡ Some (holds t) → t ≡ s
same_held o s t e f = let g : Some (holds s) ≡ Some (holds t) = sym e ∙ f in cc

same_some : {A : Type 0} (x y : A) → Some x ≡ Some y → x ≡ y
same_some x y e = cc

referent_is : (b c : Bool) (ms ns : List Mark) → Referent b ∷ ms ≡ Referent c ∷ ns → (b ≡ c) × (ms ≡ ns)
referent_is b c ms ns e = (cc, cc)

any_is : (i j : ℕ) (y z : ℤ) (ms ns : List Mark) → Number i y ∷ ms ≡ Number j z ∷ ns → ms ≡ ns
any_is i j y z ms ns e = cc

neither : {A : Type 0} (b : Bool) → b ≡ true → b ≡ false → A
neither b t f = absurd (let e : true ≡ false = sym t ∙ f in cc)

bit_fits : (b : Bool) → (if b then 0 else 1) < 2
bit_fits true = omega arith
bit_fits false = omega arith

-- the shape behind an id that was met stands at its number
step_shape : (b : Bool) (n : ℕ) (m x : ℕ × Form) (o : Option (ℕ × Form)) (ss : List Form) → ((j : ℕ) × (x.0 ≡ suc n + j) × (slice_get ss j ≡ Some x.1) → (j : ℕ) × (x.0 ≡ n + j) × (slice_get (m.1 ∷ ss) j ≡ Some x.1))
step_shape b n m x o ss r = (suc r.0, r.1 ∙ (let z : suc n + r.0 ≡ n + suc r.0 = omega arith in z), r.2)

shape_by : (b : Bool) (n : ℕ) (m x : ℕ × Form) (o : Option (ℕ × Form)) (ss : List Form) → cond b (Some (n, m.1)) o ≡ Some x → (o ≡ Some x → (j : ℕ) × (x.0 ≡ suc n + j) × (slice_get ss j ≡ Some x.1))
    → (j : ℕ) × (x.0 ≡ n + j) × (slice_get (m.1 ∷ ss) j ≡ Some x.1)
shape_by true n m x o ss e go =
    let f : (n, m.1) ≡ x = same_some (n, m.1) x e in
    (0, sym (ap (λ (y : ℕ × Form). y.0) f) ∙ (let z : n ≡ n + 0 = omega arith in z), ap (λ (y : ℕ × Form). Some y.1) f)
shape_by false n m x o ss e go = step_shape false n m x o ss (go e)

shape_at : (n : ℕ) (ms : Mets) (id : ℕ) (x : ℕ × Form) → look_from n ms id ≡ Some x → (j : ℕ) × (x.0 ≡ n + j) × (slice_get (map (λ m. m.1) ms) j ≡ Some x.1)
shape_at n [] id x e = absurd cc
shape_at n (m ∷ ms) id x e = shape_by (m.0 == id) n m x (look_from (suc n) ms id) (map (λ m. m.1) ms) e (shape_at (suc n) ms id x)

-- a text up to its first NUL has none
nul_step : (c : ℕ) (octs : List ℕ) (b : Bool) → (c == 0) ≡ b → cond (not b) (1 + position_or_len (λ x. x == 0) (octs ++ 0 ∷ [])) 0 ≡ suc (length octs) → (position_or_len (λ x. x == 0) (octs ++ 0 ∷ []) ≡ length octs → has_nul octs ≡ false) → has_nul (c ∷ octs) ≡ false
nul_step c octs true e f go = absurd (omega (arith, f))
nul_step c octs false e f go = ap (λ (b : Bool). b || has_nul octs) e ∙ go (omega (arith, f))

first_free : (octs : List ℕ) → position_or_len (λ c. c == 0) (octs ++ 0 ∷ []) ≡ length octs → has_nul octs ≡ false
first_free [] e = refl
first_free (c ∷ octs) e = nul_step c octs (c == 0) refl e (first_free octs)

free_of_nul : (octs : List ℕ) → position (λ c. c == 0) (octs ++ 0 ∷ []) ≡ Some (length octs) → has_nul octs ≡ false
free_of_nul octs e = first_free octs (placed_nul (nat_lt (position_or_len (λ c. c == 0) (octs ++ 0 ∷ [])) (length (octs ++ 0 ∷ []))) (position_or_len (λ c. c == 0) (octs ++ 0 ∷ [])) (length octs) e)

items_count : {types : List Form} {order : Order} {octets : List ℕ} {room c : ℕ} {s : Form} {vs : Vals} {p p' : Place} {q q' : Last} → Items types order octets room c s vs p p' q q' → count_of vs ≡ c
items_count no_item = refl
items_count (then_item part ps) = ap suc (items_count ps)

-- elements of an array agree one by one
record FirstAgrees (types : List Form) (call : Call) (room : ℕ) (body : Vals) (s : Form) (v : Val) (vs : Vals) (ms ms' : List Mark) : Type 0 where
  middle : List Mark
  one : Agrees types call room body None None s v ms middle
  others : AgreesAll types call room body s vs middle ms'

module _ {types : List Form} {call : Call} where
  first_agrees : {room : ℕ} {body : Vals} {s : Form} {v : Val} {vs : Vals} {ms ms' : List Mark} → AgreesAll types call room body s (then_val v vs) ms ms' → FirstAgrees types call room body s v vs ms ms'
  first_agrees (all_plainly {ms = ms} is) = record { middle = ms; one = plainly is; others = all_plainly is }
  first_agrees (element_then {ms1 = ms1} is a as') = record { middle = ms1; one = a; others = as' }

  none_agree : {room : ℕ} {body : Vals} {s : Form} {ms ms' : List Mark} → AgreesAll types call room body s no_val ms ms' → ms ≡ ms'
  none_agree (all_plainly is) = refl
  none_agree no_element_left = refl

module _ (types : List Form) (before : Order) (call : Call) (old : List ℕ) (fits : IsOctets old) where
  tag_suits : {t : Form} {z : ℤ} {i j : ℕ} → IsTag before old t z i j → HoldsTag t z
  tag_suits (tag_bool {n = n} s) = holding.tag_bool (bit_fits (n == 0))
  tag_suits (tag_char {n = n} {i = i} {j = j} s) = holding.tag_char (scalar_fits before old 1 n i j fits s)
  tag_suits (tag_int {size = size} {n = n} {i = i} {j = j} s) = holding.tag_int (signed_fits size n (scalar_fits before old size n i j fits s))
  tag_suits (tag_uint {size = size} {n = n} {i = i} {j = j} s lt) = holding.tag_uint (scalar_fits before old size n i j fits s) lt
  tag_suits (tag_enum {n = n} {i = i} {j = j} s lt) = holding.tag_enum (scalar_fits before old 2 n i j fits s) lt

  wire_suits : {w : _} {i j : ℕ} → IsWire before old w i j → FitsHandle w
  wire_suits {w} {i} {j} s = subst FitsHandle (sym s.is) (handle_fits before (take 20 (drop (up i 4) old)) (IsOctets-take 20 (drop (up i 4) old) (IsOctets-drop (up i 4) old fits)))

  actual_fits : {most actual i j : ℕ} → HasActual before old most actual i j → actual < 2 ^ 32
  actual_fits {most} {actual} {i} {j} h = scalar_fits before old 4 actual h.h j fits h.actual_count

  module _ (body : Vals) where
    counts_suit : {moved : Option ℕ} {stood : Option Stood} {kind : ArrayKind} {k : Counts} {i j : ℕ} {ms ms1 : List Mark} (rest : List Mark) → HasCounts before old moved kind k i j → AgreesCounts call body stood kind ms ms1 → Tells moved stood
        → count_marks kind moved k i j ++ rest ≡ ms → (ms1 ≡ rest) × SuitsCounts call body kind k.actual
    counts_suit rest of_fixed agrees_fixed t e = (sym e, counts_fixed)
    counts_suit rest (of_varying {n = n} {actual = actual} {j = j} h) (agrees_varying {i = i1} {z = z} {ms = ms1} is) t e =
        let f = mark_is (j - 4) i1 (pos actual) z rest ms1 e in (sym f.1, counts_varying (actual_fits h) h.fits (is ∙ ap Some (sym f.0)))
    counts_suit rest (of_conformant moved_most) (agrees_conformant (most_in_front is)) (tells lt) e = (sym e, counts_conformant lt is)
    counts_suit rest (of_conformant (a_most {most = most} {i = i} {j = j} s)) (agrees_conformant (most_here {i = i1} {z = z} {ms = ms1} is)) tells_none e =
        let f = mark_is (up i 4) i1 (pos most) z rest ms1 e in (sym f.1, counts_conformant (scalar_fits before old 4 most i j fits s) (is ∙ ap Some (sym f.0)))
    counts_suit rest (of_both {actual = actual} {j = j} moved_most h) (agrees_both {i = i1} {z = z} {ms' = ms1} (most_in_front is) count_is) (tells lt) e =
        let f = mark_is (j - 4) i1 (pos actual) z rest ms1 e in (sym f.1, counts_both lt h.fits is (count_is ∙ ap Some (sym f.0)))
    counts_suit rest (of_both {actual = actual} {j = j} (a_most {most = most} {i = i} {j = h0} s) h) (agrees_both {i = i2} {z = z} {ms' = ms1} (most_here {i = i1} {z = y} is) count_is) tells_none e =
        let f = mark_is (up i 4) i1 (pos most) y (Number (j - 4) (pos actual) ∷ rest) (Number i2 z ∷ ms1) e in
        let g = mark_is (j - 4) i2 (pos actual) z rest ms1 f.1 in
        (sym g.1, counts_both (scalar_fits before old 4 most i h0 fits s) h.fits (is ∙ ap Some (sym f.0)) (count_is ∙ ap Some (sym g.0)))
    counts_suit rest (of_conformant moved_most) (agrees_conformant (most_here is)) t e = elim t [ ]
    counts_suit rest (of_conformant (a_most s)) (agrees_conformant (most_in_front is)) t e = elim t [ ]
    counts_suit rest (of_both moved_most h) (agrees_both (most_here is) count_is) t e = elim t [ ]
    counts_suit rest (of_both (a_most s) h) (agrees_both (most_in_front is) count_is) t e = elim t [ ]

  opening_suits : {ss : Forms} {moved own : Option ℕ} {stood own_stood : Option Stood} {i k : ℕ} {ms ms1 : List Mark} (rest : List Mark) → Opens types before old ss moved own i k → Fronts types ss stood own_stood ms ms1 → Tells moved stood
      → opened_marks moved own i ++ rest ≡ ms → (ms1 ≡ rest) × Tells own own_stood
  opening_suits rest in_a_greater fronts_greater (tells lt) e = (sym e, tells lt)
  opening_suits rest (in_front {most = most} {i = i} {j = j} is s) (fronts {i = i1} {z = z} {ms = ms1} too) tells_none e =
      let f = mark_is (up i 4) i1 (pos most) z rest ms1 e in (sym f.1, subst (λ (y : ℤ). Tells (Some most) (Some (i1, y))) f.0 (tells (scalar_fits before old 4 most i j fits s)))
  opening_suits rest (not_open is) (fronts_none too) tells_none e = (sym e, tells_none)
  opening_suits {ss} rest (in_front is s) (fronts_none too) t e = neither (opens_with types ss) is too
  opening_suits {ss} rest (not_open is) (fronts too) t e = neither (opens_with types ss) too is
  opening_suits rest in_a_greater (fronts too) t e = elim t [ ]
  opening_suits rest in_a_greater (fronts_none too) t e = elim t [ ]
  opening_suits rest (in_front is s) fronts_greater t e = elim t [ ]
  opening_suits rest (not_open is) fronts_greater t e = elim t [ ]

  text_suits : {size moved : Option ℕ} {octs : List ℕ} {i j : ℕ} → IsText before old size moved octs i j → SuitsText size octs
  text_suits {size} {moved} {octs} {i} {j} s = let t = texted before old size moved octs i j fits s in record { small = t.small; room = t.room; no_nul = free_of_nul octs t.nul }

  abbrev Done : ℕ → Vals → Option Count → Form → Val → Place → Place → Last → Last → List Mark → List Mark → Type 0
  Done room body link s v p p' q q' ms' rest = (ms' ≡ rest) × Suits types call room body link s v (seen p) (seen p') (seen q.here) (seen q'.here)

  mutual
    pub part_suits : {room : ℕ} {moved : Option ℕ} {s : Form} {v : Val} {p p' : Place} {q q' : Last} → Part types before old room moved s v p p' q q' → {body : Vals} {link : Option Count} {stood : Option Stood} {ms ms' : List Mark}
        → Agrees types call room body link stood s v ms ms' → Tells moved stood → (rest : List Mark) → q.marks ++ ms ≡ q'.marks ++ rest → Ext p'.met q.here.met → Kept call.said.heap p p' q q' → Done room body link s v p p' q q' ms' rest
    part_suits (a_bool {q = q} at) (plainly {ms = ms} is) t rest e ext kept = (append_cancel_left q.marks ms rest e, suits_bool)
    part_suits (a_byte {n = n} {j = j} {p = p} {q = q} at) (plainly {ms = ms} is) t rest e ext kept = (append_cancel_left q.marks ms rest e, suits_byte (scalar_fits before old 1 n p.at j fits at))
    part_suits (a_char {n = n} {j = j} {p = p} {q = q} at) (plainly {ms = ms} is) t rest e ext kept = (append_cancel_left q.marks ms rest e, suits_char (scalar_fits before old 1 n p.at j fits at))
    part_suits (an_int {size = size} {n = n} {j = j} {p = p} {q = q} at) (plainly {ms = ms} is) t rest e ext kept = (append_cancel_left q.marks ms rest e, suits_int (signed_fits size n (scalar_fits before old size n p.at j fits at)))
    part_suits (a_uint {size = size} {n = n} {j = j} {p = p} {q = q} at) (plainly {ms = ms} is) t rest e ext kept = (append_cancel_left q.marks ms rest e, suits_uint (scalar_fits before old size n p.at j fits at))
    part_suits (an_enum {n = n} {j = j} {p = p} {q = q} at lt) (plainly {ms = ms} is) t rest e ext kept = (append_cancel_left q.marks ms rest e, suits_enum (scalar_fits before old 2 n p.at j fits at) lt)
    part_suits (a_handle {q = q} at) (plainly {ms = ms} is) t rest e ext kept = (append_cancel_left q.marks ms rest e, suits_handle (wire_suits at))
    part_suits (a_text {q = q} at) (plainly {ms = ms} is) t rest e ext kept = (append_cancel_left q.marks ms rest e, suits_text (text_suits at))
    part_suits (a_name {room = room} {s = s} {v = v} is part) (by_name {body = body} {switch = switch} {moved = stood} {s = u} {ms = ms} {ms' = ms'} too a) t rest e ext kept =
        let same : u ≡ s = same_some u s (sym too ∙ is) in
        let r = part_suits part (subst (λ (x : Form). Agrees types call room body switch stood x v ms ms') same a) t rest e ext kept in (r.0, suits_name is r.1)
    part_suits (a_name is part) (plainly z) t rest e ext kept = absurd cc
    part_suits (a_struct {moved = moved} {own = own} {p = p} {q = q} {q' = q'} b ps) (by_members {ms = ms} f as') t rest e ext kept =
        let noted = opened_marks moved own p.at in
        let x = tied_first q.marks noted q'.marks ms rest e (parts_note types before old ps) in
        let o = opening_suits x.0 b.opens f t x.1 in
        let r = parts_suit ps as' o.1 rest (ap (λ (ns : List Mark). (q.marks ++ noted) ++ ns) o.0 ∙ x.2) ext kept in (r.0, suits_struct r.1)
    part_suits (a_struct b ps) (plainly z) t rest e ext kept = absurd cc
    part_suits (an_empty_arm {t = t0} {arms = arms} {tag = z} {p = p} {q = q} at is) (by_empty_arm {i = i1} {z = z1} {ms = ms} bound) t rest e ext kept =
        let own = tag_marks types t0 (OfUnion t0 arms) z p.at in
        let x = tied_first q.marks own (q.marks ++ own) (Number i1 z1 ∷ ms) rest e ([], sym (append-nil (q.marks ++ own))) in
        (sym (any_is (up (in_place types (OfUnion t0 arms) p.at) (tag_size t0)) i1 z z1 x.0 ms x.1) ∙ append_cancel_left (q.marks ++ own) x.0 rest x.2, suits_empty_arm (tag_suits at) bound is)
    part_suits (an_empty_arm at is) (plainly z) t rest e ext kept = absurd cc
    part_suits (an_arm {room = room} {t = t0} {s = s} {arms = arms} {tag = z} {v = v} {p = p} {q = q} {q' = q'} at is part) (by_arm {i = i1} {s = s2} {z = z1} {ms = ms} {ms' = ms'} bound too a) t rest e ext kept =
        let own = tag_marks types t0 (OfUnion t0 arms) z p.at in
        let x = tied_first q.marks own q'.marks (Number i1 z1 ∷ ms) rest e (part_notes types before old part) in
        let left : x.0 ≡ ms = any_is (up (in_place types (OfUnion t0 arms) p.at) (tag_size t0)) i1 z z1 x.0 ms x.1 in
        let same = same_held (arm_of (OfUnion t0 arms) z) s s2 is too in
        let r = part_suits part (subst (λ (y : Form). Agrees types call room no_val None None y v ms ms') same a) tells_none rest (ap (λ (ns : List Mark). (q.marks ++ own) ++ ns) (sym left) ∙ x.2) ext kept in
        (r.0, suits_arm (tag_suits at) bound is r.1)
    part_suits (an_arm at is part) (plainly z) t rest e ext kept = absurd cc
    part_suits (an_array {i = j} {moved = moved} {kind = kind} {counts = c} {vs = vs} {p = p} {q = q} {q' = q'} at ps) (by_array {body = body} {ms = ms} agreed as') t rest e ext kept =
        let own = count_marks kind moved c p.at j in
        let x = tied_first q.marks own q'.marks ms rest e (items_note types before old ps) in
        let o = counts_suit body x.0 at agreed t x.1 in
        let r = items_suit ps as' rest (ap (λ (ns : List Mark). (q.marks ++ own) ++ ns) o.0 ∙ x.2) ext kept in
        (r.0, suits_array (subst (λ (n : ℕ). SuitsCounts call body kind n) (sym (items_count ps)) o.1) r.1)
    part_suits (an_array at ps) (plainly z) t rest e ext kept = absurd cc
    part_suits (a_ref {h = h} {q = q} {q' = q'} at part) (by_ref a) t rest e ext kept =
        let r = part_suits part a tells_none rest e (ext_self h.met) (kept_inner call.said.heap h q q' (part_grows types before old part) (λ (x : ℕ) (y : In q.here q'.here x). kept x (inr y))) in (r.0, suits_ref r.1)
    part_suits (a_ref at part) (plainly z) t rest e ext kept = absurd cc
    part_suits (a_null {q = q} at) (by_null {ms = ms}) t rest e ext kept = (append_cancel_left q.marks ms rest e, suits_null)
    part_suits (a_null at) (plainly z) t rest e ext kept = absurd cc
    part_suits (a_unique {h = h} {q = q} {q' = q'} at part) (by_pointer a) t rest e ext kept =
        let r = part_suits part a tells_none rest e (ext_self h.met) (kept_inner call.said.heap h q q' (part_grows types before old part) (λ (x : ℕ) (y : In q.here q'.here x). kept x (inr y))) in (r.0, suits_unique r.1)
    part_suits (a_unique at part) (plainly z) t rest e ext kept = absurd cc
    part_suits (a_null_full {q = q} at) (by_null_full {ms = ms}) t rest e ext kept = (append_cancel_left q.marks ms rest e, suits_null_full)
    part_suits (a_null_full at) (plainly z) t rest e ext kept = absurd cc
    part_suits (a_new {room = r0} {id = id} {s = s} {v = v} {p = p} {h = h} {q = q} {q' = q'} at free part) (by_new {body = body} {link = link} {v = v2} {ms = ms} {ms' = ms'} is a) t rest e ext kept =
        let num = length p.met in
        let own = Referent true ∷ [] in
        let one : length (p.met ++ (suc id, s) ∷ []) ≡ suc num = omega (arith, length-append p.met ((suc id, s) ∷ [])) in
        let vv : v ≡ v2 = same_some v v2 (sym (that_item num v q'.items) ∙ kept num (inl (omega arith, omega (arith, one))) ∙ is) in
        let agree' = subst (λ (x : Val). Agrees types call r0 body None None s x ms ms') (sym vv) a in
        let x = tied_first q.marks own q'.marks (Referent true ∷ ms) rest e (part_notes types before old part) in
        let r = part_suits part agree' tells_none rest (ap (λ (ns : List Mark). (q.marks ++ own) ++ ns) (sym (referent_is true true x.0 ms x.1).1) ∙ x.2) (ext_self h.met)
        (kept_inner call.said.heap h (noting own q) q' (part_grows types before old part) (kept_new call.said.heap num v (noting own q) q' (let le2 = ext_le (p.met ++ (suc id, s) ∷ []) q.here.met ext in omega (arith, le2, one)) (λ (y : ℕ) (z : In q.here q'.here y). kept y (inr z)))) in
        let shapes : List Form = map (λ m. m.1) p.met in
        let count : length shapes ≡ num = shapes_long p.met in
        let is' : nth call.said.heap (length shapes) ≡ Some v = ap (nth call.said.heap) count ∙ is ∙ ap Some (sym vv) in (
          r.0,
          subst (λ (y : Seen). Suits types call (suc r0) body link (OfFull s) (VFull (Some num)) (seen p) y (seen q.here) (seen q'.here)) (ap (λ (ss : List Form). record { shapes = ss; wires = p.wires }) (sym (map-append (λ m. m.1) p.met ((suc id, s) ∷ []))))
              (subst (λ (n : ℕ). Suits types call (suc r0) body link (OfFull s) (VFull (Some n)) (seen p) (with_item (seen p) s) (seen q.here) (seen q'.here)) count (suits_new is' r.1)),
        )
    part_suits (a_new {q = q} {q' = q'} at free part) (by_repeat {ms = ms}) t rest e ext kept =
        let x = tied_first q.marks (Referent true ∷ []) q'.marks (Referent false ∷ ms) rest e (part_notes types before old part) in
        absurd (let z : true ≡ false = (referent_is true false x.0 ms x.1).0 in cc)
    part_suits (a_new at free part) (plainly z) t rest e ext kept = absurd cc
    part_suits (a_repeat {room = room} {id = id} {n = c} {s = s} {t = u} {p = p} {q = q} at is alike) (by_repeat {body = body} {link = link} {ms = ms}) t rest e ext kept =
        let own = Referent false ∷ [] in
        let x = tied_first q.marks own (q.marks ++ own) (Referent false ∷ ms) rest e ([], sym (append-nil (q.marks ++ own))) in
        let f = shape_at 0 p.met (suc id) (c, u) is in
        let c_is : f.0 ≡ c = (let z : 0 + f.0 ≡ f.0 = omega arith in sym z) ∙ sym f.1 in (
          sym (referent_is false false x.0 ms x.1).1 ∙ append_cancel_left (q.marks ++ own) x.0 rest x.2,
          subst (λ (n : ℕ). Suits types call room body link (OfFull s) (VFull (Some n)) (seen p) (seen p) (seen q.here) (seen q.here)) c_is (suits_repeat f.2 alike),
        )
    part_suits (a_repeat {q = q} at is alike) (by_new {ms = ms} y a) t rest e ext kept =
        let own = Referent false ∷ [] in
        let x = tied_first q.marks own (q.marks ++ own) (Referent true ∷ ms) rest e ([], sym (append-nil (q.marks ++ own))) in
        absurd (let f : false ≡ true = (referent_is false true x.0 ms x.1).0 in cc)
    part_suits (a_repeat at is alike) (plainly z) t rest e ext kept = absurd cc

    parts_suit : {room : ℕ} {own : Option ℕ} {ss : Forms} {vs : Vals} {p p' : Place} {q q' : Last} → Parts types before old room own ss vs p p' q q' → {body : Vals} {stood : Option Stood} {ms ms' : List Mark}
        → AgreesEach types call room body stood ss vs ms ms' → Tells own stood → (rest : List Mark) → q.marks ++ ms ≡ q'.marks ++ rest → Ext p'.met q.here.met → Kept call.said.heap p p' q q'
        → (ms' ≡ rest) × SuitEach types call room body ss vs (seen p) (seen p') (seen q.here) (seen q'.here)
    parts_suit (no_part {q = q}) (no_member_left {ms = ms}) t rest e ext kept = (append_cancel_left q.marks ms rest e, no_member)
    parts_suit (then_part {ss = ss} {p = p} {h = h} {p' = p'} {q = q} {g = g} {q' = q'} part ps) (member_then a as') t rest e ext kept =
        let noted = parts_note types before old ps in
        let grown = part_grows types before old part in
        let grows = parts_grow types before old ps in
        let e1 : g.marks ++ (noted.0 ++ rest) ≡ q'.marks ++ rest = sym (append_assoc g.marks noted.0 rest) ∙ ap (λ (ns : List Mark). ns ++ rest) (sym noted.1) in
        let one = part_suits part a (tells_last (is_last ss) t) (noted.0 ++ rest) (e ∙ sym e1) (ext_then h.met p'.met q.here.met grows.0 ext) (kept_first call.said.heap p h p' q g q' grown grows ext (λ y. parts_leave types before old y ps) kept) in
        let two = parts_suit ps as' t rest (ap (λ (ns : List Mark). g.marks ++ ns) one.0 ∙ e1) (ext_then p'.met q.here.met g.here.met ext grown.1) (kept_second call.said.heap p h p' q g q' grown kept) in
        (two.0, then_member one.1 two.1)

    items_suit : {room c : ℕ} {s : Form} {vs : Vals} {p p' : Place} {q q' : Last} → Items types before old room c s vs p p' q q' → {body : Vals} {ms ms' : List Mark}
        → AgreesAll types call room body s vs ms ms' → (rest : List Mark) → q.marks ++ ms ≡ q'.marks ++ rest → Ext p'.met q.here.met → Kept call.said.heap p p' q q'
        → (ms' ≡ rest) × SuitAll types call room body s vs (seen p) (seen p') (seen q.here) (seen q'.here)
    items_suit (no_item {q = q}) as' rest e ext kept = (sym (none_agree as') ∙ append_cancel_left q.marks _ rest e, no_element)
    items_suit (then_item {p = p} {h = h} {p' = p'} {q = q} {g = g} {q' = q'} part ps) as' rest e ext kept =
        let first = first_agrees as' in
        let noted = items_note types before old ps in
        let grown = part_grows types before old part in
        let grows = items_grow types before old ps in
        let e1 : g.marks ++ (noted.0 ++ rest) ≡ q'.marks ++ rest = sym (append_assoc g.marks noted.0 rest) ∙ ap (λ (ns : List Mark). ns ++ rest) (sym noted.1) in
        let one = part_suits part first.one tells_none (noted.0 ++ rest) (e ∙ sym e1) (ext_then h.met p'.met q.here.met grows.0 ext) (kept_first call.said.heap p h p' q g q' grown grows ext (λ y. items_leave types before old y ps) kept) in
        let two = items_suit ps first.others rest (ap (λ (ns : List Mark). g.marks ++ ns) one.0 ∙ e1) (ext_then p'.met q.here.met g.here.met ext grown.1) (kept_second call.said.heap p h p' q g q' grown kept) in
        (two.0, then_element one.1 two.1)
