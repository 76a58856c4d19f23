-- Values that stand go with the marks that were noted of them: the comparison comes to each count, tag and number with a range, and finds
-- the first that isn't met.
use Rattle.std.proofs.Common.{◌≡◌, ℕ, zero, suc, ◌+◌, ◌-◌, ◌*◌, ◌≤◌, ℤ, pos, Bool, true, false, List, [], ◌∷◌, ◌++◌, length, length-append, append_assoc, Option, Some, None, refl, sym, ap, subst, ◌∙◌, arith, suc-mul, inl, inr}
use Rattle.std.specs.Prelude.{not, ◌==◌, if◌then◌else◌}
use Rattle.std.proofs.lemmas.List.{append-nil, append_cancel_left}
use Rattle.rpc_base.specs.declared.identifiers.Order.{Order}
use Rattle.ndr_value.specs.declared.shape.Count.{Count}
use Rattle.ndr_value.specs.declared.shape.ArrayKind.{ArrayKind}
use Rattle.ndr_value.specs.Forms.{Form, OfBool, OfByte, OfChar, OfInt, OfUint, OfEnum, OfText, OfHandle, OfNamed, OfStruct, OfUnion, OfArray, OfRef, OfUnique, OfFull, Forms, Body}
use Rattle.ndr_value.specs.Values.{Val, VBool, VByte, VChar, VInt, VUint, VEnum, VText, VHandle, VStruct, VEmpty, VUnion, VArray, VNull, VPtr, VFull, Vals, no_val}
use Rattle.ndr_table.specs.Aligned.{is_last}
use Rattle.ndr_scalars.specs.Scalars.{up, signed}
use Rattle.ndr_arrays.specs.declared.counts.Counts.{Counts}
use Rattle.ndr_arrays.specs.Counted.{moved_most, a_most, HasCounts, of_fixed, of_varying, of_conformant, of_both}
use Rattle.ndr_model.specs.declared.departure.Departure.{Departure}
use Rattle.ndr_model.specs.declared.mark.Mark.{Mark}
use Rattle.ndr_model.specs.declared.mark.Mark.TheVariants.{Number, Referent}
use Rattle.ndr_model.specs.Places.{Place, Last, noting}
use Rattle.ndr_model.specs.Part.{tag_size, in_place, opens_with, Opens, in_a_greater, in_front, not_open, Part, a_bool, a_byte, a_char, an_int, a_uint, an_enum, a_handle, a_text, a_name, a_struct, an_empty_arm, an_arm, an_array, a_ref, a_null, a_unique, a_null_full, a_new, a_repeat, Parts, no_part, then_part, Items, no_item, then_item, opened_marks, count_marks, tag_marks}
use Rattle.ndr_model.specs.Named.{Call, nth, named}
use Rattle.ndr_value.specs.Fits.{arm_of}
use Rattle.ndr_value.specs.Forms.{ArmForms, holds}
use Rattle.ndr_model.specs.Agree.{Stood, is_plain, Fronts, fronts_greater, fronts, fronts_none, stood_last}
use Rattle.ndr_model.specs.Compare.{sooner, Check, compare_counts, tied_off, fronted, front_in, Fronted, compare_each, compare_all, compare_arm, compare_referent, compare_tag, Compared, compare_full, compare_type, compare_at, compare}
use Rattle.ndr_model.proofs.Mets.{Ext, ext_self, ext_then}
use Rattle.ndr_laws.proofs.Grounded.{EachForm, Shallow, Targets, EachTarget, Grounded, each_arm, arm_has, type_has}
use Rattle.ndr_laws.proofs.Grows.{part_grows, parts_grow, items_grow}
use Rattle.ndr_laws.proofs.Marks.{Noted, noted_then, part_notes, parts_note, items_note}
use Rattle.ndr_laws.proofs.Kept.{In, Kept, ext_le, that_item, parts_leave, items_leave, kept_first, kept_second, kept_inner, kept_new}
use Rattle.ndr_faults.specs.Asked.{Demand, a_count, tag_demands, asks_most_in_front, asks_most_here, AsksCounts, asks_fixed, asks_varying, asks_conformant, asks_both, Asks, asks_plain, asks_name, asks_members, asks_empty_arm, asks_arm, asks_array, asks_ref, asks_null, asks_unique, asks_null_full, asks_new, asks_repeat, AsksEach, no_member_asks, member_asks, AsksAll, none_asks, no_element_asks, element_asks}
use Rattle.ndr_faults.proofs.Leasts.{least, off_then, sooner_nothing}

same_some : {A : Type 0} (x y : A) → Some x ≡ Some y → x ≡ y
same_some x y e = cc

-- elements in which nothing is named note nothing
module _ {types : List Form} {order : Order} {octets : List ℕ} where
  plain_part : {room : ℕ} {moved : Option ℕ} {s : Form} {v : Val} {p p' : Place} {q q' : Last} → Part types order octets room moved s v p p' q q' → is_plain s ≡ true → q'.marks ≡ q.marks
  plain_part (a_bool at) is = refl
  plain_part (a_byte at) is = refl
  plain_part (a_char at) is = refl
  plain_part (an_int at) is = refl
  plain_part (a_uint at) is = refl
  plain_part (an_enum at lt) is = refl
  plain_part (a_handle at) is = refl
  plain_part (a_text at) is = refl
  plain_part (a_name e part) is = absurd cc
  plain_part (a_struct b ps) is = absurd cc
  plain_part (an_empty_arm at e) is = absurd cc
  plain_part (an_arm at e part) is = absurd cc
  plain_part (an_array at ps) is = absurd cc
  plain_part (a_ref at part) is = absurd cc
  plain_part (a_null at) is = absurd cc
  plain_part (a_unique at part) is = absurd cc
  plain_part (a_null_full at) is = absurd cc
  plain_part (a_new at e part) is = absurd cc
  plain_part (a_repeat at e alike) is = absurd cc

  plain_items : {room n : ℕ} {s : Form} {vs : Vals} {p p' : Place} {q q' : Last} → Items types order octets room n s vs p p' q q' → is_plain s ≡ true → q'.marks ≡ q.marks
  plain_items no_item is = refl
  plain_items (then_item part ps) is = plain_items ps is ∙ plain_part part is

module _ (all : List Mark) where
  -- what is left stands behind the marks before it
  abbrev pub At : List Mark → Check → Type 0
  At pre c = pre ++ c.left ≡ all

  -- from one state to another: what was asked for, and what is found
  pub record Went (D : List Mark → List Mark → List Demand → Type 0) (pre : List Mark) (c c' : Check) : Type 0 where
    pub demands : List Demand
    pub asks : D c.left c'.left demands
    pub off : c'.off ≡ least c.off demands
    pub place : pre ++ c'.left ≡ all

  -- what is left begins with the marks that a part noted first
  pub tied : (pre own ms : List Mark) → pre ++ ms ≡ all → Noted (pre ++ own) all → (more : List Mark) × (ms ≡ own ++ more) × ((pre ++ own) ++ more ≡ all)
  tied pre own ms e n = (n.0, append_cancel_left pre ms (own ++ n.0) (e ∙ n.1 ∙ append_assoc pre own n.0), sym n.1)

  abbrev pub with_left : Check → List Mark → Check
  with_left c ms = record { off = c.off; left = ms }

  -- a state with what is left known
  pub known : (D : List Mark → List Mark → List Demand → Type 0) (f : Check → Check) (pre : List Mark) (c : Check) (ms : List Mark) → c.left ≡ ms → Went D pre (with_left c ms) (f (with_left c ms)) → Went D pre c (f c)
  known D f pre c ms e w = subst (λ (x : List Mark). Went D pre (with_left c x) (f (with_left c x))) (sym e) w

  pub at_own : (pre : List Mark) (c : Check) → At pre c → At (pre ++ []) c
  at_own pre c a = subst (λ (x : List Mark). At x c) (sym (append-nil pre)) a

  -- a max_count in front of a structure, as it was read and as it is compared
  pub data Tells : Option ℕ → Option Stood → Type 0 where
    tells_none : Tells None None
    tells : {most : ℕ} {m : Stood} → Tells (Some most) (Some m)

  tells_last : {moved : Option ℕ} {stood : Option Stood} (b : Bool) → Tells moved stood → Tells (if b then moved else None) (if b then stood else None)
  tells_last true t = t
  tells_last false t = tells_none

  module _ (types : List Form) (order : Order) (octets : List ℕ) (call : Call) where
    counts_compared : (body : Vals) → {moved : Option ℕ} {stood : Option Stood} {kind : ArrayKind} {k : Counts} {i j : ℕ} → HasCounts order octets moved kind k i j → Tells moved stood → (pre : List Mark) (c : Check) → At pre c
        → Noted (pre ++ count_marks kind moved k i j) all → Went (AsksCounts call body stood kind) (pre ++ count_marks kind moved k i j) c (compare_counts call body stood kind c)
    counts_compared body of_fixed t pre c a n = record { demands = []; asks = asks_fixed; off = refl; place = at_own pre c a }
    counts_compared body {stood = stood} (of_varying {n = m} {actual = actual} {j = j} {c = count} h) t pre c a n =
        let x = tied pre (Number (j - 4) (pos actual) ∷ []) c.left a n in
        known (AsksCounts call body stood (ArrayKind.Varying m count)) (compare_counts call body stood (ArrayKind.Varying m count)) (pre ++ Number (j - 4) (pos actual) ∷ []) c (Number (j - 4) (pos actual) ∷ x.0) x.1
        (record { demands = a_count (j - 4) (pos actual) (named call body count) ∷ []; asks = asks_varying; off = refl; place = x.2 })
    counts_compared body (of_conformant {c = count} moved_most) (tells {m = m}) pre c a n =
        record { demands = a_count m.0 m.1 (named call body count) ∷ []; asks = asks_conformant asks_most_in_front; off = refl; place = at_own pre c a }
    counts_compared body (of_conformant {c = count} (a_most {most = most} {i = i} s)) tells_none pre c a n =
        let x = tied pre (Number (up i 4) (pos most) ∷ []) c.left a n in
        known (AsksCounts call body None (ArrayKind.Conformant count)) (compare_counts call body None (ArrayKind.Conformant count)) (pre ++ Number (up i 4) (pos most) ∷ []) c (Number (up i 4) (pos most) ∷ x.0) x.1
        (record { demands = a_count (up i 4) (pos most) (named call body count) ∷ []; asks = asks_conformant asks_most_here; off = refl; place = x.2 })
    counts_compared body (of_both {actual = actual} {j = j} {c = count} {d = len} moved_most h) (tells {m = m}) pre c a n =
        let x = tied pre (Number (j - 4) (pos actual) ∷ []) c.left a n in
        known (AsksCounts call body (Some m) (ArrayKind.ConformantVarying count len)) (compare_counts call body (Some m) (ArrayKind.ConformantVarying count len)) (pre ++ Number (j - 4) (pos actual) ∷ []) c (Number (j - 4) (pos actual) ∷ x.0) x.1
        (record { demands = a_count m.0 m.1 (named call body count) ∷ a_count (j - 4) (pos actual) (named call body len) ∷ []; asks = asks_both asks_most_in_front; off = refl; place = x.2 })
    counts_compared body (of_both {actual = actual} {j = j} {c = count} {d = len} (a_most {most = most} {i = i} s) h) tells_none pre c a n =
        let x = tied pre (Number (up i 4) (pos most) ∷ Number (j - 4) (pos actual) ∷ []) c.left a n in
        known (AsksCounts call body None (ArrayKind.ConformantVarying count len)) (compare_counts call body None (ArrayKind.ConformantVarying count len)) (pre ++ Number (up i 4) (pos most) ∷ Number (j - 4) (pos actual) ∷ []) c
        (Number (up i 4) (pos most) ∷ Number (j - 4) (pos actual) ∷ x.0) x.1
        (record { demands = a_count (up i 4) (pos most) (named call body count) ∷ a_count (j - 4) (pos actual) (named call body len) ∷ []; asks = asks_both asks_most_here; off = refl; place = x.2 })

    -- the tag of a union
    abbrev TagAsks : Vals → Option Count → ℤ → List Mark → List Mark → List Demand → Type 0
    TagAsks body link tag ms ms' ds = (i : ℕ) × (ms ≡ Number i tag ∷ ms') × (ds ≡ tag_demands call body link i tag)

    tag_least : (body : Vals) (link : Option Count) (i : ℕ) (tag : ℤ) (o : Option Departure) → sooner o (tied_off call body link (i, tag)) ≡ least o (tag_demands call body link i tag)
    tag_least body None i tag o = sooner_nothing o
    tag_least body (Some c) i tag o = refl

    tag_compared : (body : Vals) (link : Option Count) (t u : Form) (tag : ℤ) (i : ℕ) (pre : List Mark) (c : Check) → At pre c → Noted (pre ++ tag_marks types t u tag i) all
        → Went (TagAsks body link tag) (pre ++ tag_marks types t u tag i) c (compare_tag call body link tag c)
    tag_compared body link t u tag i pre c a n =
        let place = up (in_place types u i) (tag_size t) in
        let x = tied pre (tag_marks types t u tag i) c.left a n in
        known (TagAsks body link tag) (compare_tag call body link tag) (pre ++ tag_marks types t u tag i) c (Number place tag ∷ x.0) x.1
        (record { demands = tag_demands call body link place tag; asks = (place, refl, refl); off = tag_least body link place tag c.off; place = x.2 })

    empty_asks : (room : ℕ) (body : Vals) (link : Option Count) (moved : Option Stood) (t : Form) (arms : ArmForms) (tag : ℤ) (ms ms' : List Mark) (ds : List Demand) → TagAsks body link tag ms ms' ds
        → Asks types call room body link moved (OfUnion t arms) (VEmpty tag) ms ms' ds
    empty_asks room body link moved t arms tag ms ms' ds x =
        subst (λ (z : List Mark). Asks types call room body link moved (OfUnion t arms) (VEmpty tag) z ms' ds) (sym x.1)
        (subst (λ (z : List Demand). Asks types call room body link moved (OfUnion t arms) (VEmpty tag) (Number x.0 tag ∷ ms') ms' z) (sym x.2) asks_empty_arm)

    arm_asks : (room : ℕ) (body : Vals) (link : Option Count) (moved : Option Stood) (t s : Form) (arms : ArmForms) (tag : ℤ) (v : Val) (ms ms1 ms' : List Mark) (ds es : List Demand) → TagAsks body link tag ms ms1 ds
        → arm_of (OfUnion t arms) tag ≡ Some (holds s) → Asks types call room no_val None None s v ms1 ms' es → Asks types call room body link moved (OfUnion t arms) (VUnion tag v) ms ms' (ds ++ es)
    arm_asks room body link moved t s arms tag v ms ms1 ms' ds es x is asks =
        subst (λ (z : List Mark). Asks types call room body link moved (OfUnion t arms) (VUnion tag v) z ms' (ds ++ es)) (sym x.1)
        (subst (λ (z : List Demand). Asks types call room body link moved (OfUnion t arms) (VUnion tag v) (Number x.0 tag ∷ ms1) ms' (z ++ es)) (sym x.2) (asks_arm is asks))

    -- what stands in front of a structure
    abbrev Front : Forms → Option ℕ → Option Stood → List Mark → Check → Fronted → Type 0
    Front ss own stood pre c f = Tells own f.0 × Fronts types ss stood f.0 c.left f.1.left × (f.1.off ≡ c.off) × At pre f.1

    when_open : (b : Bool) (ss : Forms) (own : Option ℕ) (stood : Option Stood) (pre : List Mark) (c : Check) (f g : Fronted) → b ≡ true → Front ss own stood pre c f → Front ss own stood pre c (if b then f else g)
    when_open true ss own stood pre c f g e x = x
    when_open false ss own stood pre c f g e x = absurd cc

    when_not_open : (b : Bool) (ss : Forms) (own : Option ℕ) (stood : Option Stood) (pre : List Mark) (c : Check) (f g : Fronted) → b ≡ false → Front ss own stood pre c g → Front ss own stood pre c (if b then f else g)
    when_not_open true ss own stood pre c f g e x = absurd cc
    when_not_open false ss own stood pre c f g e x = x

    front_compared : {ss : Forms} {moved own : Option ℕ} {stood : Option Stood} {i k : ℕ} → Opens types order octets ss moved own i k → Tells moved stood → (pre : List Mark) (c : Check) → At pre c
        → Noted (pre ++ opened_marks moved own i) all → Front ss own stood (pre ++ opened_marks moved own i) c (fronted types ss stood c)
    front_compared in_a_greater tells pre c a n = (tells, fronts_greater, refl, at_own pre c a)
    front_compared {ss} (in_front {most = most} {i = i} is s) tells_none pre c a n =
        let m = Number (up i 4) (pos most) in
        let x = tied pre (m ∷ []) c.left a n in
        subst (λ (y : List Mark). Front ss (Some most) None (pre ++ m ∷ []) (with_left c y) (fronted types ss None (with_left c y))) (sym x.1)
        (when_open (opens_with types ss) ss (Some most) None (pre ++ m ∷ []) (with_left c (m ∷ x.0)) (Some (up i 4, pos most), with_left c x.0) (None, with_left c (m ∷ x.0)) is
        (tells, fronts is, refl, x.2))
    front_compared {ss} (not_open is) tells_none pre c a n =
        when_not_open (opens_with types ss) ss None None (pre ++ []) c (front_in c.left c) (None, c) is (tells_none, fronts_none is, refl, at_own pre c a)

    -- a full pointer that brought its id, and one that didn't
    new_compared : (go : ℕ → Compared) (r num : ℕ) (body : Vals) (link : Option Count) (stood : Option Stood) (s : Form) (v : Val) (pre pre' : List Mark) (c : Check) → nth call.said.heap num ≡ Some v → At pre c → Noted (pre ++ Referent true ∷ []) all
        → ((c1 : Check) → At (pre ++ Referent true ∷ []) c1 → Went (Asks types call r body None None s v) pre' c1 (go r body None None s v c1))
        → Went (Asks types call (suc r) body link stood (OfFull s) (VFull (Some num))) pre' c (compare_full go (suc r) call body s (VFull (Some num)) c)
    new_compared go r num body link stood s v pre pre' c is a n h =
        let x = tied pre (Referent true ∷ []) c.left a n in
        let w = h (with_left c x.0) x.2 in
        known (Asks types call (suc r) body link stood (OfFull s) (VFull (Some num))) (compare_full go (suc r) call body s (VFull (Some num))) pre' c (Referent true ∷ x.0) x.1
        (subst (λ (o : Option Val). Went (Asks types call (suc r) body link stood (OfFull s) (VFull (Some num))) pre' (with_left c (Referent true ∷ x.0)) (compare_referent go (suc r) body s o (with_left c x.0))) (sym is)
        (record { demands = w.demands; asks = asks_new is w.asks; off = w.off; place = w.place }))

    repeat_compared : (go : ℕ → Compared) (room num : ℕ) (body : Vals) (link : Option Count) (stood : Option Stood) (s : Form) (pre : List Mark) (c : Check) → At pre c → Noted (pre ++ Referent false ∷ []) all
        → Went (Asks types call room body link stood (OfFull s) (VFull (Some num))) (pre ++ Referent false ∷ []) c (compare_full go room call body s (VFull (Some num)) c)
    repeat_compared go room num body link stood s pre c a n =
        let x = tied pre (Referent false ∷ []) c.left a n in
        known (Asks types call room body link stood (OfFull s) (VFull (Some num))) (compare_full go room call body s (VFull (Some num))) (pre ++ Referent false ∷ []) c (Referent false ∷ x.0) x.1
        (record { demands = []; asks = asks_repeat; off = refl; place = x.2 })

    -- what asks for nothing
    nothing : (room : ℕ) (body : Vals) (link : Option Count) (stood : Option Stood) (s : Form) (v : Val) (c : Check) (pre : List Mark) → is_plain s ≡ true → At pre c → Went (Asks types call room body link stood s v) pre c c
    nothing room body link stood s v c pre is a = record { demands = []; asks = asks_plain is; off = refl; place = a }

    -- one step
    into : (n room : ℕ) (body : Vals) (link : Option Count) (stood : Option Stood) (s : Form) (v : Val) (c : Check) (pre : List Mark)
        → Went (Asks types call room body link stood s v) pre c (compare_at types call (compare types call n) room body link stood s v c) → Went (Asks types call room body link stood s v) pre c (compare types call (suc n) room body link stood s v c)
    unfolding compare
    into n room body link stood s v c pre w = w

    module _ (deep : ℕ) (grounded : Grounded types deep) where
      less : (n room d : ℕ) → suc room * (deep + 1) + suc d ≤ suc n → room * (deep + 1) + deep ≤ n
      less n room d le = omega (arith, le, suc-mul room (deep + 1))

      elements_compared : (b : Bool) (room : ℕ) (body : Vals) (s : Form) (vs : Vals) (pre pre' : List Mark) (c c' : Check) → is_plain s ≡ b → (b ≡ true → pre' ≡ pre) → At pre c
          → (b ≡ false → Went (AsksAll types call room body s vs) pre' c c') → Went (AsksAll types call room body s vs) pre' c (if b then c else c')
      elements_compared true room body s vs pre pre' c c' is same a h = record { demands = []; asks = none_asks is; off = refl; place = subst (λ (x : List Mark). At x c) (sym (same refl)) a }
      elements_compared false room body s vs pre pre' c c' is same a h = h refl

      mutual
        pub part_compared : {room : ℕ} {moved : Option ℕ} {s : Form} {v : Val} {p p' : Place} {q q' : Last} (d n : ℕ) → Part types order octets room moved s v p p' q q' → (body : Vals) (link : Option Count) {stood : Option Stood} → Tells moved stood
            → (c : Check) → At q.marks c → Noted q'.marks all → Ext p'.met q.here.met → Kept call.said.heap p p' q q' → Shallow types d s → Targets types deep s → room * (deep + 1) + d ≤ n
            → Went (Asks types call room body link stood s v) q'.marks c (compare types call n room body link stood s v c)
        part_compared zero n part body link t c a noted ext kept sh tg le = absurd sh
        part_compared (suc d) zero part body link t c a noted ext kept sh tg le = absurd (omega (arith, le))
        part_compared (suc d) (suc n) (a_bool {room = room} {n = x} {q = q} at) body link {stood = stood} t c a noted ext kept sh tg le =
            into n room body link stood OfBool (VBool (not (x == 0))) c q.marks (nothing room body link stood OfBool (VBool (not (x == 0))) c q.marks refl a)
        part_compared (suc d) (suc n) (a_byte {room = room} {n = x} {q = q} at) body link {stood = stood} t c a noted ext kept sh tg le =
            into n room body link stood OfByte (VByte x) c q.marks (nothing room body link stood OfByte (VByte x) c q.marks refl a)
        part_compared (suc d) (suc n) (a_char {room = room} {n = x} {q = q} at) body link {stood = stood} t c a noted ext kept sh tg le =
            into n room body link stood OfChar (VChar x) c q.marks (nothing room body link stood OfChar (VChar x) c q.marks refl a)
        part_compared (suc d) (suc n) (an_int {room = room} {size = size} {n = x} {q = q} at) body link {stood = stood} t c a noted ext kept sh tg le =
            into n room body link stood (OfInt size) (VInt (signed size x)) c q.marks (nothing room body link stood (OfInt size) (VInt (signed size x)) c q.marks refl a)
        part_compared (suc d) (suc n) (a_uint {room = room} {size = size} {n = x} {q = q} at) body link {stood = stood} t c a noted ext kept sh tg le =
            into n room body link stood (OfUint size) (VUint x) c q.marks (nothing room body link stood (OfUint size) (VUint x) c q.marks refl a)
        part_compared (suc d) (suc n) (an_enum {room = room} {count = count} {n = x} {q = q} at lt) body link {stood = stood} t c a noted ext kept sh tg le =
            into n room body link stood (OfEnum count) (VEnum x) c q.marks (nothing room body link stood (OfEnum count) (VEnum x) c q.marks refl a)
        part_compared (suc d) (suc n) (a_handle {room = room} {kind = kind} {p = p} {q = q} at) body link {stood = stood} t c a noted ext kept sh tg le =
            into n room body link stood (OfHandle kind) (VHandle (length p.wires)) c q.marks (nothing room body link stood (OfHandle kind) (VHandle (length p.wires)) c q.marks refl a)
        part_compared (suc d) (suc n) (a_text {room = room} {size = size} {text = text} {q = q} at) body link {stood = stood} t c a noted ext kept sh tg le =
            into n room body link stood (OfText size) (VText text) c q.marks (nothing room body link stood (OfText size) (VText text) c q.marks refl a)
        part_compared (suc d) (suc n) (a_name {room = room} {c = num} {switch = switch} {s = s} {v = v} {q' = q'} is part) body link {stood = stood} t c a noted ext kept sh tg le =
            into n room body link stood (OfNamed num switch) v c q'.marks
            (let w = part_compared d n part body switch t c a noted ext kept (type_has types (Shallow types d) num s sh is) (grounded num s is) (omega (arith, le)) in
            subst (λ (o : Option Form). Went (Asks types call room body link stood (OfNamed num switch) v) q'.marks c (compare_type (compare types call n room) body switch stood o v c)) (sym is)
            (record { demands = w.demands; asks = asks_name is w.asks; off = w.off; place = w.place }))
        part_compared (suc d) (suc n) (a_struct {room = room} {moved = moved} {own = own} {ss = ss} {vs = vs} {p = p} {q = q} {q' = q'} b ps) body link {stood = stood} t c a noted ext kept sh tg le =
            into n room body link stood (OfStruct ss) (VStruct vs) c q'.marks
            (let f = front_compared b.opens t q.marks c a (noted_then (q.marks ++ opened_marks moved own p.at) q'.marks all (parts_note types order octets ps) noted) in
            let w = parts_compared d n ps vs f.0 (fronted types ss stood c).1 f.3 noted ext kept sh tg (omega (arith, le)) in
            record { demands = w.demands; asks = asks_members f.1 w.asks; off = w.off ∙ ap (λ (o : Option Departure). least o w.demands) f.2; place = w.place })
        part_compared (suc d) (suc n) (an_empty_arm {room = room} {t = t0} {arms = arms} {tag = tag} {p = p} {q = q} at is) body link {stood = stood} t c a noted ext kept sh tg le =
            into n room body link stood (OfUnion t0 arms) (VEmpty tag) c (q.marks ++ tag_marks types t0 (OfUnion t0 arms) tag p.at)
            (let w = tag_compared body link t0 (OfUnion t0 arms) tag p.at q.marks c a noted in
            record { demands = w.demands; asks = empty_asks room body link stood t0 arms tag c.left (compare_tag call body link tag c).left w.demands w.asks; off = w.off; place = w.place })
        part_compared (suc d) (suc n) (an_arm {room = room} {t = t0} {s = s} {arms = arms} {tag = tag} {v = v} {p = p} {q = q} {q' = q'} at is part) body link {stood = stood} t c a noted ext kept sh tg le =
            into n room body link stood (OfUnion t0 arms) (VUnion tag v) c q'.marks
            (let own = tag_marks types t0 (OfUnion t0 arms) tag p.at in
            let one = tag_compared body link t0 (OfUnion t0 arms) tag p.at q.marks c a (noted_then (q.marks ++ own) q'.marks all (part_notes types order octets part) noted) in
            let c1 = compare_tag call body link tag c in
            let w = part_compared d n part no_val None tells_none c1 one.place noted ext kept (arm_has (Shallow types d) s t0 arms tag is sh) (arm_has (Targets types deep) s t0 arms tag is (each_arm types deep arms tg)) (omega (arith, le)) in
            let c2 = compare types call n room no_val None None s v c1 in
            subst (λ (o : Option Body). Went (Asks types call room body link stood (OfUnion t0 arms) (VUnion tag v)) q'.marks c (compare_arm (compare types call n room) o v c1)) (sym is)
            (record {
              demands = one.demands ++ w.demands;
              asks = arm_asks room body link stood t0 s arms tag v c.left c1.left c2.left one.demands w.demands one.asks is w.asks;
              off = off_then c.off c1.off c2.off one.demands w.demands one.off w.off;
              place = w.place;
            }))
        part_compared (suc d) (suc n) (an_array {room = room} {i = i} {moved = moved} {kind = kind} {counts = k} {s = s} {vs = vs} {p = p} {q = q} {q' = q'} at ps) body link {stood = stood} t c a noted ext kept sh tg le =
            into n room body link stood (OfArray kind s) (VArray vs) c q'.marks
            (let own = count_marks kind moved k p.at i in
            let c1 = compare_counts call body stood kind c in
            let one = counts_compared body at t q.marks c a (noted_then (q.marks ++ own) q'.marks all (items_note types order octets ps) noted) in
            let c2 = compare_all (compare types call n room) body s vs c1 in
            let w = elements_compared (is_plain s) room body s vs (q.marks ++ own) q'.marks c1 c2 refl (plain_items ps) one.place (λ e. items_compared d n ps body c1 e one.place noted ext kept sh tg (omega (arith, le))) in
            record { demands = one.demands ++ w.demands; asks = asks_array one.asks w.asks; off = off_then c.off c1.off (if is_plain s then c1 else c2).off one.demands w.demands one.off w.off; place = w.place })
        part_compared (suc d) (suc n) (a_ref {room = r} {s = s} {v = v} {h = h} {q = q} {q' = q'} at part) body link {stood = stood} t c a noted ext kept sh tg le =
            into n (suc r) body link stood (OfRef s) v c q'.marks
            (let w = part_compared deep n part body None tells_none c a noted (ext_self h.met) (kept_inner call.said.heap h q q' (part_grows types order octets part) (λ (x : ℕ) (y : In q.here q'.here x). kept x (inr y))) tg.0 tg.1 (less n r d le) in
            record { demands = w.demands; asks = asks_ref w.asks; off = w.off; place = w.place })
        part_compared (suc d) (suc n) (a_null {room = room} {s = s} {q = q} at) body link {stood = stood} t c a noted ext kept sh tg le =
            into n room body link stood (OfUnique s) VNull c q.marks (record { demands = []; asks = asks_null; off = refl; place = a })
        part_compared (suc d) (suc n) (a_unique {room = r} {s = s} {v = v} {h = h} {q = q} {q' = q'} at part) body link {stood = stood} t c a noted ext kept sh tg le =
            into n (suc r) body link stood (OfUnique s) (VPtr v) c q'.marks
            (let w = part_compared deep n part body None tells_none c a noted (ext_self h.met) (kept_inner call.said.heap h q q' (part_grows types order octets part) (λ (x : ℕ) (y : In q.here q'.here x). kept x (inr y))) tg.0 tg.1 (less n r d le) in
            record { demands = w.demands; asks = asks_unique w.asks; off = w.off; place = w.place })
        part_compared (suc d) (suc n) (a_null_full {room = room} {s = s} {q = q} at) body link {stood = stood} t c a noted ext kept sh tg le =
            into n room body link stood (OfFull s) (VFull None) c q.marks (record { demands = []; asks = asks_null_full; off = refl; place = a })
        part_compared (suc d) (suc n) (a_new {room = r} {id = id} {s = s} {v = v} {p = p} {h = h} {q = q} {q' = q'} at free part) body link {stood = stood} t c a noted ext kept sh tg le =
            into n (suc r) body link stood (OfFull s) (VFull (Some (length p.met))) c q'.marks
            (let num = length p.met in
            let own = Referent true ∷ [] in
            let one : length (p.met ++ (suc id, s) ∷ []) ≡ suc num = omega (arith, length-append p.met ((suc id, s) ∷ [])) in
            let is : nth call.said.heap num ≡ Some v = sym (kept num (inl (omega arith, omega (arith, one)))) ∙ that_item num v q'.items in
            let inner = kept_inner call.said.heap h (noting own q) q' (part_grows types order octets part) (kept_new call.said.heap num v (noting own q) q' (let le2 = ext_le (p.met ++ (suc id, s) ∷ []) q.here.met ext in omega (arith, le2, one)) (λ (y : ℕ) (z : In q.here q'.here y). kept y (inr z))) in
            new_compared (compare types call n) r num body link stood s v q.marks q'.marks c is a (noted_then (q.marks ++ own) q'.marks all (part_notes types order octets part) noted)
            (λ c1 a1. part_compared deep n part body None tells_none c1 a1 noted (ext_self h.met) inner tg.0 tg.1 (less n r d le)))
        part_compared (suc d) (suc n) (a_repeat {room = room} {n = num} {s = s} {q = q} at is alike) body link {stood = stood} t c a noted ext kept sh tg le =
            into n room body link stood (OfFull s) (VFull (Some num)) c (q.marks ++ Referent false ∷ [])
            (repeat_compared (compare types call n) room num body link stood s q.marks c a noted)

        parts_compared : {room : ℕ} {own : Option ℕ} {ss : Forms} {vs : Vals} {p p' : Place} {q q' : Last} (d n : ℕ) → Parts types order octets room own ss vs p p' q q' → (body : Vals) {stood : Option Stood} → Tells own stood
            → (c : Check) → At q.marks c → Noted q'.marks all → Ext p'.met q.here.met → Kept call.said.heap p p' q q' → EachForm (Shallow types d) ss → EachTarget types deep ss → room * (deep + 1) + d ≤ n
            → Went (AsksEach types call room body stood ss vs) q'.marks c (compare_each (compare types call n room) body stood ss vs c)
        parts_compared d n no_part body t c a noted ext kept sh tg le = record { demands = []; asks = no_member_asks; off = refl; place = a }
        parts_compared d n (then_part {room = room} {s = s} {v = v} {ss = ss} {vs = vs} {p = p} {h = h} {p' = p'} {q = q} {g = g} {q' = q'} part ps) body {stood = stood} t c a noted ext kept sh tg le =
            let grown = part_grows types order octets part in
            let grows = parts_grow types order octets ps in
            let one = part_compared d n part body None (tells_last (is_last ss) t) c a (noted_then g.marks q'.marks all (parts_note types order octets ps) noted) (ext_then h.met p'.met q.here.met grows.0 ext)
            (kept_first call.said.heap p h p' q g q' grown grows ext (λ y. parts_leave types order octets y ps) kept) sh.0 tg.0 le in
            let c1 = compare types call n room body None (stood_last ss stood) s v c in
            let w = parts_compared d n ps body t c1 one.place noted (ext_then p'.met q.here.met g.here.met ext grown.1) (kept_second call.said.heap p h p' q g q' grown kept) sh.1 tg.1 le in
            record { demands = one.demands ++ w.demands; asks = member_asks one.asks w.asks; off = off_then c.off c1.off (compare_each (compare types call n room) body stood ss vs c1).off one.demands w.demands one.off w.off; place = w.place }

        items_compared : {room k : ℕ} {s : Form} {vs : Vals} {p p' : Place} {q q' : Last} (d n : ℕ) → Items types order octets room k s vs p p' q q' → (body : Vals)
            → (c : Check) → is_plain s ≡ false → At q.marks c → Noted q'.marks all → Ext p'.met q.here.met → Kept call.said.heap p p' q q' → Shallow types d s → Targets types deep s → room * (deep + 1) + d ≤ n
            → Went (AsksAll types call room body s vs) q'.marks c (compare_all (compare types call n room) body s vs c)
        items_compared d n no_item body c is a noted ext kept sh tg le = record { demands = []; asks = no_element_asks; off = refl; place = a }
        items_compared d n (then_item {room = room} {s = s} {v = v} {vs = vs} {p = p} {h = h} {p' = p'} {q = q} {g = g} {q' = q'} part ps) body c is a noted ext kept sh tg le =
            let grown = part_grows types order octets part in
            let grows = items_grow types order octets ps in
            let one = part_compared d n part body None tells_none c a (noted_then g.marks q'.marks all (items_note types order octets ps) noted) (ext_then h.met p'.met q.here.met grows.0 ext)
            (kept_first call.said.heap p h p' q g q' grown grows ext (λ y. items_leave types order octets y ps) kept) sh tg le in
            let c1 = compare types call n room body None None s v c in
            let w = items_compared d n ps body c1 is one.place noted (ext_then p'.met q.here.met g.here.met ext grown.1) (kept_second call.said.heap p h p' q g q' grown kept) sh tg le in
            record { demands = one.demands ++ w.demands; asks = element_asks is one.asks w.asks; off = off_then c.off c1.off (compare_all (compare types call n room) body s vs c1).off one.demands w.demands one.off w.off; place = w.place }
