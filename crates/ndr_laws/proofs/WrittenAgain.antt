-- Values that suit their shapes stand where they are written, and agree with what names them.
use Rattle.std.proofs.Common.{◌≡◌, ℕ, zero, suc, ◌+◌, ◌^◌, ◌<◌, ◌≤◌, ℤ, Bool, true, false, List, [], ◌∷◌, ◌++◌, length, length-append, Option, Some, None, refl, sym, ap, subst, ◌∙◌, arith}
use Rattle.std.specs.Prelude.{◌==◌, ◌&&◌, ◌||◌, not, slice_get, unwrap_or, if◌then◌else◌}
use Rattle.std.proofs.lemmas.List.{append-nil}
use Rattle.rpc_base.specs.declared.identifiers.Order.{Order}
use Rattle.rpc_base.specs.declared.identifiers.WireHandle.{WireHandle}
use Rattle.ndr_value.specs.declared.shape.Count.{Count}
use Rattle.ndr_value.specs.Forms.{Form, OfBool, OfInt, OfNamed, OfUnion, OfFull, OfHandle, Forms, no_form, Body}
use Rattle.ndr_value.specs.Fits.{arm_of}
use Rattle.ndr_value.specs.Values.{Val, VBool, VInt, VUnion, VFull, VHandle, Vals, no_val, then_val, count_of}
use Rattle.ndr_table.specs.Aligned.{is_last, align_of, alignments}
use Rattle.ndr_arrays.specs.Written.{both}
use Rattle.ndr_model.specs.declared.mark.Mark.{Mark}
use Rattle.ndr_model.specs.declared.mark.Mark.TheVariants.{Referent}
use Rattle.ndr_model.specs.Places.{Place, Last, onto, noting}
use Rattle.ndr_model.specs.Part.{Part, a_bool, a_byte, a_char, an_int, a_uint, an_enum, a_handle, a_text, a_name, a_struct, an_empty_arm, an_arm, an_array, a_ref, a_null, a_unique, a_null_full, Parts, no_part, then_part, Items, no_item, then_item, opens_with, opened_marks, count_marks, tag_marks}
use Rattle.ndr_model.specs.Named.{Call, nth}
use Rattle.ndr_model.specs.Stub.{item}
use Rattle.ndr_model.specs.Agree.{Stood, is_plain, Agrees, plainly, by_name, by_members, by_empty_arm, by_arm, by_array, by_ref, by_null, by_pointer, by_null_full, by_new, by_repeat, AgreesEach, no_member_left, member_then, AgreesAll, all_plainly, no_element_left, element_then}
use Rattle.ndr_laws.proofs.Grounded.{EachForm, Shallow, Targets, EachTarget, Grounded, each_arm, type_has, arm_has}
use Rattle.ndr_model.specs.Pieces.{fitting, Given, only, then_piece, next_id, one_given, item_given, gap, number, signed_number}
use Rattle.ndr_model.specs.Fronts.{array_counts, front_type, front_last, front}
use Rattle.ndr_model.specs.Written.{wire, tag, item_behind, item_piece, arm_piece, type_piece, opening, members, elements, flat, deep}
use Rattle.ndr_model.specs.Fits.{Seen, with_item, with_wire, Suits, suits_bool, suits_byte, suits_char, suits_int, suits_uint, suits_enum, suits_handle, suits_text, suits_name, suits_struct, suits_empty_arm, suits_arm, suits_array, suits_ref, suits_null, suits_unique, suits_null_full, suits_new, suits_repeat, SuitEach, no_member, then_member, SuitAll, no_element, then_element}
use Rattle.ndr_laws.proofs.Texts.{Has, has_first, has_second, fitting_is}
use Rattle.ndr_laws.proofs.Leaves.{number_again, signed_is, signed_stands, wire_stands}
use Rattle.ndr_laws.proofs.Counts.{Front, front_none, front_some, Placed, placed_here, placed_front, texted_by, text_again, counts_written}
use Rattle.ndr_laws.proofs.Wires.{Begin, begin_then, handle_is, suits_hold, each_hold, all_hold}
use Rattle.ndr_laws.proofs.Kept.{that_item}
use Rattle.ndr_laws.proofs.Places.{written_place, Numbered, written_last, Good, good_more, Kept, In, in_none, Sound, refs, refs_first, refs_second, Stands, mapped, leaf_stands, plain_stands, prefixed, threaded}
use Rattle.ndr_laws.proofs.Openings.{placed_tag, begun}
use Rattle.ndr_laws.proofs.Goods.{pointer_stands, new_is, old_is, suits_good}
use Rattle.ndr_laws.proofs.Pointing.{behind_of, target, target_first, target_second, pointed, new_made, repeat_made}

-- a flag that was read is written as 0 or 1
flag_back : (b : Bool) → not ((if b then 1 else 0) == 0) ≡ b
flag_back true = refl
flag_back false = refl

flag_small : (b : Bool) → (if b then 1 else 0) < 2 ^ 8
flag_small true = omega arith
flag_small false = omega arith

placed_by : {n w : ℕ} {flag : Bool} {now : Option ℕ} {known : Option Stood} → Front w flag now known → w ≡ n → Placed n flag now
placed_by front_none e = placed_here
placed_by {n} front_some e = subst (λ (x : ℕ). Placed n true (Some x)) (sym e) placed_front

-- the last member alone has the max_count that moved
record Handed (x : ℕ) (b flag : Bool) (now : Option ℕ) (known : Option Stood) : Type 0 where
  w : ℕ
  front_of : Front w (flag && b) (if b then now else None) (if b then known else None)
  is : w ≡ fitting 4 x

handed : {w : ℕ} {flag : Bool} {now : Option ℕ} {known : Option Stood} (b : Bool) (x y : ℕ) → Front w flag now known → w ≡ fitting 4 (if b then x else y) → Handed x b flag now known
handed true x y front_none e = record { w = fitting 4 x; front_of = front_none; is = refl }
handed {w} true x y front_some e = record { w = w; front_of = front_some; is = e }
handed false x y front_none e = record { w = fitting 4 x; front_of = front_none; is = refl }
handed false x y front_some e = record { w = fitting 4 x; front_of = front_none; is = refl }

never_true : {A : Type 0} → false ≡ true → A
never_true e = absurd cc

-- one more item
more_by : (b : Bool) (v : Val) (o : Option Val) → (u : Val) × (o ≡ Some u) → (u : Val) × ((if b then Some v else o) ≡ Some u)
more_by true v o k = (v, refl)
more_by false v o k = k

more_kept : (m : ℕ) (v : Val) (ys : Numbered) (n : ℕ) → Kept ys n → Kept ((m, v) ∷ ys) n
more_kept m v ys n k = more_by (m == n) v (item ys n) k

sound_by : (heap : Vals) (m n : ℕ) (v u : Val) (o : Option Val) (b : Bool) → (m == n) ≡ b → nth heap m ≡ Some v → (o ≡ Some u → nth heap n ≡ Some u) → (if b then Some v else o) ≡ Some u → nth heap n ≡ Some u
sound_by heap m n v u o true same is go e = ap (nth heap) (sym (equal_is m n same)) ∙ is ∙ e
  where
    equal_is : (a c : ℕ) → (a == c) ≡ true → a ≡ c
    equal_is a c e = grind (arith)
sound_by heap m n v u o false same is go e = go e

more_sound : (heap : Vals) (m : ℕ) (v : Val) (ys : Numbered) → nth heap m ≡ Some v → Sound heap ys → Sound heap ((m, v) ∷ ys)
more_sound heap m v ys is s n u e = sound_by heap m n v u (item ys n) (m == n) refl is (s n u) e

item_new : (s : Form) (p : Seen) (v : Val) (ys : Numbered) (n : ℕ) → In p (with_item p s) n → Kept ((length p.shapes, v) ∷ ys) n
item_new s p v ys n x =
    let same : length p.shapes ≡ n = omega (arith, length-append p.shapes (s ∷ []), x.0, x.1) in
    (v, subst (λ (m : ℕ). item ((length p.shapes, v) ∷ ys) m ≡ Some v) same (that_item (length p.shapes) v ys))

module _ {types : List Form} {call : Call} where
  plain_all : {room : ℕ} {body : Vals} {s : Form} {vs : Vals} {ms ms' : List Mark} → is_plain s ≡ true → AgreesAll types call room body s vs ms ms' → ms ≡ ms'
  plain_all is (all_plainly too) = refl
  plain_all is no_element_left = refl
  plain_all is (element_then not_is a as') = absurd (let z : true ≡ false = sym is ∙ not_is in cc)

  all_joined : {room : ℕ} {body : Vals} {s : Form} {v : Val} {vs : Vals} {xs ys zs : List Mark} (b : Bool) → is_plain s ≡ b → (is_plain s ≡ true → xs ≡ ys) → Agrees types call room body None None s v xs ys
      → AgreesAll types call room body s vs ys zs → AgreesAll types call room body s (then_val v vs) xs zs
  all_joined {room} {body} {s} {v} {vs} {xs} true is same a as' = subst (λ (z : List Mark). AgreesAll types call room body s (then_val v vs) xs z) (same is ∙ plain_all is as') (all_plainly is)
  all_joined false is same a as' = element_then is a as'

module _ (types : List Form) (order : Order) (call : Call) (octets : List ℕ) (short : length octets ≤ 2 ^ 31) (dp : ℕ) (grounded : Grounded types dp) (dp_le : dp ≤ deep) where
  mutual
    unfolding flat front

    pub suits_written : {room : ℕ} {body : Vals} {link : Option Count} {s : Form} {v : Val} {p p' q q' : Seen} (d n : ℕ) → Suits types call room body link s v p p' q q' → Shallow types d s → Targets types dp s → d ≤ n
        → {flag : Bool} {now : Option ℕ} {known : Option Stood} (w : ℕ) → Front w flag now known → w ≡ fitting 4 (front types order call n body s v)
        → (i : ℕ) (g : Given) → Good p i g → Has octets i (flat types order call n body flag s v i g).octets
        → (k : ℕ) (h : Given) (marks : List Mark) (xs : Numbered) → Good q k h → Has octets k (refs types order call room (flat types order call n body flag s v i g).behind k h).octets
        → Begin p'.wires call.said.wires → Begin q'.wires call.said.wires
        → Stands types order call room (flat types order call n body flag s v i g) p p' q q' i k h marks xs
        (λ (e : Place) (a b : Last). Part types order octets room now s v (written_place p i g) e a b) (λ (ms ns : List Mark). Agrees types call room body link known s v ms ns) (is_plain s ≡ true)
    suits_written zero n part sh tg le w m we i g good has k h marks xs behind at pw qw = absurd sh
    suits_written (suc d) zero part sh tg le w m we i g good has k h marks xs behind at pw qw = absurd (omega (arith, le))
    suits_written (suc d) (suc n) (suits_bool {room = room} {b = b} {p = p}) sh tg le {now = now} w m we i g good has k h marks xs behind at pw qw =
        plain_stands types order call {text = number order 1 (if b then 1 else 0) i} {p' = p} refl
        (λ a. subst (λ (c : Bool). Part types order octets room now OfBool (VBool c) (written_place p i g) (written_place p (i + length (number order 1 (if b then 1 else 0) i)) g) a a) (flag_back b)
        (a_bool (number_again order octets {size = 1} {n = if b then 1 else 0} (flag_small b) has))) (λ more. plainly refl) behind
    suits_written (suc d) (suc n) (suits_byte {n = x} {p = p} lt) sh tg le w m we i g good has k h marks xs behind at pw qw =
        plain_stands types order call {text = number order 1 x i} {p' = p} refl (λ a. a_byte (number_again order octets {size = 1} {n = x} lt has)) (λ more. plainly refl) behind
    suits_written (suc d) (suc n) (suits_char {n = x} {p = p} lt) sh tg le w m we i g good has k h marks xs behind at pw qw =
        plain_stands types order call {text = number order 1 x i} {p' = p} refl (λ a. a_char (number_again order octets {size = 1} {n = x} lt has)) (λ more. plainly refl) behind
    suits_written (suc d) (suc n) (suits_int {room = room} {size = size} {z = z} {p = p} fits) sh tg le {now = now} w m we i g good has k h marks xs behind at pw qw =
        plain_stands types order call {text = signed_number order size z i} {p' = p} refl
        (λ a. subst (λ (y : ℤ). Part types order octets room now (OfInt size) (VInt y) (written_place p i g) (written_place p (i + length (signed_number order size z i)) g) a a) (signed_is size z fits) (an_int (signed_stands order octets size i z fits has)))
        (λ more. plainly refl) behind
    suits_written (suc d) (suc n) (suits_uint {size = size} {n = x} {p = p} lt) sh tg le w m we i g good has k h marks xs behind at pw qw =
        plain_stands types order call {text = number order size x i} {p' = p} refl (λ a. a_uint (number_again order octets {size = size} {n = x} lt has)) (λ more. plainly refl) behind
    suits_written (suc d) (suc n) (suits_enum {n = x} {p = p} lt few) sh tg le w m we i g good has k h marks xs behind at pw qw =
        plain_stands types order call {text = number order 2 x i} {p' = p} refl (λ a. an_enum (number_again order octets {size = 2} {n = x} lt has) few) (λ more. plainly refl) behind
    suits_written (suc d) (suc n) (suits_handle {room = room} {kind = kind} {body = body} {link = link} {w = x} {p = p} {q = q} held) sh tg le {now = now} {known = known} w m we i g good has k h marks xs behind at pw qw =
        let there = handle_is p.wires call.said.wires x pw in
        subst (λ (o : Option WireHandle). Stands types order call room (only (wire types order call o i) g) p (with_wire p x) q q i k h marks xs
        (λ (y : Place) (a b : Last). Part types order octets room now (OfHandle kind) (VHandle (length p.wires)) (written_place p i g) y a b) (λ (ms ns : List Mark). Agrees types call room body link known (OfHandle kind) (VHandle (length p.wires)) ms ns) (true ≡ true)) (sym there)
        (plain_stands types order call {text = wire types order call (Some x) i} {p' = with_wire p x} refl
        (λ a. a_handle (wire_stands types call order octets x i held (subst (λ (o : Option WireHandle). Has octets i (wire types order call o i)) there has))) (λ more. plainly refl) behind)
    suits_written (suc d) (suc n) (suits_text {size = size} {text = octs} {p = p} t) sh tg le {flag = flag} {now = now} w m we i g good has k h marks xs behind at pw qw =
        let tt' = texted_by size octs t in
        plain_stands types order call {p' = p} refl (λ a. a_text (text_again types order call octets size now flag octs i tt' (placed_by m (we ∙ fitting_is 4 (length octs + 1) t.small)) has)) (λ more. plainly refl) behind
    suits_written (suc d) (suc n) (suits_name {room = room} {c = c} {body = body} {link = link} {switch = switch} {s = s} {v = v} {p = p} {p' = p'} {q = q} {q' = q'} is part) sh tg le {flag = flag} {now = now} {known = known} w m we i g good has k h marks xs behind at pw qw =
        let go = flat types order call n in
        let inner = suits_written d n part (type_has types (Shallow types d) c s sh is) (grounded c s is) (omega (arith, le)) w m
        (we ∙ ap (λ (o : Option Form). fitting 4 (front_type types order call (front types order call n) body o v)) is) i g good
        (subst (λ (o : Option Form). Has octets i (type_piece types order call go body flag o v i g).octets) is has) k h marks xs behind
        (subst (λ (o : Option Form). Has octets k (refs types order call room (type_piece types order call go body flag o v i g).behind k h).octets) is at) pw qw in
        subst (λ (o : Option Form). Stands types order call room (type_piece types order call go body flag o v i g) p p' q q' i k h marks xs
        (λ (y : Place) (a b : Last). Part types order octets room now (OfNamed c switch) v (written_place p i g) y a b) (λ (ms ns : List Mark). Agrees types call room body link known (OfNamed c switch) v ms ns) (false ≡ true)) (sym is)
        (mapped types order call (λ y a b x. a_name is x) (λ ms ns x. by_name is x) (λ f. never_true f) inner)
    suits_written (suc d) (suc n) (suits_struct {ss = ss} {vs = vs} {p = p} ps) sh tg le {flag = flag} {now = now} w m we i g good has k h marks xs behind at pw qw =
        let size = front types order call n in
        let text = opening types order call size flag ss vs i in
        let f2 = members types order call (flat types order call n) vs (flag || opens_with types ss) ss vs (i + length text) g in
        let o = begun types call order octets size vs w i m we (has_first octets i text f2.octets has) in
        let own' = opened_marks now o.own_now i in
        let inner = each_written d n ps sh tg (omega (arith, le)) w o.front (λ (l : is_last ss ≡ false). we) (i + length text) g
        (good_more p p i (i + length text) g refl (omega arith) good) (has_second octets i text f2.octets has) k h (marks ++ own') xs behind at pw qw in
        prefixed types order call text g own' (λ y a c z. a_struct o.begins z) (λ ms ns z. by_members (o.fronts_again ms) z) (λ z. never_true z) inner
    suits_written (suc d) (suc n) (suits_empty_arm {t = t} {arms = arms} {tag = z} {p = p} x bound is) sh tg le w m we i g good has k h marks xs behind at pw qw =
        let u = OfUnion t arms in
        leaf_stands types order call {text = both (gap (align_of (alignments types) u)) (tag types order call t z) i} {p' = p} (tag_marks types t u z i) refl
        (λ a. an_empty_arm (placed_tag types call order octets u i x has) is) (λ more. by_empty_arm bound) (λ f. never_true f) behind
    suits_written (suc d) (suc n) (suits_arm {room = room} {body = body} {link = link} {t = t} {s = s} {arms = arms} {tag = z} {v = v} {p = p} {p' = p'} {q = q} {q' = q'} x bound is part) sh tg le {flag = flag} {now = now} {known = known} w m we i g good has k h marks xs behind at pw qw =
        let u = OfUnion t arms in
        let go = flat types order call n in
        let text = both (gap (align_of (alignments types) u)) (tag types order call t z) i in
        let own = tag_marks types t u z i in
        let inner = suits_written d n part (arm_has (Shallow types d) s t arms z is sh) (arm_has (Targets types dp) s t arms z is (each_arm types dp arms tg)) (omega (arith, le)) (fitting 4 (front types order call n no_val s v)) front_none refl
        (i + length text) g (good_more p p i (i + length text) g refl (omega arith) good)
        (subst (λ (o : Option Body). Has octets (i + length text) (arm_piece types order call go o v (i + length text) g).octets) is (has_second octets i text (arm_piece types order call go (arm_of u z) v (i + length text) g).octets has)) k h (marks ++ own) xs behind
        (subst (λ (o : Option Body). Has octets k (refs types order call room (arm_piece types order call go o v (i + length text) g).behind k h).octets) is at) pw qw in
        subst (λ (o : Option Body). Stands types order call room (then_piece (only text g) i (arm_piece types order call go o v)) p p' q q' i k h marks xs
        (λ (y : Place) (a b : Last). Part types order octets room now u (VUnion z v) (written_place p i g) y a b) (λ (ms ns : List Mark). Agrees types call room body link known u (VUnion z v) ms ns) (false ≡ true)) (sym is)
        (prefixed types order call text g own
        (λ y a c r. an_arm (placed_tag types call order octets u i x (has_first octets i text (arm_piece types order call go (arm_of u z) v (i + length text) g).octets has)) is r) (λ ms ns r. by_arm bound is r) (λ r. never_true r) inner)
    suits_written (suc d) (suc n) (suits_array {room = room} {body = body} {kind = kind} {s = s} {vs = vs} {p = p} x ps) sh tg le {flag = flag} {now = now} w m we i g good has k h marks xs behind at pw qw =
        let text : List ℕ = array_counts types order call body flag kind (count_of vs) i in
        let f2 = elements types order call (flat types order call n) body s vs (i + length text) g in
        let o = counts_written types order call octets body w i x m we (has_first octets i text f2.octets has) in
        let own = count_marks kind now o.k i (i + length text) in
        let inner = all_written d n ps sh tg (omega (arith, le)) (i + length text) g (good_more p p i (i + length text) g refl (omega arith) good)
        (has_second octets i text f2.octets has) k h (marks ++ own) xs behind at pw qw in
        prefixed types order call text g own (λ y a b z. an_array o.stand (subst (λ (c : ℕ). Items types order octets room c s vs (written_place p (i + length text) g) y (noting own a) b) (sym o.actual_is) z)) (λ ms ns z. by_array (o.agree ms) z) (λ z. never_true z) inner
    suits_written (suc d) (suc n) (suits_ref {room = r} {body = body} {s = s} {v = v} {p = p} {q = q} {h = hp} {q' = q'} part) sh tg le w m we i g good has k h marks xs behind at pw qw =
        let b = behind_of body s v in
        let a = target types order call b k h in
        let first = target_first types order call octets r b k h at in
        let hw = suits_hold part in
        let inner = suits_written dp deep part tg.0 tg.1 dp_le (fitting 4 (front types order call deep body s v)) front_none refl k h behind first
        (k + length a.octets) a.given (marks ++ []) xs (suits_good types order call octets short dp deep part tg.0 dp_le false k h behind first) (target_second types order call octets r b k h at) (begin_then hp.wires q'.wires call.said.wires hw.1 qw) qw in
        pointed types order call octets {p' = p} b (number order 4 (next_id g) i) (one_given g) [] (λ (ys : Numbered). ys)
        (λ y l n2 ys ms x. a_ref (pointer_stands order octets short p i g good has) (subst (λ (ns : List Mark). Part types order octets r None s v (written_place q k h) y (onto y (written_last q xs k h ns)) (written_last q' ys l n2 ms)) (append-nil marks) x))
        (λ ms ns x. by_ref x) (λ x. never_true x) (λ ys x. x) (λ ys y x. x) (λ ys y x. in_none p p y refl x) inner
    suits_written (suc d) (suc n) (suits_null {p = p}) sh tg le w m we i g good has k h marks xs behind at pw qw =
        plain_stands types order call {text = number order 4 0 i} {p' = p} refl (λ a. a_null (number_again order octets {size = 4} {n = 0} (omega arith) has)) (λ more. by_null) behind
    suits_written (suc d) (suc n) (suits_unique {room = r} {body = body} {s = s} {v = v} {p = p} {q = q} {h = hp} {q' = q'} part) sh tg le w m we i g good has k h marks xs behind at pw qw =
        let b = behind_of body s v in
        let a = target types order call b k h in
        let first = target_first types order call octets r b k h at in
        let hw = suits_hold part in
        let inner = suits_written dp deep part tg.0 tg.1 dp_le (fitting 4 (front types order call deep body s v)) front_none refl k h behind first
        (k + length a.octets) a.given (marks ++ []) xs (suits_good types order call octets short dp deep part tg.0 dp_le false k h behind first) (target_second types order call octets r b k h at) (begin_then hp.wires q'.wires call.said.wires hw.1 qw) qw in
        pointed types order call octets {p' = p} b (number order 4 (next_id g) i) (one_given g) [] (λ (ys : Numbered). ys)
        (λ y l n2 ys ms x. a_unique (pointer_stands order octets short p i g good has) (subst (λ (ns : List Mark). Part types order octets r None s v (written_place q k h) y (onto y (written_last q xs k h ns)) (written_last q' ys l n2 ms)) (append-nil marks) x))
        (λ ms ns x. by_pointer x) (λ x. never_true x) (λ ys x. x) (λ ys y x. x) (λ ys y x. in_none p p y refl x) inner
    suits_written (suc d) (suc n) (suits_null_full {p = p}) sh tg le w m we i g good has k h marks xs behind at pw qw =
        plain_stands types order call {text = number order 4 0 i} {p' = p} refl (λ a. a_null_full (number_again order octets {size = 4} {n = 0} (omega arith) has)) (λ more. by_null_full) behind
    suits_written (suc d) (suc n) (suits_new {room = r} {body = body} {link = link} {s = s} {v = v} {p = p} {q = q} {h = hp} {q' = q'} is part) sh tg le {now = now} {known = known} w m we i g good has k h marks xs behind at pw qw =
        let num = length p.shapes in
        let own = Referent true ∷ [] in
        let e1 = new_is p i g good in
        let text = number order 4 (next_id g) i in
        let b = behind_of body s v in
        let has' : Has octets i text = subst (λ (c : Bool). Has octets i (item_piece types order call c body s num i g).octets) e1 has in
        let at1 = subst (λ (c : Bool). Has octets k (refs types order call (suc r) (item_piece types order call c body s num i g).behind k h).octets) e1 at in
        let at2 = subst (λ (o : Option Val). Has octets k (refs types order call (suc r) (item_behind types order call body s o) k h).octets) is at1 in
        let a = target types order call b k h in
        let first = target_first types order call octets r b k h at2 in
        let hw = suits_hold part in
        let inner = suits_written dp deep part tg.0 tg.1 dp_le (fitting 4 (front types order call deep body s v)) front_none refl k h behind first
        (k + length a.octets) a.given (marks ++ own) xs (suits_good types order call octets short dp deep part tg.0 dp_le false k h behind first) (target_second types order call octets r b k h at2) (begin_then hp.wires q'.wires call.said.wires hw.1 qw) qw in
        subst (λ (c : Bool). Stands types order call (suc r) (item_piece types order call c body s num i g) p (with_item p s) q q' i k h marks xs
        (λ (y : Place) (z1 z2 : Last). Part types order octets (suc r) now (OfFull s) (VFull (Some num)) (written_place p i g) y z1 z2) (λ (ms ns : List Mark). Agrees types call (suc r) body link known (OfFull s) (VFull (Some num)) ms ns) (false ≡ true)) (sym e1)
        (subst (λ (o : Option Val). Stands types order call (suc r) (record { octets = text; given = item_given g; behind = item_behind types order call body s o }) p (with_item p s) q q' i k h marks xs
        (λ (y : Place) (z1 z2 : Last). Part types order octets (suc r) now (OfFull s) (VFull (Some num)) (written_place p i g) y z1 z2) (λ (ms ns : List Mark). Agrees types call (suc r) body link known (OfFull s) (VFull (Some num)) ms ns) (false ≡ true)) (sym is)
        (pointed types order call octets b text (item_given g) own (λ (ys : Numbered). (num, v) ∷ ys)
        (λ y l n2 ys ms u. new_made types order octets short p i g good has' u) (λ ms ns u. by_new is u) (λ u. never_true u) (λ ys u. more_sound call.said.heap num v ys is u) (λ ys y u. more_kept num v ys y u) (λ ys y u. item_new s p v ys y u) inner))
    suits_written (suc d) (suc n) (suits_repeat {room = room} {n = c} {body = body} {link = link} {s = s} {t = t} {p = p} {q = q} is alike) sh tg le {now = now} {known = known} w m we i g good has k h marks xs behind at pw qw =
        let f = old_is p i g c t good is in
        subst (λ (b : Bool). Stands types order call room (item_piece types order call b body s c i g) p p q q i k h marks xs
        (λ (y : Place) (a b : Last). Part types order octets room now (OfFull s) (VFull (Some c)) (written_place p i g) y a b) (λ (ms ns : List Mark). Agrees types call room body link known (OfFull s) (VFull (Some c)) ms ns) (false ≡ true)) (sym f)
        (leaf_stands types order call {text = number order 4 (unwrap_or (slice_get g.items c) 0) i} {p' = p} (Referent false ∷ []) refl
        (λ a. repeat_made types order octets short p i g c good is alike (subst (λ (b : Bool). Has octets i (item_piece types order call b body s c i g).octets) f has)) (λ more. by_repeat) (λ z. never_true z) behind)

    pub each_written : {room : ℕ} {body : Vals} {ss : Forms} {vs : Vals} {p p' q q' : Seen} (d n : ℕ) → SuitEach types call room body ss vs p p' q q' → EachForm (Shallow types d) ss → EachTarget types dp ss → d ≤ n
        → {flag : Bool} {now : Option ℕ} {known : Option Stood} (w : ℕ) → Front w flag now known → (is_last ss ≡ false → w ≡ fitting 4 (front_last types order call (front types order call n) body ss vs))
        → (i : ℕ) (g : Given) → Good p i g → Has octets i (members types order call (flat types order call n) body flag ss vs i g).octets
        → (k : ℕ) (h : Given) (marks : List Mark) (xs : Numbered) → Good q k h → Has octets k (refs types order call room (members types order call (flat types order call n) body flag ss vs i g).behind k h).octets
        → Begin p'.wires call.said.wires → Begin q'.wires call.said.wires
        → Stands types order call room (members types order call (flat types order call n) body flag ss vs i g) p p' q q' i k h marks xs
        (λ (e : Place) (a b : Last). Parts types order octets room now ss vs (written_place p i g) e a b) (λ (ms ns : List Mark). AgreesEach types call room body known ss vs ms ns) ⊥
    each_written d n (no_member {room = room} {p = p}) sh tg le {now = now} w m we i g good has k h marks xs behind at pw qw =
        let z : i ≡ i + length {A = ℕ} [] = omega arith in
        plain_stands types order call {text = []} {p' = p} refl
        (λ a. subst (λ (j : ℕ). Parts types order octets room now no_form no_val (written_place p i g) (written_place p j g) a a) z no_part) (λ more. no_member_left) behind
    each_written d n (then_member {room = room} {body = body} {s = s} {v = v} {ss = ss} {vs = vs} {p = p} {h = hp} {p' = p'} {q = q} {g = q1} {q' = q'} part ps) sh tg le {flag = flag} w m we i g good has k h marks xs behind at pw qw =
        let size = front types order call n body s v in
        let far = front_last types order call (front types order call n) body ss vs in
        let hand = handed (is_last ss) size far m (we refl) in
        let holds2 = each_hold ps in
        let f1 = flat types order call n body (flag && is_last ss) s v i g in
        let f2 = members types order call (flat types order call n) body flag ss vs (i + length f1.octets) f1.given in
        let x = refs types order call room f1.behind k h in
        let has1 = has_first octets i f1.octets f2.octets has in
        let one = suits_written d n part sh.0 tg.0 le hand.w hand.front_of hand.is i g good has1 k h marks xs behind (refs_first types order call octets room f1.behind f2.behind k h at)
        (begin_then hp.wires p'.wires call.said.wires holds2.0 pw) (begin_then q1.wires q'.wires call.said.wires holds2.1 qw) in
        let two = each_written d n ps sh.1 tg.1 le w m (λ (l : is_last ss ≡ false). we refl ∙ ap (λ (b : Bool). fitting 4 (if b then size else far)) l)
        (i + length f1.octets) f1.given (suits_good types order call octets short d n part sh.0 le (flag && is_last ss) i g good has1) (has_second octets i f1.octets f2.octets has)
        (k + length x.octets) x.given (marks ++ one.own) one.ys one.good (refs_second types order call octets room f1.behind f2.behind k h at) pw qw in
        threaded types order call (λ y z1 z2 z3 u t. then_part u t) (λ ms ns os same u t. member_then u t) (λ u. absurd u) (λ u. u) one two

    pub all_written : {room : ℕ} {body : Vals} {s : Form} {vs : Vals} {p p' q q' : Seen} (d n : ℕ) → SuitAll types call room body s vs p p' q q' → Shallow types d s → Targets types dp s → d ≤ n
        → (i : ℕ) (g : Given) → Good p i g → Has octets i (elements types order call (flat types order call n) body s vs i g).octets
        → (k : ℕ) (h : Given) (marks : List Mark) (xs : Numbered) → Good q k h → Has octets k (refs types order call room (elements types order call (flat types order call n) body s vs i g).behind k h).octets
        → Begin p'.wires call.said.wires → Begin q'.wires call.said.wires
        → Stands types order call room (elements types order call (flat types order call n) body s vs i g) p p' q q' i k h marks xs
        (λ (e : Place) (a b : Last). Items types order octets room (count_of vs) s vs (written_place p i g) e a b) (λ (ms ns : List Mark). AgreesAll types call room body s vs ms ns) (is_plain s ≡ true)
    all_written d n (no_element {room = room} {s = s} {p = p}) sh tg le i g good has k h marks xs behind at pw qw =
        let z : i ≡ i + length {A = ℕ} [] = omega arith in
        plain_stands types order call {text = []} {p' = p} refl
        (λ a. subst (λ (j : ℕ). Items types order octets room 0 s no_val (written_place p i g) (written_place p j g) a a) z no_item) (λ more. no_element_left) behind
    all_written d n (then_element {room = room} {body = body} {s = s} {v = v} {vs = vs} {p = p} {h = hp} {p' = p'} {q = q} {g = q1} {q' = q'} part ps) sh tg le i g good has k h marks xs behind at pw qw =
        let holds2 = all_hold ps in
        let f1 = flat types order call n body false s v i g in
        let f2 = elements types order call (flat types order call n) body s vs (i + length f1.octets) f1.given in
        let x = refs types order call room f1.behind k h in
        let has1 = has_first octets i f1.octets f2.octets has in
        let one = suits_written d n part sh tg le (fitting 4 (front types order call n body s v)) front_none refl i g good has1 k h marks xs behind (refs_first types order call octets room f1.behind f2.behind k h at)
        (begin_then hp.wires p'.wires call.said.wires holds2.0 pw) (begin_then q1.wires q'.wires call.said.wires holds2.1 qw) in
        let two = all_written d n ps sh tg le (i + length f1.octets) f1.given (suits_good types order call octets short d n part sh le false i g good has1) (has_second octets i f1.octets f2.octets has)
        (k + length x.octets) x.given (marks ++ one.own) one.ys one.good (refs_second types order call octets room f1.behind f2.behind k h at) pw qw in
        threaded types order call (λ y z1 z2 z3 u t. then_item u t) (λ ms ns os same u t. all_joined (is_plain s) refl same u t) (λ u. u) (λ u. u) one two
