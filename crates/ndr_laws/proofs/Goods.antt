-- Ids that are given rise, and there is one for each item that was met.
use Rattle.std.proofs.Common.{◌≡◌, ℕ, zero, suc, ◌+◌, ◌*◌, ◌^◌, ◌≤◌, Bool, true, false, List, [], ◌∷◌, ◌++◌, length, length-append, Option, Some, refl, sym, ap, subst, ◌∙◌, arith}
use Rattle.std.specs.Prelude.{◌==◌, ◌&&◌, ◌||◌, slice_get}
use Rattle.rpc_base.specs.declared.identifiers.Order.{Order}
use Rattle.ndr_value.specs.Forms.{Form, OfUnion, Forms, Body}
use Rattle.ndr_value.specs.Fits.{arm_of}
use Rattle.ndr_value.specs.Values.{Val, Vals, count_of}
use Rattle.ndr_table.specs.Aligned.{is_last, align_of, alignments}
use Rattle.ndr_arrays.specs.Written.{both}
use Rattle.ndr_scalars.specs.Scalars.{Scalar}
use Rattle.ndr_model.specs.Part.{opens_with}
use Rattle.ndr_model.specs.Named.{Call}
use Rattle.ndr_model.proofs.Mets.{eq_self, less_not}
use Rattle.std.proofs.lemmas.Option.{slice_get_within}
use Rattle.ndr_value.specs.declared.shape.Count.{Count}
use Rattle.ndr_model.specs.Fits.{Seen, with_item, with_wire, Suits, suits_bool, suits_byte, suits_char, suits_int, suits_uint, suits_enum, suits_handle, suits_text, suits_name, suits_struct, suits_empty_arm, suits_arm, suits_array, suits_ref, suits_null, suits_unique, suits_null_full, suits_new, suits_repeat, SuitEach, no_member, then_member, SuitAll, no_element, then_element}
use Rattle.ndr_laws.proofs.Grounded.{EachForm, Shallow, type_has, arm_has}
use Rattle.ndr_model.specs.Pieces.{fitting, Given, Piece, only, next_id, one_given, item_given, gap, number}
use Rattle.ndr_model.specs.Fronts.{array_counts, front}
use Rattle.ndr_model.specs.Written.{item_piece, tag, opening, arm_piece, type_piece, members, elements, flat}
use Rattle.ndr_laws.proofs.Ids.{Rising, rising_weaker, rising_last}
use Rattle.ndr_laws.proofs.Texts.{Has, has_first, has_second, has_within, fitting_is, fitting_4, number_ends}
use Rattle.ndr_laws.proofs.Leaves.{number_again}
use Rattle.ndr_laws.proofs.Places.{Good, good_more, ends_both}

module _ (order : Order) (octets : List ℕ) (short : length octets ≤ 2 ^ 31) where
  pub id_is : (p : Seen) (i : ℕ) (g : Given) (text : List ℕ) → Good p i g → Has octets i text → next_id g ≡ suc (131071 + 4 * g.count)
  id_is p i g text good at =
      let few = good.few in
      let within = has_within octets i text at in
      fitting_is 4 (131072 + 4 * g.count) (omega (arith, few, within, short)) ∙ omega arith

  four_more : (n i : ℕ) → i + 4 ≤ i + length (number order 4 n i)
  four_more n i = omega (arith, number_ends order 4 (fitting 4 n) i)

  pub pointer_stands : (p : Seen) (i : ℕ) (g : Given) → Good p i g → Has octets i (number order 4 (next_id g) i) → Scalar order octets 4 (suc (131071 + 4 * g.count)) i (i + length (number order 4 (next_id g) i))
  pointer_stands p i g good at =
      subst (λ (n : ℕ). Scalar order octets 4 n i (i + length (number order 4 (next_id g) i))) (id_is p i g (number order 4 (next_id g) i) good at)
      (number_again order octets {size = 4} {n = next_id g} (fitting_4 (131072 + 4 * g.count)) at)

  pub given_good : (p p' : Seen) (i n : ℕ) (g : Given) → p'.shapes ≡ p.shapes → Good p i g → Good p' (i + length (number order 4 n i)) (one_given g)
  given_good p p' i n g same good = record {
    few = (let f = good.few in omega (arith, f, four_more n i));
    long = good.long ∙ ap length (sym same);
    rising = rising_weaker 1 g.items (131072 + 4 * g.count) (131072 + 4 * suc g.count) (omega arith) good.rising;
  }

  pub item_good : (p p' : Seen) (i : ℕ) (g : Given) (x : Form) → p'.shapes ≡ p.shapes ++ x ∷ [] → Good p i g → Has octets i (number order 4 (next_id g) i) → Good p' (i + length (number order 4 (next_id g) i)) (item_given g)
  item_good p p' i g x same good at =
      let id : next_id g ≡ 131072 + 4 * g.count = id_is p i g (number order 4 (next_id g) i) good at ∙ omega arith in
      record {
        few = (let f = good.few in omega (arith, f, four_more (next_id g) i));
        long = (let l = good.long in omega (arith, l, length-append g.items (next_id g ∷ []), length-append p.shapes (x ∷ []), ap length same));
        rising = rising_last 1 g.items (next_id g) (131072 + 4 * suc g.count) (omega (arith, id)) (subst (λ (n : ℕ). Rising 1 g.items n) (sym id) good.rising);
      }

more : (p p' : Seen) (i : ℕ) (text : List ℕ) (g : Given) → p'.shapes ≡ p.shapes → Good p i g → Good p' (i + length text) g
more p p' i text g same good = good_more p p' i (i + length text) g same (omega arith) good

then_good : (p' : Seen) (i : ℕ) (a b : Piece) → Good p' ((i + length a.octets) + length b.octets) b.given → Good p' (i + length (a.octets ++ b.octets)) b.given
then_good p' i a b good = subst (λ (j : ℕ). Good p' j b.given) (ends_both i a.octets b.octets) good

-- an item that is the next one is new
pub new_is : (p : Seen) (i : ℕ) (g : Given) → Good p i g → (length p.shapes == length g.items) ≡ true
new_is p i g good = ap (λ (n : ℕ). length p.shapes == n) good.long ∙ eq_self (length p.shapes)

pub old_is : (p : Seen) (i : ℕ) (g : Given) (n : ℕ) (t : Form) → Good p i g → slice_get p.shapes n ≡ Some t → (n == length g.items) ≡ false
old_is p i g n t good is = less_not n (length g.items) (let k = slice_get_within p.shapes n t is in let l = good.long in omega (arith, k, l))

module _ (types : List Form) (order : Order) (call : Call) (octets : List ℕ) (short : length octets ≤ 2 ^ 31) where
  mutual
    unfolding flat

    pub suits_good : {room : ℕ} {body : Vals} {link : Option Count} {s : Form} {v : Val} {p p' q q' : Seen} (d n : ℕ) → Suits types call room body link s v p p' q q' → Shallow types d s → d ≤ n
        → (flag : Bool) (i : ℕ) (g : Given) → Good p i g → Has octets i (flat types order call n body flag s v i g).octets
        → Good p' (i + length (flat types order call n body flag s v i g).octets) (flat types order call n body flag s v i g).given
    suits_good zero n part sh le flag i g good at = absurd sh
    suits_good (suc d) zero part sh le flag i g good at = absurd (omega (arith, le))
    suits_good (suc d) (suc n) (suits_bool {p = p}) sh le flag i g good at = more p p i _ g refl good
    suits_good (suc d) (suc n) (suits_byte {p = p} x) sh le flag i g good at = more p p i _ g refl good
    suits_good (suc d) (suc n) (suits_char {p = p} x) sh le flag i g good at = more p p i _ g refl good
    suits_good (suc d) (suc n) (suits_int {p = p} x) sh le flag i g good at = more p p i _ g refl good
    suits_good (suc d) (suc n) (suits_uint {p = p} x) sh le flag i g good at = more p p i _ g refl good
    suits_good (suc d) (suc n) (suits_enum {p = p} x y) sh le flag i g good at = more p p i _ g refl good
    suits_good (suc d) (suc n) (suits_handle {w = w} {p = p} x) sh le flag i g good at = more p (with_wire p w) i _ g refl good
    suits_good (suc d) (suc n) (suits_text {p = p} x) sh le flag i g good at = more p p i _ g refl good
    suits_good (suc d) (suc n) (suits_name {c = c} {body = body} {s = s} {v = v} {p' = p'} is part) sh le flag i g good at =
        subst (λ (o : Option Form). Good p' (i + length (type_piece types order call (flat types order call n) body flag o v i g).octets) (type_piece types order call (flat types order call n) body flag o v i g).given) (sym is)
        (suits_good d n part (type_has types (Shallow types d) c s sh is) (omega (arith, le)) flag i g good
        (subst (λ (o : Option Form). Has octets i (type_piece types order call (flat types order call n) body flag o v i g).octets) is at))
    suits_good (suc d) (suc n) (suits_struct {ss = ss} {vs = vs} {p = p} {p' = p'} ps) sh le flag i g good at =
        let text = opening types order call (front types order call n) flag ss vs i in
        let f = members types order call (flat types order call n) vs (flag || opens_with types ss) ss vs (i + length text) g in
        then_good p' i (only text g) f (each_good d n ps sh (omega (arith, le)) (flag || opens_with types ss) (i + length text) g (more p p i text g refl good) (has_second octets i text f.octets at))
    suits_good (suc d) (suc n) (suits_empty_arm {p = p} x y z) sh le flag i g good at = more p p i _ g refl good
    suits_good (suc d) (suc n) (suits_arm {t = t} {s = s} {arms = arms} {tag = z} {v = v} {p = p} {p' = p'} x y is part) sh le flag i g good at =
        let go = flat types order call n in
        let text = both (gap (align_of (alignments types) (OfUnion t arms))) (tag types order call t z) i in
        then_good p' i (only text g) (arm_piece types order call go (arm_of (OfUnion t arms) z) v (i + length text) g)
        (subst (λ (o : Option Body). Good p' ((i + length text) + length (arm_piece types order call go o v (i + length text) g).octets) (arm_piece types order call go o v (i + length text) g).given) (sym is)
        (suits_good d n part (arm_has (Shallow types d) s t arms z is sh) (omega (arith, le)) false (i + length text) g (more p p i text g refl good)
        (subst (λ (o : Option Body). Has octets (i + length text) (arm_piece types order call go o v (i + length text) g).octets) is (has_second octets i text (arm_piece types order call go (arm_of (OfUnion t arms) z) v (i + length text) g).octets at))))
    suits_good (suc d) (suc n) (suits_array {body = body} {kind = kind} {s = s} {vs = vs} {p = p} {p' = p'} x ps) sh le flag i g good at =
        let text = array_counts types order call body flag kind (count_of vs) i in
        let f = elements types order call (flat types order call n) body s vs (i + length text) g in
        then_good p' i (only text g) f (all_good d n ps sh (omega (arith, le)) (i + length text) g (more p p i text g refl good) (has_second octets i text f.octets at))
    suits_good (suc d) (suc n) (suits_ref {p = p} part) sh le flag i g good at = given_good order octets short p p i (next_id g) g refl good
    suits_good (suc d) (suc n) (suits_null {p = p}) sh le flag i g good at = more p p i _ g refl good
    suits_good (suc d) (suc n) (suits_unique {p = p} part) sh le flag i g good at = given_good order octets short p p i (next_id g) g refl good
    suits_good (suc d) (suc n) (suits_null_full {p = p}) sh le flag i g good at = more p p i _ g refl good
    suits_good (suc d) (suc n) (suits_new {body = body} {s = s} {p = p} is part) sh le flag i g good at =
        let e = new_is p i g good in
        subst (λ (b : Bool). Good (with_item p s) (i + length (item_piece types order call b body s (length p.shapes) i g).octets) (item_piece types order call b body s (length p.shapes) i g).given) (sym e)
        (item_good order octets short p (with_item p s) i g s refl good (subst (λ (b : Bool). Has octets i (item_piece types order call b body s (length p.shapes) i g).octets) e at))
    suits_good (suc d) (suc n) (suits_repeat {n = m} {body = body} {s = s} {t = t} {p = p} is alike) sh le flag i g good at =
        let e = old_is p i g m t good is in
        subst (λ (b : Bool). Good p (i + length (item_piece types order call b body s m i g).octets) (item_piece types order call b body s m i g).given) (sym e) (more p p i _ g refl good)

    pub each_good : {room : ℕ} {body : Vals} {ss : Forms} {vs : Vals} {p p' q q' : Seen} (d n : ℕ) → SuitEach types call room body ss vs p p' q q' → EachForm (Shallow types d) ss → d ≤ n
        → (flag : Bool) (i : ℕ) (g : Given) → Good p i g → Has octets i (members types order call (flat types order call n) body flag ss vs i g).octets
        → Good p' (i + length (members types order call (flat types order call n) body flag ss vs i g).octets) (members types order call (flat types order call n) body flag ss vs i g).given
    each_good d n (no_member {p = p}) sh le flag i g good at = more p p i [] g refl good
    each_good d n (then_member {body = body} {s = s} {v = v} {ss = ss} {vs = vs} {p' = p'} part ps) sh le flag i g good at =
        let a = flat types order call n body (flag && is_last ss) s v i g in
        let b = members types order call (flat types order call n) body flag ss vs (i + length a.octets) a.given in
        then_good p' i a b (each_good d n ps sh.1 le flag (i + length a.octets) a.given
        (suits_good d n part sh.0 le (flag && is_last ss) i g good (has_first octets i a.octets b.octets at)) (has_second octets i a.octets b.octets at))

    pub all_good : {room : ℕ} {body : Vals} {s : Form} {vs : Vals} {p p' q q' : Seen} (d n : ℕ) → SuitAll types call room body s vs p p' q q' → Shallow types d s → d ≤ n
        → (i : ℕ) (g : Given) → Good p i g → Has octets i (elements types order call (flat types order call n) body s vs i g).octets
        → Good p' (i + length (elements types order call (flat types order call n) body s vs i g).octets) (elements types order call (flat types order call n) body s vs i g).given
    all_good d n (no_element {p = p}) sh le i g good at = more p p i [] g refl good
    all_good d n (then_element {body = body} {s = s} {v = v} {vs = vs} {p' = p'} part ps) sh le i g good at =
        let a = flat types order call n body false s v i g in
        let b = elements types order call (flat types order call n) body s vs (i + length a.octets) a.given in
        then_good p' i a b (all_good d n ps sh le (i + length a.octets) a.given
        (suits_good d n part sh le false i g good (has_first octets i a.octets b.octets at)) (has_second octets i a.octets b.octets at))
