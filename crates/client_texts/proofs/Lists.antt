-- Rows of values, item by item.
use Rattle.std.proofs.Common.{◌≡◌, ℕ, suc, ◌-◌, ◌^◌, arith, ◌==◌, Bool, true, false, List, [], ◌∷◌, ◌++◌, length, refl, ap, sym, subst, ◌∙◌, append_assoc, codes, length-append}
use Rattle.std.proofs.lemmas.List.{append-nil}
use Rattle.std.proofs.lemmas.Bool.Decides.{nat_tests}
use Rattle.ndr_value.specs.declared.value.Value.{Value}
use Rattle.ndr_value.specs.Forms.{Form, Forms, no_form, then_form}
use Rattle.ndr_value.specs.Values.{Val, Vals, no_val, then_val, val, vals}
use Rattle.ndr_value.specs.Typed.{Typed, EachTyped, no_more, one_more}
use Rattle.ndr_table.specs.Tables.{ParamForm}
use Rattle.value_text.specs.Rows.{item_text, rest_text, join}
use Rattle.value_text.specs.Texts.{value_text, list_text, more_text, Sized, AllSized}
use Rattle.value_text.specs.Stands.{Stands}
use Rattle.value_text.specs.Told.{StandsAt, NoneStands}
use Rattle.value_text.specs.Marks.{heads_digit}
use Rattle.value_text.proofs.Rows.{vals_push, join_none}
use Rattle.value_text.proofs.Tells.{one_value}
use Rattle.client_texts.specs.Texts.{row_text, IsRow, inwards}
use Rattle.client_texts.specs.Renaming.{is_none, item_mark, ItemStands}
use Rattle.client_texts.proofs.Lacks.{tail_is}

pub none_is : (vs : List Value) (b : Bool) → b ≡ (length vs == 0) → b ≡ is_none vs
none_is [] b e = e
none_is (w ∷ vs) b e = let n : (suc (length vs) == 0) ≡ false = grind (arith, nat_tests) in e ∙ n

pub some_now : (vs : List Value) (v : Value) → is_none (vs ++ v ∷ []) ≡ false
some_now [] v = refl
some_now (w ∷ vs) v = refl

-- ---- lists with an item at the end

join_more : (a : Vals) (v : Val) (b : Vals) → join (join a (then_val v no_val)) b ≡ join a (then_val v b)
join_more no_val v b = refl
join_more (then_val w a) v b = ap (then_val w) (join_more a v b)

pub pushed : (vs : List Value) (v : Value) (b : Vals) → join (vals (vs ++ v ∷ [])) b ≡ join (vals vs) (then_val (val v) b)
pushed vs v b = ap (λ (a : Vals). join a b) (vals_push vs v) ∙ join_more (vals vs) (val v) b

more_added : (vs : List Value) (v : Value) → more_text (vals (vs ++ v ∷ [])) ≡ more_text (vals vs) ++ (codes ", " ++ value_text (val v))
unfolding list_text
more_added [] v = ap (λ (x : List ℕ). codes ", " ++ x) (append-nil (value_text (val v)))
more_added (w ∷ vs) v =
    ap (λ (x : List ℕ). codes ", " ++ (value_text (val w) ++ x)) (more_added vs v)
    ∙ (ap (λ (x : List ℕ). codes ", " ++ x) (sym (append_assoc (value_text (val w)) (more_text (vals vs)) (codes ", " ++ value_text (val v))))
    ∙ sym (append_assoc (codes ", ") (value_text (val w) ++ more_text (vals vs)) (codes ", " ++ value_text (val v))))

pub list_added : (vs : List Value) (v : Value) → list_text (vals (vs ++ v ∷ [])) ≡ list_text (vals vs) ++ item_text (is_none vs) (val v)
unfolding list_text
list_added [] v = append-nil (value_text (val v))
list_added (w ∷ vs) v =
    ap (λ (x : List ℕ). value_text (val w) ++ x) (more_added vs v) ∙ sym (append_assoc (value_text (val w)) (more_text (vals vs)) (codes ", " ++ value_text (val v)))

pub marked : (b : Bool) (v : Val) (rest : List ℕ) → item_text b v ++ rest ≡ item_mark b ++ (value_text v ++ rest)
marked true v rest = refl
marked false v rest = refl

pub unmarked : (b : Bool) (x y : List ℕ) → item_mark b ++ x ≡ item_mark b ++ y → x ≡ y
unmarked true x y e = e
unmarked false x y e = tail_is 32 32 x y (tail_is 44 44 (32 ∷ x) (32 ∷ y) e)

pub behind_first : (b : Bool) (v : Val) (vs : Vals) (rest : List ℕ) → rest_text b (then_val v vs) ++ rest ≡ item_mark b ++ (value_text v ++ (more_text vs ++ rest))
unfolding list_text
behind_first true v vs rest = append_assoc (value_text v) (more_text vs) rest
behind_first false v vs rest = ap (λ (x : List ℕ). codes ", " ++ x) (append_assoc (value_text v) (more_text vs) rest)

pub no_digit : (vs : Vals) (end : List ℕ) → heads_digit end ≡ false → heads_digit (more_text vs ++ end) ≡ false
unfolding list_text
no_digit no_val end stops = stops
no_digit (then_val v vs) end stops = refl

pub none_left : (b : Bool) (end : List ℕ) → rest_text b no_val ++ end ≡ end
unfolding list_text
none_left true end = refl
none_left false end = refl

-- ---- one item

pub same_tail : (a b c d : List ℕ) → a ++ b ≡ c ++ d → length b ≡ length d → b ≡ d
same_tail [] b [] d e l = e
same_tail [] b (y ∷ c) d e l = let k : length b ≡ length (y ∷ (c ++ d)) = ap length e in let m = length-append c d in absurd (omega (arith, k, l, m))
same_tail (x ∷ a) b [] d e l = let k : length (x ∷ (a ++ b)) ≡ length d = ap length e in let m = length-append a b in absurd (omega (arith, k, l, m))
same_tail (x ∷ a) b (y ∷ c) d e l = same_tail a b c d (tail_is x y (a ++ b) (c ++ d) e) l

module _ (types : List Form) (s : Form) (first : Bool) (text item : List ℕ) (is : text ≡ item_mark first ++ item) where
  pub item_found : (v : Val) (end : ℕ) (front rest : List ℕ) → StandsAt types (2 ^ 32) s item 0 v end → item ≡ front ++ rest → length front ≡ end → ItemStands types s first text v rest
  item_found v end front rest st e l =
      let k = ap length e in
      let m = length-append front rest in
      let n : length st.0 ≡ length rest = omega (arith, k, m, l, st.2) in
      let same : st.0 ≡ rest = same_tail (value_text v) st.0 front rest (sym st.1.whole ∙ e) n in
      (item, is, subst (λ (x : List ℕ). Stands types (2 ^ 32) 0 s item v x) same st.1)

  pub item_none : NoneStands types s item 0 → (v : Val) (rest : List ℕ) → ItemStands types s first text v rest → ⊥
  item_none none v rest st =
      let same : st.0 ≡ item = unmarked first st.0 item (sym st.1 ∙ is) in
      let here = subst (λ (x : List ℕ). Stands types (2 ^ 32) 0 s x v rest) same st.2 in
      let k : length item ≡ length (value_text v ++ rest) = ap length here.whole in
      let m = length-append (value_text v) rest in
      none (2 ^ 32) v (length item - length rest) (rest, here, omega (arith, k, m))

-- ---- all items

inwards_in : (p : ParamForm) (ps : List ParamForm) → p.inward ≡ true → inwards (p ∷ ps) ≡ then_form p.shape (inwards ps)
inwards_in p ps e = rw e refl

inwards_out : (p : ParamForm) (ps : List ParamForm) → p.inward ≡ false → inwards (p ∷ ps) ≡ inwards ps
inwards_out p ps e = rw e refl

module _ (types : List Form) where
  record First (s : Form) (ss : Forms) (vs : Vals) : Type 0 where
    pub head : Val
    pub others : Vals
    pub are : vs ≡ then_val head others
    pub is : Typed types (2 ^ 32) 0 s head
    pub each : EachTyped types (2 ^ 32) 0 ss others

  first_of : (s : Form) (ss : Forms) (vs : Vals) → EachTyped types (2 ^ 32) 0 (then_form s ss) vs → First s ss vs
  first_of s ss vs (one_more t ts) = record { head = _; others = _; are = refl; is = t; each = ts }

  no_first : (vs : Vals) → EachTyped types (2 ^ 32) 0 no_form vs → vs ≡ no_val
  no_first vs no_more = refl

  pub head_sized : (v : Val) (vs : Vals) → AllSized (then_val v vs) → Sized v
  unfolding Sized
  head_sized v vs h = h.0

  pub others_sized : (v : Val) (vs : Vals) → AllSized (then_val v vs) → AllSized vs
  unfolding Sized
  others_sized v vs h = h.1

  pub both_sized : (v : Val) (vs : Vals) → Sized v → AllSized vs → AllSized (then_val v vs)
  unfolding Sized
  both_sized v vs a b = (a, b)

  pub none_sized : AllSized no_val
  unfolding Sized
  none_sized = tt

  module _ (all : List ParamForm) (text : List ℕ) where
    -- the row is the values that were read, and others that stand after them
    pub record Others (front : List Value) (left : List ParamForm) (rest : List ℕ) (vs : Vals) (end : List ℕ) : Type 0 where
      pub others : Vals
      pub each : EachTyped types (2 ^ 32) 0 (inwards left) others
      pub small : AllSized others
      pub are : vs ≡ join (vals front) others
      pub stand : rest ≡ rest_text (is_none front) others ++ 41 ∷ end

    -- so many values were read, and of the text this is left
    pub record Reached (front : List Value) (left : List ParamForm) (rest : List ℕ) : Type 0 where
      pub typed : (vs : Vals) → EachTyped types (2 ^ 32) 0 (inwards left) vs → EachTyped types (2 ^ 32) 0 (inwards all) (join (vals front) vs)
      pub sized : (vs : Vals) → AllSized vs → AllSized (join (vals front) vs)
      pub whole : text ≡ codes "(" ++ (list_text (vals front) ++ rest)
      pub back : (vs : Vals) (end : List ℕ) → IsRow types (inwards all) vs text end → Others front left rest vs end

    pub row_start : (front : List Value) (rest : List ℕ) → front ≡ [] → text ≡ 40 ∷ rest → Reached front all rest
    unfolding row_text list_text
    row_start [] rest e is = record {
      typed = λ vs t. t;
      sized = λ vs t. t;
      whole = is;
      back = λ vs end r. record {
        others = vs;
        each = r.typed;
        small = r.sized;
        are = refl;
        stand = tail_is 40 40 rest (list_text vs ++ 41 ∷ end) (sym is ∙ (r.whole ∙ ap (λ (x : List ℕ). 40 ∷ x) (append_assoc (list_text vs) (codes ")") end)));
      };
    }
    row_start (v ∷ front) rest e is = absurd cc

    pub no_row : ((u : List ℕ) → text ≡ 40 ∷ u → ⊥) → (vs : Vals) (end : List ℕ) → IsRow types (inwards all) vs text end → ⊥
    unfolding row_text
    no_row never vs end r = never ((list_text vs ++ codes ")") ++ end) r.whole

    -- the next value, where one stands
    pub next_is : (front : List Value) (p : ParamForm) (ps : List ParamForm) (rest : List ℕ) (vs : Vals) (end : List ℕ) → p.inward ≡ true → Others front (p ∷ ps) rest vs end
        → (w : Val) × (ws : Vals) × EachTyped types (2 ^ 32) 0 (inwards ps) ws × AllSized ws × (vs ≡ join (vals front) (then_val w ws)) × ItemStands types p.shape (is_none front) rest w (more_text ws ++ 41 ∷ end)
    next_is front p ps rest vs end in' o =
        let f = first_of p.shape (inwards ps) o.others (subst (λ (x : Forms). EachTyped types (2 ^ 32) 0 x o.others) (inwards_in p ps in') o.each) in
        let small = subst (λ (x : Vals). AllSized x) f.are o.small in
        let item = value_text f.head ++ (more_text f.others ++ 41 ∷ end) in
        let stands : Stands types (2 ^ 32) 0 p.shape item f.head (more_text f.others ++ 41 ∷ end) =
        record { typed = f.is; sized = head_sized f.head f.others small; whole = refl; ends = λ _. no_digit f.others (41 ∷ end) refl } in (
          f.head,
          f.others,
          f.each,
          others_sized f.head f.others small,
          o.are ∙ ap (λ (x : Vals). join (vals front) x) f.are,
          (item, o.stand ∙ (ap (λ (x : Vals). rest_text (is_none front) x ++ 41 ∷ end) f.are ∙ behind_first (is_none front) f.head f.others (41 ∷ end)), stands),
        )

    pub row_more : (front : List Value) (p : ParamForm) (ps : List ParamForm) (rest after : List ℕ) (v : Value) → p.inward ≡ true → Reached front (p ∷ ps) rest
        → ItemStands types p.shape (is_none front) rest (val v) after → Reached (front ++ v ∷ []) ps after
    row_more front p ps rest after v in' r item =
        let are = inwards_in p ps in' in
        record {
          typed = λ vs t.
              let one = subst (λ (x : Forms). EachTyped types (2 ^ 32) 0 x (then_val (val v) vs)) (sym are) (one_more item.2.typed t) in
              subst (λ (x : Vals). EachTyped types (2 ^ 32) 0 (inwards all) x) (sym (pushed front v vs)) (r.typed (then_val (val v) vs) one);
          sized = λ vs t. subst (λ (x : Vals). AllSized x) (sym (pushed front v vs)) (r.sized (then_val (val v) vs) (both_sized (val v) vs item.2.sized t));
          whole = r.whole
              ∙ ap (λ (x : List ℕ). codes "(" ++ x)
              (ap (λ (x : List ℕ). list_text (vals front) ++ x) (item.1 ∙ (ap (λ (x : List ℕ). item_mark (is_none front) ++ x) item.2.whole ∙ sym (marked (is_none front) (val v) after)))
              ∙ (sym (append_assoc (list_text (vals front)) (item_text (is_none front) (val v)) after) ∙ ap (λ (x : List ℕ). x ++ after) (sym (list_added front v))));
          back = λ vs end row.
              let n = next_is front p ps rest vs end in' (r.back vs end row) in
              let there = n.5 in
              let same : item.0 ≡ there.0 = unmarked (is_none front) item.0 there.0 (sym item.1 ∙ there.1) in
              let one = one_value types (2 ^ 32) 0 p.shape item.0 (val v) n.0 after (more_text n.1 ++ 41 ∷ end) item.2
              (subst (λ (x : List ℕ). Stands types (2 ^ 32) 0 p.shape x n.0 (more_text n.1 ++ 41 ∷ end)) (sym same) there.2) in
              record {
                others = n.1;
                each = n.2;
                small = n.3;
                are = n.4 ∙ (ap (λ (w : Val). join (vals front) (then_val w n.1)) (sym one.0) ∙ sym (pushed front v n.1));
                stand = one.1 ∙ ap (λ (b : Bool). rest_text b n.1 ++ 41 ∷ end) (sym (some_now front v));
              };
        }

    pub row_skip : (front : List Value) (p : ParamForm) (ps : List ParamForm) (rest : List ℕ) → p.inward ≡ false → Reached front (p ∷ ps) rest → Reached front ps rest
    row_skip front p ps rest out r =
        let are = inwards_out p ps out in
        record {
          typed = λ vs t. r.typed vs (subst (λ (x : Forms). EachTyped types (2 ^ 32) 0 x vs) (sym are) t);
          sized = r.sized;
          whole = r.whole;
          back = λ vs end row. let o = r.back vs end row in record { others = o.others; each = subst (λ (x : Forms). EachTyped types (2 ^ 32) 0 x o.others) are o.each; small = o.small; are = o.are; stand = o.stand };
        }

    pub row_stops : (front : List Value) (p : ParamForm) (ps : List ParamForm) (rest : List ℕ) → p.inward ≡ true → Reached front (p ∷ ps) rest
        → ((v : Val) (after : List ℕ) → ItemStands types p.shape (is_none front) rest v after → ⊥) → (vs : Vals) (end : List ℕ) → IsRow types (inwards all) vs text end → ⊥
    row_stops front p ps rest in' r none vs end row = let n = next_is front p ps rest vs end in' (r.back vs end row) in none n.0 (more_text n.1 ++ 41 ∷ end) n.5

    pub row_end : (front : List Value) (left : List ParamForm) (rest end : List ℕ) → left ≡ [] → rest ≡ 41 ∷ end → Reached front left rest → IsRow types (inwards all) (vals front) text end
    unfolding row_text
    row_end front left rest end none is r =
        let last = subst (λ (x : List ParamForm). Reached front x rest) none r in
        record {
          typed = subst (λ (x : Vals). EachTyped types (2 ^ 32) 0 (inwards all) x) (join_none (vals front)) (last.typed no_val no_more);
          sized = subst (λ (x : Vals). AllSized x) (join_none (vals front)) (last.sized no_val none_sized);
          whole = r.whole ∙ ap (λ (x : List ℕ). codes "(" ++ x) (ap (λ (x : List ℕ). list_text (vals front) ++ x) is ∙ sym (append_assoc (list_text (vals front)) (codes ")") end));
        }

    pub row_open : (front : List Value) (left : List ParamForm) (rest : List ℕ) → left ≡ [] → ((end : List ℕ) → rest ≡ 41 ∷ end → ⊥) → Reached front left rest
        → (vs : Vals) (end : List ℕ) → IsRow types (inwards all) vs text end → ⊥
    row_open front left rest none never r vs end row =
        let last = subst (λ (x : List ParamForm). Reached front x rest) none r in
        let o = last.back vs end row in
        never end (o.stand ∙ (ap (λ (x : Vals). rest_text (is_none front) x ++ 41 ∷ end) (no_first o.others o.each) ∙ none_left (is_none front) (41 ∷ end)))
