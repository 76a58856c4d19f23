-- Items of heaps, one after the other.
use Rattle.std.proofs.Common.{◌≡◌, ◌≢◌, ℕ, suc, ◌+◌, ◌^◌, Bool, true, false, List, [], ◌∷◌, ◌++◌, length, Some, None, refl, ap, sym, subst, ◌∙◌, append_assoc, codes, arith, length-append, ◌<◌}
use Rattle.std.specs.Prelude.{if◌then◌else◌}
use Rattle.ndr_value.specs.declared.value.Value.{Value}
use Rattle.ndr_value.specs.Forms.{Form}
use Rattle.ndr_value.specs.Values.{Val, Vals, no_val, then_val, val, vals}
use Rattle.value_text.specs.Rows.{item_text, rest_text, join}
use Rattle.value_text.specs.Texts.{value_text, list_text, more_text, AllSized}
use Rattle.value_text.specs.Stands.{Stands}
use Rattle.value_text.proofs.Rows.{join_none}
use Rattle.value_text.proofs.Tells.{one_value}
use Rattle.client_texts.specs.Heaps.{Aims, aims, first_aim, AreItems, heap_text, IsHeap, AreListed}
use Rattle.client_texts.specs.Renaming.{is_none, item_mark, ItemStands}
use Rattle.client_texts.proofs.Lists.{pushed, list_added, marked, unmarked, behind_first, no_digit, none_left, some_now, head_sized, others_sized, both_sized, none_sized}

one_longer : (vs : List Value) (v : Value) → length (vs ++ v ∷ []) ≡ suc (length vs)
one_longer [] v = refl
one_longer (w ∷ vs) v = ap suc (one_longer vs v)

pub same_form : (s t : Form) → Some s ≡ Some t → s ≡ t
same_form s t e = cc

no_form_there : (s : Form) → None ≡ Some s → ⊥
no_form_there s e = absurd cc

none_of : (vs : List Value) (others ws : Vals) → is_none vs ≡ true → ws ≡ join (vals vs) others → others ≡ no_val → ws ≡ no_val
none_of [] others ws n e o = e ∙ o
none_of (v ∷ vs) others ws n e o = absurd cc

module _ (types : List Form) (before : Aims) (text : List ℕ) where
  -- the heap is the items that were read, and others that stand after them
  pub record Left (front : List Value) (met : Aims) (rest : List ℕ) (vs : Vals) : Type 0 where
    pub others : Vals
    pub items : AreItems types met (length front) others
    pub small : AllSized others
    pub are : vs ≡ join (vals front) others
    pub stand : rest ≡ rest_text (is_none front) others ++ codes "]"

  -- so many items were read, full pointers stand in front of what is left, and of the text this is left
  pub record Came (front : List Value) (met : Aims) (rest : List ℕ) : Type 0 where
    pub items : (vs : Vals) → AreItems types met (length front) vs → AreItems types before 0 (join (vals front) vs)
    pub sized : (vs : Vals) → AllSized vs → AllSized (join (vals front) vs)
    pub whole : text ≡ list_text (vals front) ++ rest
    pub back : (vs : Vals) → AreListed types before vs text → Left front met rest vs

  pub came_none : (front : List Value) → front ≡ [] → Came front before text
  unfolding list_text
  came_none [] e = record {
    items = λ vs t. t;
    sized = λ vs t. t;
    whole = refl;
    back = λ vs l. record { others = vs; items = l.items; small = l.sized; are = refl; stand = l.whole };
  }
  came_none (v ∷ front) e = absurd cc

  -- the next item, where one stands
  record Next (front : List Value) (met : Aims) (rest : List ℕ) (vs : Vals) : Type 0 where
    pub shape : Form
    pub aim : first_aim met (length front) ≡ Some shape
    pub item : Val
    pub others : Vals
    pub items : AreItems types (met ++ aims types shape item) (suc (length front)) others
    pub small : AllSized others
    pub are : vs ≡ join (vals front) (then_val item others)
    pub stands : ItemStands types shape (is_none front) rest item (more_text others ++ codes "]")

  next_by : (front : List Value) (met : Aims) (rest : List ℕ) (vs others : Vals) → (rest ≡ codes "]" → is_none front ≡ true) → vs ≢ no_val → AreItems types met (length front) others → AllSized others
      → vs ≡ join (vals front) others → rest ≡ rest_text (is_none front) others ++ codes "]" → Next front met rest vs
  next_by front met rest vs no_val more some items small are stand =
      absurd (some (none_of front no_val vs (more (stand ∙ none_left (is_none front) (codes "]"))) are refl))
  next_by front met rest vs (then_val v ws) more some items small are stand =
      let item = value_text v ++ (more_text ws ++ codes "]") in
      let stands : Stands types (2 ^ 32) 0 items.0 item v (more_text ws ++ codes "]") =
      record { typed = items.2; sized = head_sized types v ws small; whole = refl; ends = λ _. no_digit ws (codes "]") refl } in
      record {
        shape = items.0;
        aim = items.1;
        item = v;
        others = ws;
        items = items.3;
        small = others_sized types v ws small;
        are = are;
        stands = (item, stand ∙ behind_first (is_none front) v ws (codes "]"), stands);
      }

  next_is : (front : List Value) (met : Aims) (rest : List ℕ) (vs : Vals) → (rest ≡ codes "]" → is_none front ≡ true) → Came front met rest → AreListed types before vs text → Next front met rest vs
  next_is front met rest vs more r l = let o = r.back vs l in next_by front met rest vs o.others more l.some o.items o.small o.are o.stand

  pub came_more : (front : List Value) (met : Aims) (rest after : List ℕ) (s : Form) (v : Value) → (rest ≡ codes "]" → is_none front ≡ true) → first_aim met (length front) ≡ Some s
      → ItemStands types s (is_none front) rest (val v) after → Came front met rest → Came (front ++ v ∷ []) (met ++ aims types s (val v)) after
  came_more front met rest after s v more aim item r = record {
    items = λ vs t.
        let behind = subst (λ (n : ℕ). AreItems types (met ++ aims types s (val v)) n vs) (one_longer front v) t in
        subst (λ (x : Vals). AreItems types before 0 x) (sym (pushed front v vs)) (r.items (then_val (val v) vs) (s, aim, item.2.typed, behind));
    sized = λ vs t. subst (λ (x : Vals). AllSized x) (sym (pushed front v vs)) (r.sized (then_val (val v) vs) (both_sized types (val v) vs item.2.sized t));
    whole = r.whole
        ∙ (ap (λ (x : List ℕ). list_text (vals front) ++ x) (item.1 ∙ (ap (λ (x : List ℕ). item_mark (is_none front) ++ x) item.2.whole ∙ sym (marked (is_none front) (val v) after)))
        ∙ (sym (append_assoc (list_text (vals front)) (item_text (is_none front) (val v)) after) ∙ ap (λ (x : List ℕ). x ++ after) (sym (list_added front v))));
    back = λ vs l.
        let n = next_is front met rest vs more r l in
        let shapes : n.shape ≡ s = same_form n.shape s (sym n.aim ∙ aim) in
        let there = subst (λ (x : Form). ItemStands types x (is_none front) rest n.item (more_text n.others ++ codes "]")) shapes n.stands in
        let same : item.0 ≡ there.0 = unmarked (is_none front) item.0 there.0 (sym item.1 ∙ there.1) in
        let one = one_value types (2 ^ 32) 0 s item.0 (val v) n.item after (more_text n.others ++ codes "]") item.2
        (subst (λ (x : List ℕ). Stands types (2 ^ 32) 0 s x n.item (more_text n.others ++ codes "]")) (sym same) there.2) in
        let as_read = subst (λ (x : Form). AreItems types (met ++ aims types x n.item) (suc (length front)) n.others) shapes n.items in
        let as_said = subst (λ (x : Val). AreItems types (met ++ aims types s x) (suc (length front)) n.others) (sym one.0) as_read in
        record {
          others = n.others;
          items = subst (λ (k : ℕ). AreItems types (met ++ aims types s (val v)) k n.others) (sym (one_longer front v)) as_said;
          small = n.small;
          are = n.are ∙ (ap (λ (w : Val). join (vals front) (then_val w n.others)) (sym one.0) ∙ sym (pushed front v n.others));
          stand = one.1 ∙ ap (λ (b : Bool). rest_text b n.others ++ codes "]") (sym (some_now front v));
        };
  }

  pub never_aimed : (front : List Value) (met : Aims) (rest : List ℕ) → (rest ≡ codes "]" → is_none front ≡ true) → first_aim met (length front) ≡ None → Came front met rest
      → (vs : Vals) → AreListed types before vs text → ⊥
  never_aimed front met rest more none r vs l = let n = next_is front met rest vs more r l in no_form_there n.shape (sym none ∙ n.aim)

  pub never_stands : (front : List Value) (met : Aims) (rest : List ℕ) (s : Form) → (rest ≡ codes "]" → is_none front ≡ true) → first_aim met (length front) ≡ Some s
      → ((v : Val) (after : List ℕ) → ItemStands types s (is_none front) rest v after → ⊥) → Came front met rest → (vs : Vals) → AreListed types before vs text → ⊥
  never_stands front met rest s more aim none r vs l =
      let n = next_is front met rest vs more r l in
      none n.item (more_text n.others ++ codes "]")
      (subst (λ (x : Form). ItemStands types x (is_none front) rest n.item (more_text n.others ++ codes "]")) (same_form n.shape s (sym n.aim ∙ aim)) n.stands)

  are_some : (front : List Value) → is_none front ≡ false → vals front ≢ no_val
  are_some [] n = absurd cc
  are_some (v ∷ front) n = λ e. absurd cc

  pub came_all : (front : List Value) (met : Aims) (rest : List ℕ) → rest ≡ codes "]" → is_none front ≡ false → Came front met rest → AreListed types before (vals front) text
  came_all front met rest is n r = record {
    items = subst (λ (x : Vals). AreItems types before 0 x) (join_none (vals front)) (r.items no_val tt);
    sized = subst (λ (x : Vals). AllSized x) (join_none (vals front)) (r.sized no_val (none_sized types));
    some = are_some front n;
    whole = r.whole ∙ ap (λ (x : List ℕ). list_text (vals front) ++ x) is;
  }

  -- ---- with what stands before it

  pub no_heap : text ≡ [] → IsHeap types before no_val text
  unfolding heap_text
  no_heap e = record { items = tt; sized = none_sized types; whole = e }

  pub never_heap : (text ≡ [] → ⊥) → ((rest : List ℕ) → text ≡ codes " heap [" ++ rest → ⊥) → (vs : Vals) → IsHeap types before vs text → ⊥
  unfolding heap_text
  never_heap some never no_val h = some h.whole
  never_heap some never (then_val v vs) h = never (list_text (then_val v vs) ++ codes "]") h.whole

module _ (types : List Form) (before : Aims) (text list : List ℕ) (is : text ≡ codes " heap [" ++ list) where
  pub listed_is : (vs : Vals) → AreListed types before vs list → IsHeap types before vs text
  unfolding heap_text
  listed_is no_val l = absurd (l.some refl)
  listed_is (then_val v vs) l = record { items = l.items; sized = l.sized; whole = is ∙ ap (λ (x : List ℕ). codes " heap [" ++ x) l.whole }

  same_list : (x y : List ℕ) → codes " heap [" ++ x ≡ codes " heap [" ++ y → x ≡ y
  same_list x y e = cc

  pub heap_is : (vs : Vals) → IsHeap types before vs text → AreListed types before vs list
  unfolding heap_text
  heap_is no_val h = let e : codes " heap [" ++ list ≡ [] = sym is ∙ h.whole in absurd cc
  heap_is (then_val v vs) h = record { items = h.items; sized = h.sized; some = λ e. absurd cc; whole = same_list list (list_text (then_val v vs) ++ codes "]") (sym is ∙ h.whole) }

-- ---- as the loop goes

abbrev pub GoesOn : List Value → List ℕ → Type 0
GoesOn front rest = rest ≡ codes "]" → is_none front ≡ true

pub shorter : (front : List Value) (v : Value) (s : Form) (types : List Form) (rest after : List ℕ) → ItemStands types s (is_none front) rest (val v) after
    → length after + (if is_none (front ++ v ∷ []) then 1 else 0) < length rest + (if is_none front then 1 else 0)
shorter [] v s types rest after item =
    let e = ap length (item.1 ∙ item.2.whole) in
    let l = length-append (value_text (val v)) after in
    omega (arith, e, l)
shorter (w ∷ front) v s types rest after item =
    let e = ap length item.1 in
    let f = ap length item.2.whole in
    let l = length-append (value_text (val v)) after in
    omega (arith, e, f, l)
