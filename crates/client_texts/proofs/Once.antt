-- A text has one message at most, and a message one text.
use Rattle.std.proofs.Common.{◌≡◌, ◌≢◌, ℕ, suc, ◌^◌, ◌<◌, Bool, true, false, List, [], ◌∷◌, ◌++◌, length, refl, ap, sym, ◌∙◌, subst, append_assoc, arith, codes, decimal}
use Rattle.rpc_base.specs.declared.identifiers.WireHandle.{WireHandle}
use Rattle.base_words.specs.Reads.{HasNo}
use Rattle.ndr_value.specs.Forms.{Form, Forms}
use Rattle.ndr_value.specs.Values.{Val, Vals, no_val, then_val, Msg}
use Rattle.ndr_value.specs.Typed.{Typed, EachTyped, no_more, one_more}
use Rattle.value_text.specs.Marks.{heads_digit}
use Rattle.value_text.specs.Rows.{rest_text}
use Rattle.value_text.specs.Texts.{value_text, list_text, more_text, Sized, AllSized}
use Rattle.value_text.specs.Stands.{Stands}
use Rattle.value_text.proofs.Tells.{one_value}
use Rattle.client_texts.specs.Handles.{name}
use Rattle.client_texts.specs.Heaps.{Aims, aims, each_aims, AreItems, heap_text, IsHeap}
use Rattle.client_texts.specs.Texts.{row_text, Named, NamedFrom, IsCallText, IsRow, IsRequestText}
use Rattle.client_texts.specs.Texts.Named.{the_end as ends, handle as places, quoted as quotes, other as stays}
use Rattle.client_texts.specs.Texts.NamedFrom.{the_end, handle, quoted, other}
use Rattle.client_texts.specs.Renaming.{item_mark}
use Rattle.client_texts.proofs.Lacks.{head_is, tail_is, same_inside, same_digits, decimal_digits, short_get, same_at}
use Rattle.client_texts.proofs.Apart.{same_name}
use Rattle.client_texts.proofs.Requests.{on_handle, on_quoted, on_other, on_end, same_head}
use Rattle.client_texts.proofs.Lists.{unmarked, behind_first, no_digit, none_left, head_sized, others_sized}
use Rattle.client_texts.proofs.Listed.{same_form}

same_front : (a x y : List ℕ) → a ++ x ≡ a ++ y → x ≡ y
same_front [] x y e = e
same_front (c ∷ a) x y e = same_front a x y (tail_is c c (a ++ x) (a ++ y) e)

-- ---- handles

module _ (known : List WireHandle) where
  -- of a text with names there is one with places
  one_places : length known < 2 ^ 64 → (k : ℕ) (ws vs : List WireHandle) (p q t : List ℕ) → NamedFrom known k ws p t → NamedFrom known k vs q t → (ws ≡ vs) × (p ≡ q)
  one_places few k ws vs p q t (the_end k') m = let e = on_end known k vs q t m refl in (sym e.0, sym e.1)
  one_places few k ws vs p q t (handle k' w ws' r s has behind n) m =
      let h = on_handle known k vs q t (name known w ++ s) m refl in
      let stops : heads_digit s ≡ false = sym (same_head known (suc k) ws' r s n) ∙ behind in
      let same = same_name known few w h.wire s h.after has h.has stops h.stops h.text_is in
      let on = one_places few (suc k) ws' h.others r h.left s n (subst (λ (x : List ℕ). NamedFrom known (suc k) h.others h.left x) (sym same.1) h.goes_on) in (
        ap (λ (x : WireHandle). x ∷ ws') same.0 ∙ (ap (λ (x : List WireHandle). h.wire ∷ x) on.0 ∙ sym h.wires_are),
        ap (λ (x : List ℕ). 36 ∷ decimal k ++ x) on.1 ∙ sym h.places_are,
      )
  one_places few k ws vs p q t (quoted k' ws' i r s none n) m =
      let h = on_quoted known k vs q t i s m refl none in
      let on = one_places few k ws vs r h.0 s n h.2 in (on.0, ap (λ (x : List ℕ). 34 ∷ i ++ 34 ∷ x) on.1 ∙ sym h.1)
  one_places few k ws vs p q t (other k' ws' c r s off quote n) m =
      let h = on_other known k vs q t c s m refl off quote in
      let on = one_places few k ws vs r h.0 s n h.2 in (on.0, ap (λ (x : List ℕ). c ∷ x) on.1 ∙ sym h.1)

-- ---- values

module _ (types : List Form) where
  one_item : (s : Form) (b : Bool) (v w : Val) (vs ws : Vals) (x y : List ℕ) → Typed types (2 ^ 32) 0 s v → Typed types (2 ^ 32) 0 s w → Sized v → Sized w → heads_digit x ≡ false → heads_digit y ≡ false
      → rest_text b (then_val v vs) ++ x ≡ rest_text b (then_val w ws) ++ y → (v ≡ w) × (more_text vs ++ x ≡ more_text ws ++ y)
  one_item s b v w vs ws x y t u small large hx hy e =
      let front : item_mark b ++ (value_text v ++ (more_text vs ++ x)) ≡ item_mark b ++ (value_text w ++ (more_text ws ++ y)) = sym (behind_first b v vs x) ∙ (e ∙ behind_first b w ws y) in
      let here : Stands types (2 ^ 32) 0 s (value_text v ++ (more_text vs ++ x)) v (more_text vs ++ x) = record { typed = t; sized = small; whole = refl; ends = λ _. no_digit vs x hx } in
      let there : Stands types (2 ^ 32) 0 s (value_text v ++ (more_text vs ++ x)) w (more_text ws ++ y) =
      record { typed = u; sized = large; whole = unmarked b (value_text v ++ (more_text vs ++ x)) (value_text w ++ (more_text ws ++ y)) front; ends = λ _. no_digit ws y hy } in
      one_value types (2 ^ 32) 0 s (value_text v ++ (more_text vs ++ x)) v w (more_text vs ++ x) (more_text ws ++ y) here there

  one_row : (ss : Forms) (b : Bool) (vs ws : Vals) (x y : List ℕ) → EachTyped types (2 ^ 32) 0 ss vs → EachTyped types (2 ^ 32) 0 ss ws → AllSized vs → AllSized ws
      → rest_text b vs ++ 41 ∷ x ≡ rest_text b ws ++ 41 ∷ y → (vs ≡ ws) × (x ≡ y)
  one_row ss b vs ws x y no_more no_more small large e = (refl, tail_is 41 41 x y (sym (none_left b (41 ∷ x)) ∙ (e ∙ none_left b (41 ∷ y))))
  one_row ss b vs ws x y (one_more {s = s} {v = v} {ss = ss'} {vs = vs'} t ts) (one_more {v = w} {vs = ws'} u us) small large e =
      let one = one_item s b v w vs' ws' (41 ∷ x) (41 ∷ y) t u (head_sized types v vs' small) (head_sized types w ws' large) refl refl e in
      let on = one_row ss' false vs' ws' x y ts us (others_sized types v vs' small) (others_sized types w ws' large) one.1 in
      (ap (λ (z : Val). then_val z vs') one.0 ∙ ap (λ (zs : Vals). then_val w zs) on.0, on.1)

  -- an item, where none may follow
  one_ends : (v : Val) (vs : Vals) → codes "]" ≡ more_text (then_val v vs) ++ codes "]" → ⊥
  unfolding list_text
  one_ends v vs e = let h = head_is 93 44 [] (32 ∷ ((value_text v ++ more_text vs) ++ codes "]")) e in omega (arith, h)

  abbrev Ends : Bool → Vals → Vals → Type 0
  Ends b vs ws = rest_text b vs ++ codes "]" ≡ rest_text b ws ++ codes "]"

  -- the first items are the same, and so are the others where they have to be
  one_on : (before : Aims) (n : ℕ) (b : Bool) (v w : Val) (vs ws : Vals) (t : AreItems types before n (then_val v vs)) (u : AreItems types before n (then_val w ws)) → AllSized (then_val v vs) → AllSized (then_val w ws)
      → Ends b (then_val v vs) (then_val w ws)
      → (AreItems types (before ++ aims types t.0 v) (suc n) vs → AreItems types (before ++ aims types t.0 v) (suc n) ws → AllSized vs → AllSized ws → Ends false vs ws → vs ≡ ws) → then_val v vs ≡ then_val w ws
  unfolding list_text
  one_on before n b v w vs ws t u small large e on =
      let shapes : u.0 ≡ t.0 = same_form u.0 t.0 (sym u.1 ∙ t.1) in
      let as_first : Typed types (2 ^ 32) 0 t.0 w = subst (λ (s : Form). Typed types (2 ^ 32) 0 s w) shapes u.2 in
      let one = one_item t.0 b v w vs ws (codes "]") (codes "]") t.2 as_first (head_sized types v vs small) (head_sized types w ws large) refl refl e in
      let left = subst (λ (s : Form). AreItems types (before ++ aims types s w) (suc n) ws) shapes u.3 in
      let others = subst (λ (x : Val). AreItems types (before ++ aims types t.0 x) (suc n) ws) (sym one.0) left in
      ap (λ (z : Val). then_val z vs) one.0 ∙ ap (λ (zs : Vals). then_val w zs) (on t.3 others (others_sized types v vs small) (others_sized types w ws large) one.1)

  one_list : (vs ws : Vals) (before : Aims) (n : ℕ) → AreItems types before n vs → AreItems types before n ws → AllSized vs → AllSized ws → Ends false vs ws → vs ≡ ws
  one_list no_val no_val before n t u small large e = refl
  one_list no_val (then_val w ws) before n t u small large e = absurd (one_ends w ws (sym (none_left false (codes "]")) ∙ e))
  one_list (then_val v vs) no_val before n t u small large e = absurd (one_ends v vs (sym (none_left false (codes "]")) ∙ sym e))
  one_list (then_val v vs) (then_val w ws) before n t u small large e = one_on before n false v w vs ws t u small large e (one_list vs ws (before ++ aims types t.0 v) (suc n))

  no_list : (v : Val) (vs : Vals) → [] ≡ heap_text (then_val v vs) → ⊥
  unfolding heap_text
  no_list v vs e = absurd cc

  listed : (v w : Val) (vs ws : Vals) → heap_text (then_val v vs) ≡ heap_text (then_val w ws) → Ends true (then_val v vs) (then_val w ws)
  unfolding heap_text
  listed v w vs ws e = same_front (codes " heap [") (list_text (then_val v vs) ++ codes "]") (list_text (then_val w ws) ++ codes "]") e

  nothing_is : heap_text no_val ≡ []
  unfolding heap_text
  nothing_is = refl

  one_heap : (before : Aims) (vs ws : Vals) (text : List ℕ) → IsHeap types before vs text → IsHeap types before ws text → vs ≡ ws
  one_heap before no_val no_val text h k = refl
  one_heap before no_val (then_val w ws) text h k = absurd (no_list w ws (sym nothing_is ∙ (sym h.whole ∙ k.whole)))
  one_heap before (then_val v vs) no_val text h k = absurd (no_list v vs (sym nothing_is ∙ (sym k.whole ∙ h.whole)))
  one_heap before (then_val v vs) (then_val w ws) text h k = one_on before 0 true v w vs ws h.items k.items h.sized k.sized (listed v w vs ws (sym h.whole ∙ k.whole)) (one_list vs ws (before ++ aims types h.items.0 v) 1)

  row_of : (ss : Forms) (vs : Vals) (text rest : List ℕ) → IsRow types ss vs text rest → text ≡ 40 ∷ (rest_text true vs ++ 41 ∷ rest)
  unfolding row_text
  row_of ss vs text rest r = r.whole ∙ ap (λ (x : List ℕ). 40 ∷ x) (append_assoc (list_text vs) (codes ")") rest)

  pub one_values : (ss : Forms) (vs ws : Vals) (text x y : List ℕ) → IsRow types ss vs text x → IsRow types ss ws text y → (vs ≡ ws) × (x ≡ y)
  one_values ss vs ws text x y r q =
      one_row ss true vs ws x y r.typed q.typed r.sized q.sized (tail_is 40 40 (rest_text true vs ++ 41 ∷ x) (rest_text true ws ++ 41 ∷ y) (sym (row_of ss vs text x r) ∙ row_of ss ws text y q))

-- ---- messages

msg_of : Vals → Vals → List WireHandle → Msg
msg_of vs hs ws = record { values = vs; heap = hs; wires = ws }

same_msg : (m n : Msg) → m.values ≡ n.values → m.heap ≡ n.heap → m.wires ≡ n.wires → m ≡ n
same_msg m n v h w =
    ap (λ (x : Vals). record { values = x; heap = m.heap; wires = m.wires }) v ∙ (ap (λ (x : Vals). record { values = n.values; heap = x; wires = m.wires }) h ∙ ap (λ (x : List WireHandle). record { values = n.values; heap = n.heap; wires = x }) w)

pub one_message : (types : List Form) (shapes : Forms) (known : List WireHandle) (m n : Msg) (text : List ℕ) → length known < 2 ^ 64 → IsRequestText types shapes known m text → IsRequestText types shapes known n text → m ≡ n
one_message types shapes known m n text few r q =
    let p = one_places known few 0 m.wires n.wires r.places q.places text r.named q.named in
    let row = subst (λ (x : List ℕ). IsRow types shapes n.values x q.behind) (sym p.1) q.row in
    let v = one_values types shapes m.values n.values r.places r.behind q.behind r.row row in
    let behind = subst (λ (x : List ℕ). IsHeap types (each_aims types shapes n.values) n.heap x) (sym v.1) q.heap in
    let heap = subst (λ (x : Vals). IsHeap types (each_aims types shapes x) n.heap r.behind) (sym v.0) behind in
    same_msg m n v.0 (one_heap types (each_aims types shapes m.values) m.heap n.heap r.behind r.heap heap) p.0

-- ---- texts

module _ (known : List WireHandle) where
  record Followed (k : ℕ) (ws : List WireHandle) (p t : List ℕ) (w : WireHandle) (others : List WireHandle) (rest : List ℕ) : Type 0 where
    pub after : List ℕ
    pub text_is : t ≡ 36 ∷ name known w ++ after
    pub goes_on : NamedFrom known (suc k) others rest after

  one_wire : (w v : WireHandle) (ws vs : List WireHandle) → w ∷ ws ≡ v ∷ vs → (w ≡ v) × (ws ≡ vs)
  one_wire w v ws vs e = (cc, cc)

  by_handle : (k : ℕ) (vs : List WireHandle) (q t : List ℕ) (w : WireHandle) (ws : List WireHandle) (r : List ℕ) → NamedFrom known k vs q t → vs ≡ w ∷ ws → q ≡ 36 ∷ decimal k ++ r → Followed k vs q t w ws r
  by_handle k vs q t w ws r (the_end k') e f = absurd cc
  by_handle k vs q t w ws r (handle k' v vs' r' s has behind n) e f =
      let a = one_wire v w vs' ws e in
      let b = same_front (decimal k) r' r (tail_is 36 36 (decimal k ++ r') (decimal k ++ r) f) in
      record {
        after = s;
        text_is = ap (λ (x : WireHandle). 36 ∷ name known x ++ s) a.0;
        goes_on = subst (λ (x : List ℕ). NamedFrom known (suc k) ws x s) b (subst (λ (x : List WireHandle). NamedFrom known (suc k) x r' s) a.1 n);
      }
  by_handle k vs q t w ws r (quoted k' vs' i r' s none n) e f = let h = head_is 34 36 (i ++ 34 ∷ r') (decimal k ++ r) f in absurd (omega (arith, h))
  by_handle k vs q t w ws r (other k' vs' c r' s off quote n) e f = absurd (off (head_is c 36 r' (decimal k ++ r) f))

  by_quoted : (k : ℕ) (vs : List WireHandle) (q t i r : List ℕ) → NamedFrom known k vs q t → q ≡ 34 ∷ i ++ 34 ∷ r → HasNo 34 i → (after : List ℕ) × (t ≡ 34 ∷ i ++ 34 ∷ after) × NamedFrom known k vs r after
  by_quoted k vs q t i r (the_end k') e none = absurd cc
  by_quoted k vs q t i r (handle k' v vs' r' s has behind n) e none = let h = head_is 36 34 (decimal k ++ r') (i ++ 34 ∷ r) e in absurd (omega (arith, h))
  by_quoted k vs q t i r (quoted k' vs' j r' s free n) e none =
      let same = same_inside j i r' r free none (tail_is 34 34 (j ++ 34 ∷ r') (i ++ 34 ∷ r) e) in
      (s, ap (λ (x : List ℕ). 34 ∷ x ++ 34 ∷ s) same.0, subst (λ (x : List ℕ). NamedFrom known k vs x s) same.1 n)
  by_quoted k vs q t i r (other k' vs' c r' s off quote n) e none = absurd (quote (head_is c 34 r' (i ++ 34 ∷ r) e))

  by_other : (k : ℕ) (vs : List WireHandle) (q t : List ℕ) (c : ℕ) (r : List ℕ) → NamedFrom known k vs q t → q ≡ c ∷ r → c ≢ 36 → c ≢ 34 → (after : List ℕ) × (t ≡ c ∷ after) × NamedFrom known k vs r after
  by_other k vs q t c r (the_end k') e off quote = absurd cc
  by_other k vs q t c r (handle k' v vs' r' s has behind n) e off quote = absurd (off (sym (head_is 36 c (decimal k ++ r') r e)))
  by_other k vs q t c r (quoted k' vs' j r' s free n) e off quote = absurd (quote (sym (head_is 34 c (j ++ 34 ∷ r') r e)))
  by_other k vs q t c r (other k' vs' d r' s no_h no_q n) e off quote =
      (s, ap (λ (x : ℕ). x ∷ s) (head_is d c r' r e), subst (λ (x : List ℕ). NamedFrom known k vs x s) (tail_is d c r' r e) n)

  by_end : (k : ℕ) (vs : List WireHandle) (q t : List ℕ) → NamedFrom known k vs q t → q ≡ [] → t ≡ []
  by_end k vs q t (the_end k') e = refl
  by_end k vs q t (handle k' v vs' r' s has behind n) e = absurd cc
  by_end k vs q t (quoted k' vs' j r' s free n) e = absurd cc
  by_end k vs q t (other k' vs' d r' s no_h no_q n) e = absurd cc

  -- of a text with places there is one with names
  pub one_named : (k : ℕ) (ws : List WireHandle) (p s t : List ℕ) → NamedFrom known k ws p s → NamedFrom known k ws p t → s ≡ t
  one_named k ws p s t (the_end k') m = sym (by_end k ws p t m refl)
  one_named k ws p s t (handle k' w ws' r u has behind n) m =
      let h = by_handle k ws p t w ws' r m refl refl in ap (λ (x : List ℕ). 36 ∷ name known w ++ x) (one_named (suc k) ws' r u h.after n h.goes_on) ∙ sym h.text_is
  one_named k ws p s t (quoted k' ws' i r u none n) m = let h = by_quoted k ws p t i r m refl none in ap (λ (x : List ℕ). 34 ∷ i ++ 34 ∷ x) (one_named k ws r u h.0 n h.2) ∙ sym h.1
  one_named k ws p s t (other k' ws' c r u off quote n) m = let h = by_other k ws p t c r m refl off quote in ap (λ (x : List ℕ). c ∷ x) (one_named k ws r u h.0 n h.2) ∙ sym h.1

pub one_request : (types : List Form) (shapes : Forms) (known : List WireHandle) (m : Msg) (s t : List ℕ) → IsRequestText types shapes known m s → IsRequestText types shapes known m t → s ≡ t
one_request types shapes known m s t r q =
    let behind : r.behind ≡ q.behind = r.heap.whole ∙ sym q.heap.whole in
    let places : r.places ≡ q.places = r.row.whole ∙ (ap (λ (x : List ℕ). row_text m.values ++ x) behind ∙ sym q.row.whole) in
    one_named known 0 m.wires r.places s t r.named (subst (λ (x : List ℕ). NamedFrom known 0 m.wires x t) (sym places) q.named)

-- ---- answers

module _ (known wires : List WireHandle) (few : length wires < 2 ^ 64) where
  differ : {A : Type 0} (c d : ℕ) (x y : List ℕ) → c ∷ x ≡ d ∷ y → (c ≡ d → ⊥) → A
  differ c d x y e not = absurd (not (head_is c d x y e))

  same_named : (p q s t : List ℕ) → p ≡ q → Named known wires p s → Named known wires q t → s ≡ t
  same_named p q s t e ends ends = refl
  same_named p q s t e ends (places j v u u' there come stop m) = absurd cc
  same_named p q s t e ends (quotes j u u' free m) = absurd cc
  same_named p q s t e ends (stays d u u' no_h no_q m) = absurd cc
  same_named p q s t e (places k w r r' at has stops n) ends = absurd cc
  same_named p q s t e (places k w r r' at has stops n) (places j v u u' there come stop m) =
      let low = short_get wires k w at in
      let less = short_get wires j v there in
      let lt : k < 2 ^ 64 = omega (arith, low, few) in
      let lu : j < 2 ^ 64 = omega (arith, less, few) in
      let d = same_digits (decimal k) (decimal j) r u (decimal_digits k lt) (decimal_digits j lu) stops stop (tail_is 36 36 (decimal k ++ r) (decimal j ++ u) e) in
      let wire = same_at wires k j w v few d.0 at there in
      ap (λ (x : WireHandle). 36 ∷ name known x ++ r') wire ∙ ap (λ (x : List ℕ). 36 ∷ name known v ++ x) (same_named r u r' u' d.1 n m)
  same_named p q s t e (places k w r r' at has stops n) (quotes j u u' free m) = differ 36 34 (decimal k ++ r) (j ++ 34 ∷ u) e (λ f. omega (arith, f))
  same_named p q s t e (places k w r r' at has stops n) (stays d u u' no_h no_q m) = differ 36 d (decimal k ++ r) u e (λ f. no_h (sym f))
  same_named p q s t e (quotes i r r' none n) ends = absurd cc
  same_named p q s t e (quotes i r r' none n) (places j v u u' there come stop m) = differ 34 36 (i ++ 34 ∷ r) (decimal j ++ u) e (λ f. omega (arith, f))
  same_named p q s t e (quotes i r r' none n) (quotes j u u' free m) =
      let d = same_inside i j r u none free (tail_is 34 34 (i ++ 34 ∷ r) (j ++ 34 ∷ u) e) in
      ap (λ (x : List ℕ). 34 ∷ x ++ 34 ∷ r') d.0 ∙ ap (λ (x : List ℕ). 34 ∷ j ++ 34 ∷ x) (same_named r u r' u' d.1 n m)
  same_named p q s t e (quotes i r r' none n) (stays d u u' no_h no_q m) = differ 34 d (i ++ 34 ∷ r) u e (λ f. no_q (sym f))
  same_named p q s t e (stays c r r' off quote n) ends = absurd cc
  same_named p q s t e (stays c r r' off quote n) (places j v u u' there come stop m) = differ c 36 r (decimal j ++ u) e off
  same_named p q s t e (stays c r r' off quote n) (quotes j u u' free m) = differ c 34 r (j ++ 34 ∷ u) e quote
  same_named p q s t e (stays c r r' off quote n) (stays d u u' no_h no_q m) =
      ap (λ (x : ℕ). x ∷ r') (head_is c d r u e) ∙ ap (λ (x : List ℕ). d ∷ x) (same_named r u r' u' (tail_is c d r u e) n m)

  pub one_answer : (vs : Vals) (s t : List ℕ) → IsCallText known wires vs s → IsCallText known wires vs t → s ≡ t
  one_answer vs s t r q = same_named r.places q.places s t (r.plain ∙ sym q.plain) r.named q.named
