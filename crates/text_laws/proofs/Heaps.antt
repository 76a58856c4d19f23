-- The heap of a request: each of its items is of the shape that the first full pointer to it points to.
use Rattle.std.proofs.Common.{◌≡◌, ℕ, zero, suc, ◌+◌, ◌<◌, ◌^◌, ◌==◌, Bool, true, false, List, [], ◌∷◌, ◌++◌, length, Option, Some, None, refl, sym, ap, subst, ◌∙◌, arith, inl, inr}
use Rattle.std.specs.Prelude.{◌&&◌, ◌||◌, slice_get, is_some, if◌then◌else◌}
use Rattle.std.specs.List.{list_all}
use Rattle.std.proofs.lemmas.Bool.{and_parts, cases_lt}
use Rattle.ndr_value.specs.declared.shape.Count.{Count}
use Rattle.ndr_value.specs.Forms.{Form, OfHandle, OfRef, Forms, no_form, then_form, bare}
use Rattle.ndr_value.specs.Values.{Val, Vals, no_val, then_val, count_of}
use Rattle.ndr_value.specs.Typed.{Typed}
use Rattle.ndr_table.specs.Tables.{ParamForm, param_below}
use Rattle.ndr_table.specs.Ordered.{is_below, ordered}
use Rattle.ndr_table.specs.Sound.{is_sound, own_kind, handle_kind, range_sound, param_sound}
use Rattle.ndr_model.specs.declared.way.Way.TheVariants.{Request}
use Rattle.ndr_model.specs.Stub.{Entry, of_param, param_entry, entries_of}
use Rattle.ndr_model.specs.Named.{Call, nth}
use Rattle.ndr_model.specs.Fits.{Seen, Suits, suits_handle, SuitEntries, no_entry, then_entry, nothing_seen}
use Rattle.value_text.specs.Texts.{Sized, AllSized}
use Rattle.client_texts.specs.Heaps.{Aims, aims, each_aims, first_aim, AreItems}
use Rattle.client_texts.specs.Texts.{inwards}
use Rattle.client_texts.proofs.Slots.{Below, AllBelow}
use Rattle.text_laws.proofs.Values.{same_number}
use Rattle.text_laws.proofs.Bare.{bare_aims, aims_same, same_typed}
use Rattle.text_laws.proofs.Meeting.{Front, front_same, front_on, shapes_grow, far, Has, has_left, has_right, Is, AllIs, all_both, aims_ref, Source, in_values, in_item, Good, Facts, moved, none, both, referent, met}

pub kind_or_sound : (o : Option ℕ) (b c : Bool) → ((is_some o || b) && c) ≡ true → o ≡ None → b ≡ true
kind_or_sound None true c h e = refl
kind_or_sound None false c h e = absurd cc
kind_or_sound (Some k) b c h e = absurd cc

-- behind a parameter's own Ref
pub sound_behind : (s : Form) → is_sound s ≡ true → is_sound (of_param s) ≡ true
sound_behind (OfRef s) e = e
sound_behind _ e = e

pub below_behind : (far : ℕ) (s : Form) → is_below far far s ≡ true → is_below far far (of_param s) ≡ true
below_behind far (OfRef s) e = e
below_behind far _ e = e

aims_behind : (types : List Form) (v : Val) (s : Form) → aims types (of_param s) v ≡ aims types s v
aims_behind types v (OfRef s) = sym (aims_ref types v s)
aims_behind types v _ = refl

pub sized_at : (vs : Vals) → AllSized vs → (n : ℕ) (v : Val) → nth vs n ≡ Some v → Sized v
unfolding Sized
sized_at no_val z n v e = absurd cc
sized_at (then_val w vs) z zero v e = let same : w ≡ v = cc in subst Sized same z.0
sized_at (then_val w vs) z (suc n) v e = sized_at vs z.1 n v e

-- ---- parameters

entries_grow : (types : List Form) (call : Call) (es : List Entry) (vs : Vals) (q g : Seen) → SuitEntries types call es vs q g → Front q.shapes g.shapes
entries_grow types call _ _ _ _ (no_entry {q = q}) = front_same q.shapes
entries_grow types call _ _ _ _ (then_entry {es = es} {vs = vs} {q = q} {h = h} {g = m} {q' = g} x r xs) =
    let k = shapes_grow types call x in
    front_on q.shapes m.shapes g.shapes (front_on q.shapes h.shapes m.shapes k.0 k.1) (entries_grow types call es vs m g xs)

module _ (types shapes : List Form) (heap : Vals) (values : Aims) where
  abbrev Own : Aims → Seen → Seen → Type 0
  Own a q g = Facts types shapes heap values 0 a nothing_seen nothing_seen q g

  module _ {call : Call} where
    handle_met : {room kind : ℕ} {body : Vals} {link : Option Count} {v : Val} {q h g : Seen} (s : Form) → Suits types call room body link (OfHandle kind) v q h h g → Own (aims types s v) q g
    handle_met s (suits_handle {w = w} {p = q} x) = record {
      all = tt;
      new = λ hyp. record { flat = λ j le lt. absurd (omega (arith, le, lt)); behind = λ j le lt. absurd (let less : j < length q.shapes = lt in omega (arith, le, less)) };
    }

    own_met : {room kind : ℕ} {body : Vals} {link : Option Count} {v : Val} {q h g : Seen} (s t : Form) → own_kind t ≡ Some kind → Suits types call room body link t v q h h g → Own (aims types s v) q g
    own_met s (OfHandle k) e x = handle_met s x
    own_met s _ e x = absurd cc

    kind_met : {room kind : ℕ} {body : Vals} {link : Option Count} {v : Val} {q h g : Seen} (s : Form) → handle_kind s ≡ Some kind → Suits types call room body link (of_param s) v q h h g → Own (aims types s v) q g
    kind_met (OfRef s) e x = own_met (OfRef s) s e x
    kind_met (OfHandle k) e x = handle_met (OfHandle k) x
    kind_met _ e x = absurd cc

  module _ (call : Call) (heap_is : call.said.heap ≡ heap) (sound : list_all is_sound types ≡ true) (order : ordered types ≡ true) (items : (n : ℕ) (v : Val) → nth call.said.heap n ≡ Some v → Sized v) (result : Option Form) where
    one_by : (p : ParamForm) (o : Option ℕ) → handle_kind p.shape ≡ o → param_sound p ≡ true → param_below (length types) p ≡ true
        → (v : Val) (q h g : Seen) → Sized v → Front g.shapes shapes → Suits types call 256 no_val None (of_param p.shape) v q h h g → Own (aims types p.shape v) q g
    one_by p (Some kind) is s b v q h g z e x = kind_met p.shape is x
    one_by p None is s b v q h g z e x =
        let good = sound_behind p.shape (kind_or_sound (handle_kind p.shape) (is_sound p.shape) (range_sound p.shape p.range) s is) in
        let f = met types shapes heap values call heap_is sound order items 0 (length types) good (below_behind (length types) p.shape b) z (omega arith) (front_same h.shapes) e x in
        moved types shapes heap values 0 (aims types (of_param p.shape) v) (aims types p.shape v) nothing_seen nothing_seen q g (aims_behind types v p.shape)
        (referent types shapes heap values 0 (aims types (of_param p.shape) v) nothing_seen q h g f)

    abbrev Meets : List Entry → Forms → Type 0
    Meets es ss = (vs : Vals) (q g : Seen) → AllSized vs → Front g.shapes shapes → SuitEntries types call es vs q g → Own (each_aims types ss vs) q g

    entry_met : (b : Bool) (p : ParamForm) (es : List Entry) (ss : Forms) → param_sound p ≡ true → param_below (length types) p ≡ true → Meets es ss
        → Meets (if b then param_entry p ∷ es else es) (if b then then_form p.shape ss else ss)
    unfolding Sized
    entry_met true p es ss s b go _ _ _ z e (then_entry {v = v} {vs = vs} {q = q} {h = h} {g = m} {q' = g} x r xs) =
        let one = one_by p (handle_kind p.shape) refl s b v q h m z.0 (front_on m.shapes g.shapes shapes (entries_grow types call es vs m g xs) e) x in
        both types shapes heap values 0 (aims types p.shape v) (each_aims types ss vs) nothing_seen nothing_seen nothing_seen q m g one (go vs m g z.1 e xs)
    entry_met false p es ss s b go vs q g z e xs = go vs q g z e xs

    none_met : Meets [] no_form
    none_met _ _ _ z e (no_entry {q = q}) = none types shapes heap values 0 nothing_seen q

    pub params_met : (ps : List ParamForm) → list_all param_sound ps ≡ true → list_all (param_below (length types)) ps ≡ true → Meets (entries_of Request ps result) (inwards ps)
    params_met [] h b = none_met
    params_met (p ∷ ps) h b =
        let c = and_parts (param_sound p) (list_all param_sound ps) h in
        let d = and_parts (param_below (length types) p) (list_all (param_below (length types)) ps) b in
        entry_met p.inward p (entries_of Request ps result) (inwards ps) c.0 d.0 (params_met ps c.1 d.1)

-- ---- full pointers to the same shapes

abbrev num_of : Aims → ℕ
num_of [] = 0
num_of (a ∷ more) = a.0

abbrev form_of : Aims → Form → Form
form_of [] s = s
form_of (a ∷ more) s = a.1

abbrev more_of : Aims → Aims
more_of [] = []
more_of (a ∷ more) = more

all_same : (shapes : List Form) (a b : Aims) → bare_aims a ≡ bare_aims b → AllIs shapes a → AllIs shapes b
all_same shapes [] [] e h = tt
all_same shapes [] (y ∷ b) e h = absurd cc
all_same shapes (x ∷ a) [] e h = absurd cc
all_same shapes (x ∷ a) (y ∷ b) e h =
    let n : x.0 ≡ y.0 = ap num_of e in
    let f : bare x.1 ≡ bare y.1 = ap (λ (z : Aims). form_of z x.1) e in
    let l : bare_aims a ≡ bare_aims b = ap more_of e in
    ((h.0.0, ap (slice_get shapes) (sym n) ∙ h.0.1, h.0.2 ∙ f), all_same shapes a b l h.1)

has_by : (c d : Bool) (u w : Form) (x y : Option Form) → c ≡ d → ((t : Form) → x ≡ Some t → (s : Form) × (y ≡ Some s)) → (t : Form) → (if c then Some u else x) ≡ Some t → (s : Form) × ((if d then Some w else y) ≡ Some s)
has_by c true u w x y e go t f = (w, refl)
has_by true false u w x y e go t f = absurd cc
has_by false false u w x y e go t f = go t f

has_same : (a b : Aims) (j : ℕ) → bare_aims a ≡ bare_aims b → Has a j → Has b j
has_same [] b j e h = let f = h.1 in absurd cc
has_same (x ∷ a) [] j e h = absurd cc
has_same (x ∷ a) (y ∷ b) j e h =
    let n : x.0 ≡ y.0 = ap num_of e in
    let l : bare_aims a ≡ bare_aims b = ap more_of e in
    has_by (x.0 == j) (y.0 == j) x.1 y.1 (first_aim a j) (first_aim b j) (ap (λ (k : ℕ). k == j) n) (λ t f. has_same a b j l (t, f)) h.0 h.1

first_by : (shapes : List Form) (c : Bool) (n m : ℕ) (s u : Form) (x : Option Form) → (m == n) ≡ c → Is shapes m s → (x ≡ Some u → Is shapes n u) → (if c then Some s else x) ≡ Some u → Is shapes n u
first_by shapes true n m s u x e i go f = let same : s ≡ u = cc in subst (λ (k : ℕ). Is shapes k u) (same_number m n e) (subst (λ (y : Form). Is shapes m y) same i)
first_by shapes false n m s u x e i go f = go f

all_first : (shapes : List Form) (a : Aims) (n : ℕ) (u : Form) → AllIs shapes a → first_aim a n ≡ Some u → Is shapes n u
all_first shapes [] n u h e = absurd cc
all_first shapes (x ∷ a) n u h e = first_by shapes (x.0 == n) n x.0 x.1 u (first_aim a n) refl h.0 (λ f. all_first shapes a n u h.1 f) e

same_form : (o : Option Form) (s t : Form) → o ≡ Some s → o ≡ Some t → s ≡ t
same_form o s t e f = cc

same_val : (o : Option Val) (v w : Val) → o ≡ Some v → o ≡ Some w → v ≡ w
same_val o v w e f = cc

-- ---- the items, one after the other

module _ (types shapes : List Form) (heap : Vals) (values : Aims) (good : (j : ℕ) → j < length shapes → Good types shapes heap values 0 j) where
  abbrev Covers : ℕ → Aims → Type 0
  Covers n before = (j : ℕ) → Source types shapes heap values n j → Has before j

  covers_more : (n : ℕ) (before : Aims) (s u : Form) (v : Val) → Covers n before → slice_get shapes n ≡ Some s → nth heap n ≡ Some v → bare s ≡ bare u → Covers (suc n) (before ++ aims types u v)
  covers_more n before s u v covers at is e j (in_values h) = has_left before (aims types u v) j (covers j (in_values h))
  covers_more n before s u v covers at is e j (in_item i t w lt there item h) = elim (cases_lt i n) [
    | inl less ↦ has_left before (aims types u v) j (covers j (in_item i t w less there item h))
    | inr more ↦
        let same : i ≡ n = omega (arith, lt, more) in
        let t_is : t ≡ s = same_form (slice_get shapes i) t s there (ap (slice_get shapes) same ∙ at) in
        let w_is : w ≡ v = same_val (nth heap i) w v item (ap (nth heap) same ∙ is) in
        let one = subst (λ (x : Form). Has (aims types x w) j) t_is h in
        let two = subst (λ (x : Val). Has (aims types s x) j) w_is one in
        has_right before (aims types u v) j (has_same (aims types s v) (aims types u v) j (aims_same types v s u e) two)
  ]

  items_on : (vs : Vals) (n : ℕ) (before : Aims) → ((j : ℕ) → nth vs j ≡ nth heap (n + j)) → n + count_of vs ≡ length shapes → AllIs shapes before → Covers n before → AreItems types before n vs × AllBelow 0 vs
  items_on no_val n before at count all covers = (tt, tt)
  items_on (then_val v vs) n before at count all covers =
      let more : count_of (then_val v vs) ≡ suc (count_of vs) = refl in
      let g = good n (omega (arith, count, more)) in
      let item = g.item in
      let has = covers n (g.met (omega arith)) in
      let is = all_first shapes before n has.0 all has.1 in
      let flat : n + 0 ≡ n = omega arith in
      let here : Some v ≡ nth heap n = at 0 ∙ ap (nth heap) flat in
      let value_is : item.value ≡ v = same_val (nth heap n) item.value v item.is_value (sym here) in
      let shape_is : is.0 ≡ item.shape = same_form (slice_get shapes n) is.0 item.shape is.1 item.is_shape in
      let e : bare item.shape ≡ bare has.0 = sym (ap bare shape_is) ∙ is.2 in
      let typed = same_typed types (2 ^ 32) item.shape has.0 0 v e (subst (λ (x : Val). Typed types (2 ^ 32) 0 item.shape x) value_is item.typed) in
      let aim = all_same shapes (aims types item.shape v) (aims types has.0 v) (aims_same types v item.shape has.0 e) (subst (λ (x : Val). AllIs shapes (aims types item.shape x)) value_is item.aim) in
      let rest = items_on vs (suc n) (before ++ aims types has.0 v) (λ j. at (suc j) ∙ ap (nth heap) (let k : n + suc j ≡ suc n + j = omega arith in k)) (omega (arith, count, more)) (all_both shapes before (aims types has.0 v) all aim)
      (covers_more n before item.shape has.0 v covers item.is_shape (sym here) e) in
      ((has.0, has.1, typed, rest.0), (subst (λ (x : Val). Below 0 x) value_is item.free, rest.1))

of_values : (types shapes : List Form) (heap : Vals) (values : Aims) (j : ℕ) → Source types shapes heap values 0 j → Has values j
of_values types shapes heap values j (in_values h) = h
of_values types shapes heap values j (in_item i t v lt at is h) = absurd (omega (arith, lt))

pub heap_items : (types shapes : List Form) (heap : Vals) (values : Aims) {end : Seen} → Facts types shapes heap values 0 values nothing_seen nothing_seen nothing_seen end → count_of heap ≡ length end.shapes → end.shapes ≡ shapes
    → AreItems types values 0 heap × AllBelow 0 heap
heap_items types shapes heap values {end} facts count is =
    let new = facts.new (λ j le has. in_values has) in
    let same : length end.shapes ≡ length shapes = ap length is in
    let outer : (j : ℕ) → Source types shapes heap values 0 j → Has values j = λ j s. of_values types shapes heap values j s in
    items_on types shapes heap values (λ j lt. new.behind j (omega arith) (omega (arith, lt, same))) heap 0 values (λ j. ap (nth heap) (let k : j ≡ 0 + j = omega arith in k)) (omega (arith, count, same)) facts.all outer
