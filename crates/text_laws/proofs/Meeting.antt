-- Items of the heap are met: from the values, or from items of lesser numbers, by full pointers to the same shapes.
use Rattle.std.proofs.Common.{◌≡◌, ℕ, zero, suc, ◌+◌, ◌<◌, ◌≤◌, ◌^◌, ◌==◌, Bool, true, false, List, [], ◌∷◌, ◌++◌, length, Option, Some, None, refl, sym, ap, subst, ◌∙◌, append_assoc, arith, length-append, inl, inr}
use Rattle.std.specs.Prelude.{◌&&◌, slice_get, if◌then◌else◌}
use Rattle.std.specs.List.{list_all}
use Rattle.std.proofs.lemmas.Bool.{and_parts, cases_lt}
use Rattle.std.proofs.lemmas.Bool.Decides.{nat_tests}
use Rattle.std.proofs.lemmas.List.{append-nil}
use Rattle.ndr_value.specs.declared.shape.Count.{Count}
use Rattle.ndr_value.specs.Forms.{Form, OfNamed, OfStruct, OfUnion, OfArray, OfRef, OfUnique, OfFull, Forms, Body, bare}
use Rattle.ndr_value.specs.Values.{Val, VStruct, VUnion, VArray, VPtr, VFull, Vals}
use Rattle.ndr_value.specs.Fits.{arm_of}
use Rattle.ndr_value.specs.Judged.{is_done, or_else, plain, members, inner, is_held, held}
use Rattle.ndr_value.specs.Typed.{Typed}
use Rattle.ndr_table.specs.Ordered.{is_below, each_below, arms_below, is_body, ordered_from, ordered}
use Rattle.ndr_table.specs.Sound.{has_member, has_element, is_tag, is_sound, each_sound, arms_sound}
use Rattle.ndr_laws.proofs.Grounded.{arm_has}
use Rattle.ndr_model.specs.Named.{Call, nth}
use Rattle.ndr_model.specs.Fits.{Seen, with_item, Suits, suits_bool, suits_byte, suits_char, suits_int, suits_uint, suits_enum, suits_handle, suits_text, suits_name, suits_struct, suits_empty_arm, suits_arm, suits_array, suits_ref, suits_null, suits_unique, suits_null_full, suits_new, suits_repeat, SuitEach, no_member, then_member, SuitAll, no_element, then_element}
use Rattle.value_text.specs.Texts.{Sized, AllSized}
use Rattle.client_texts.specs.Heaps.{Aims, named, aims, each_aims, all_aims, first_aim}
use Rattle.client_texts.proofs.Slots.{Below}
use Rattle.text_laws.proofs.Values.{all_at, type_below, Sound, arms_have, Ahead, arms_ahead, fine}

-- ---- lists that others begin with

abbrev pub Front : List Form → List Form → Type 0
Front a s = (b : List Form) × (s ≡ a ++ b)

pub front_same : (a : List Form) → Front a a
front_same a = ([], sym (append-nil a))

pub front_on : (a b c : List Form) → Front a b → Front b c → Front a c
front_on a b c f g = (f.0 ++ g.0, g.1 ∙ (ap (λ (x : List Form). x ++ g.0) f.1 ∙ append_assoc a f.0 g.0))

pub front_long : (a b : List Form) → Front a b → length a ≤ length b
front_long a b f = let e = ap length f.1 in let l = length-append a f.0 in omega (arith, e, l)

get_front : (a b : List Form) (n : ℕ) (t : Form) → slice_get a n ≡ Some t → slice_get (a ++ b) n ≡ Some t
get_front [] b n t e = absurd cc
get_front (x ∷ a) b zero t e = e
get_front (x ∷ a) b (suc n) t e = get_front a b n t e

pub front_get : (a s : List Form) (n : ℕ) (t : Form) → Front a s → slice_get a n ≡ Some t → slice_get s n ≡ Some t
front_get a s n t f e = ap (λ (x : List Form). slice_get x n) f.1 ∙ get_front a f.0 n t e

last_get : (a : List Form) (s : Form) → slice_get (a ++ s ∷ []) (length a) ≡ Some s
last_get [] s = refl
last_get (x ∷ a) s = last_get a s

-- ---- full pointers to an item

abbrev pub Has : Aims → ℕ → Type 0
Has a n = (u : Form) × (first_aim a n ≡ Some u)

left_by : (b : Bool) (u : Form) (x y : Option Form) → ((t : Form) → x ≡ Some t → (s : Form) × (y ≡ Some s)) → (t : Form) → (if b then Some u else x) ≡ Some t → (s : Form) × ((if b then Some u else y) ≡ Some s)
left_by true u x y go t e = (u, refl)
left_by false u x y go t e = go t e

pub has_left : (a b : Aims) (n : ℕ) → Has a n → Has (a ++ b) n
has_left [] b n h = let e = h.1 in absurd cc
has_left (x ∷ a) b n h = left_by (x.0 == n) x.1 (first_aim a n) (first_aim (a ++ b) n) (λ t e. has_left a b n (t, e)) h.0 h.1

right_by : (b : Bool) (u : Form) (y : Option Form) → ((s : Form) × (y ≡ Some s)) → (s : Form) × ((if b then Some u else y) ≡ Some s)
right_by true u y h = (u, refl)
right_by false u y h = h

pub has_right : (a b : Aims) (n : ℕ) → Has b n → Has (a ++ b) n
has_right [] b n h = h
has_right (x ∷ a) b n h = right_by (x.0 == n) x.1 (first_aim (a ++ b) n) (has_right a b n h)

itself : (n : ℕ) → (n == n) ≡ true
itself n = grind (arith, nat_tests)

has_one : (n : ℕ) (s : Form) → Has ((n, s) ∷ []) n
has_one n s = (s, ap (λ (b : Bool). if b then Some s else None) (itself n))

-- ---- of items of these shapes

-- the item has that shape, but for what names the tags of unions
abbrev pub Is : List Form → ℕ → Form → Type 0
Is shapes n u = (t : Form) × (slice_get shapes n ≡ Some t) × (bare t ≡ bare u)

abbrev pub AllIs : List Form → Aims → Type 0
AllIs shapes [] = Unit {0}
AllIs shapes (a ∷ more) = Is shapes a.0 a.1 × AllIs shapes more

pub all_both : (shapes : List Form) (a b : Aims) → AllIs shapes a → AllIs shapes b → AllIs shapes (a ++ b)
all_both shapes [] b x y = y
all_both shapes (z ∷ a) b x y = (x.0, all_both shapes a b x.1 y)

-- ---- what shapes stand for

done_plain : (types : List Form) (n : ℕ) (p : Form) → is_done p ≡ true → plain types n p ≡ p
done_plain types zero (OfRef s) e = absurd cc
done_plain types zero (OfNamed c switch) e = absurd cc
done_plain types zero _ e = refl
done_plain types (suc n) (OfRef s) e = absurd cc
done_plain types (suc n) (OfNamed c switch) e = absurd cc
done_plain types (suc n) _ e = refl

body_done : (p : Form) → is_body p ≡ true → is_done p ≡ true
body_done (OfStruct ss) e = refl
body_done (OfUnion t arms) e = refl
body_done _ e = absurd cc

ref_plain : (types : List Form) (n : ℕ) (s : Form) → plain types n (OfRef s) ≡ plain types n s
ref_plain types zero s = refl
ref_plain types (suc n) s = refl

type_body : (number far : ℕ) (types : List Form) (c : ℕ) (s : Form) → ordered_from number far types ≡ true → slice_get types c ≡ Some s → is_body s ≡ true
type_body number far [] c s h e = absurd cc
type_body number far (x ∷ xs) zero s h e =
    let p = and_parts (is_body x) (is_below number far x && ordered_from (number + 1) far xs) h in
    let same : x ≡ s = cc in
    subst (λ (y : Form). is_body y ≡ true) same p.0
type_body number far (x ∷ xs) (suc c) s h e =
    let p = and_parts (is_body x) (is_below number far x && ordered_from (number + 1) far xs) h in
    type_body (number + 1) far xs c s (and_parts (is_below number far x) (ordered_from (number + 1) far xs) p.1).1 e

name_by : (types : List Form) (n c : ℕ) (switch : Option Count) (s : Form) → slice_get types c ≡ Some s → is_done s ≡ true → plain types (suc n) (OfNamed c switch) ≡ s
name_by types n c switch s is done = ap (λ (o : Option Form). or_else o (OfNamed c switch) (λ t. plain types n t)) is ∙ done_plain types n s done

some_types : (types : List Form) (c : ℕ) (s : Form) → slice_get types c ≡ Some s → (n : ℕ) × (length types ≡ suc n)
some_types [] c s e = absurd cc
some_types (x ∷ types) c s e = (length types, refl)

name_named : (types : List Form) (c : ℕ) (switch : Option Count) (s : Form) → ordered types ≡ true → slice_get types c ≡ Some s → named types (OfNamed c switch) ≡ named types s
name_named types c switch s order is =
    let done = body_done s (type_body 0 (length types) types c s order is) in
    let n = some_types types c s is in
    ap (λ (k : ℕ). plain types k (OfNamed c switch)) n.1 ∙ (name_by types n.0 c switch s is done ∙ sym (done_plain types (length types) s done))

-- of shapes that stand for the same, a value has the same full pointers
pub aims_named : (types : List Form) (v : Val) (s t : Form) → named types s ≡ named types t → aims types s v ≡ aims types t v
aims_named types (VStruct vs) s t e = ap (λ (p : Form). each_aims types (members p) vs) e
aims_named types (VUnion tag v) s t e = ap (λ (p : Form). if is_held (arm_of p tag) then aims types (held (arm_of p tag)) v else []) e
aims_named types (VArray vs) s t e = ap (λ (p : Form). all_aims types (inner p) vs) e
aims_named types (VPtr v) s t e = ap (λ (p : Form). aims types (inner p) v) e
aims_named types (VFull (Some n)) s t e = ap (λ (p : Form). (n, inner p) ∷ []) e
aims_named types (VFull None) s t e = refl
aims_named types _ s t e = refl

pub aims_ref : (types : List Form) (v : Val) (s : Form) → aims types (OfRef s) v ≡ aims types s v
aims_ref types v s = aims_named types v (OfRef s) s (ref_plain types (length types) s)

-- ---- shapes that are seen

abbrev pub Grow : Seen → Seen → Seen → Seen → Type 0
Grow p p' q q' = Front p.shapes p'.shapes × Front q.shapes q'.shapes

still : (p q : Seen) → Grow p p q q
still p q = (front_same p.shapes, front_same q.shapes)

grow_on : (p h p' q g q' : Seen) → Grow p h q g → Grow h p' g q' → Grow p p' q q'
grow_on p h p' q g q' x y = (front_on p.shapes h.shapes p'.shapes x.0 y.0, front_on q.shapes g.shapes q'.shapes x.1 y.1)

module _ (types : List Form) (call : Call) where
  mutual
    grows : {room : ℕ} {body : Vals} {link : Option Count} {s : Form} {v : Val} {p p' q q' : Seen} → Suits types call room body link s v p p' q q' → Grow p p' q q'
    grows {p} {q} suits_bool = still p q
    grows {p} {q} (suits_byte h) = still p q
    grows {p} {q} (suits_char h) = still p q
    grows {p} {q} (suits_int h) = still p q
    grows {p} {q} (suits_uint h) = still p q
    grows {p} {q} (suits_enum h lt) = still p q
    grows {p} {q} (suits_handle {w} h) = still p q
    grows {p} {q} (suits_text h) = still p q
    grows (suits_name e t) = grows t
    grows (suits_struct ts) = each_grows ts
    grows {p} {q} (suits_empty_arm h t e) = still p q
    grows (suits_arm h t e s) = grows s
    grows (suits_array c ts) = all_grows ts
    grows {p} {q} {q'} (suits_ref {h} t) = let g = grows t in (front_same p.shapes, front_on q.shapes h.shapes q'.shapes g.0 g.1)
    grows {p} {q} suits_null = still p q
    grows {p} {q} {q'} (suits_unique {h} t) = let g = grows t in (front_same p.shapes, front_on q.shapes h.shapes q'.shapes g.0 g.1)
    grows {p} {q} suits_null_full = still p q
    grows {p} {q} {q'} (suits_new {s} {h} n t) = let g = grows t in ((s ∷ [], refl), front_on q.shapes h.shapes q'.shapes g.0 g.1)
    grows {p} {q} (suits_repeat e i) = still p q

    each_grows : {room : ℕ} {body : Vals} {ss : Forms} {vs : Vals} {p p' q q' : Seen} → SuitEach types call room body ss vs p p' q q' → Grow p p' q q'
    each_grows {p} {q} no_member = still p q
    each_grows {p} {p'} {q} {q'} (then_member {h} {g} t ts) = grow_on p h p' q g q' (grows t) (each_grows ts)

    all_grows : {room : ℕ} {body : Vals} {s : Form} {vs : Vals} {p p' q q' : Seen} → SuitAll types call room body s vs p p' q q' → Grow p p' q q'
    all_grows {p} {q} no_element = still p q
    all_grows {p} {p'} {q} {q'} (then_element {h} {g} t ts) = grow_on p h p' q g q' (grows t) (all_grows ts)

  pub shapes_grow : {room : ℕ} {body : Vals} {link : Option Count} {s : Form} {v : Val} {p p' q q' : Seen} → Suits types call room body link s v p p' q q' → Grow p p' q q'
  shapes_grow t = grows t

abbrev pub far : Seen → ℕ
far p = length p.shapes

-- ---- where items are met

module _ (types : List Form) (shapes : List Form) (heap : Vals) (values : Aims) where
  -- in the values, or in items below k
  pub data Source (k j : ℕ) : Type 0 where
    in_values : Has values j → Source k j
    in_item : (i : ℕ) (t : Form) (v : Val) → i < k → slice_get shapes i ≡ Some t → nth heap i ≡ Some v → Has (aims types t v) j → Source k j

  -- an item is of its shape, and its full pointers lead to items of theirs
  pub record Item (j : ℕ) : Type 0 where
    pub shape : Form
    pub value : Val
    pub is_shape : slice_get shapes j ≡ Some shape
    pub is_value : nth heap j ≡ Some value
    pub typed : Typed types (2 ^ 32) 0 shape value
    pub free : Below 0 value
    pub aim : AllIs shapes (aims types shape value)

  pub record Good (b j : ℕ) : Type 0 where
    pub item : Item j
    pub met : b ≤ j → Source j j

  abbrev pub Between : ℕ → Seen → Seen → Type 0
  Between b p p' = (j : ℕ) → far p ≤ j → j < far p' → Good b j

  pub record New (b : ℕ) (p p' q q' : Seen) : Type 0 where
    pub flat : Between b p p'
    pub behind : Between b q q'

  pub record Facts (b : ℕ) (a : Aims) (p p' q q' : Seen) : Type 0 where
    pub all : AllIs shapes a
    pub new : ((j : ℕ) → b ≤ j → Has a j → Source j j) → New b p p' q q'

  pub moved : (b : ℕ) (a c : Aims) (p p' q q' : Seen) → a ≡ c → Facts b a p p' q q' → Facts b c p p' q q'
  moved b a c p p' q q' e f = subst (λ (x : Aims). Facts b x p p' q q') e f

  between_none : (b : ℕ) (p : Seen) → Between b p p
  between_none b p j le lt = absurd (omega (arith, le, lt))

  between_on : (b : ℕ) (p h q : Seen) → Between b p h → Between b h q → Between b p q
  between_on b p h q x y j le lt = elim (cases_lt j (far h)) [
    | inl less ↦ x j le less
    | inr more ↦ y j more lt
  ]

  pub none : (b : ℕ) (p q : Seen) → Facts b [] p p q q
  none b p q = record { all = tt; new = λ hyp. record { flat = between_none b p; behind = between_none b q } }

  pub both : (b : ℕ) (a c : Aims) (p h p' q g q' : Seen) → Facts b a p h q g → Facts b c h p' g q' → Facts b (a ++ c) p p' q q'
  both b a c p h p' q g q' x y = record {
    all = all_both shapes a c x.all y.all;
    new = λ hyp.
        let m = x.new (λ j le has. hyp j le (has_left a c j has)) in
        let n = y.new (λ j le has. hyp j le (has_right a c j has)) in
        record { flat = between_on b p h p' m.flat n.flat; behind = between_on b q g q' m.behind n.behind };
  }

  pub referent : (b : ℕ) (a : Aims) (p q h q' : Seen) → Facts b a q h h q' → Facts b a p p q q'
  referent b a p q h q' x = record {
    all = x.all;
    new = λ hyp. let m = x.new hyp in record { flat = between_none b p; behind = between_on b q h q' m.flat m.behind };
  }

  -- items that follow item n are met in it, or as those that stand outside of it
  item_new : (b : ℕ) (p q h q' : Seen) (s : Form) (v : Val) → Item (far p) → slice_get shapes (far p) ≡ Some s → nth heap (far p) ≡ Some v → suc (far p) ≤ far q
      → Facts (suc (far p)) (aims types s v) q h h q' → Facts b ((far p, s) ∷ []) p (with_item p s) q q'
  item_new b p q h q' s v item shape value behind x = record {
    all = ((s, shape, refl), tt);
    new = λ hyp.
        let m = x.new (λ j le has. in_item (far p) s v le shape value has) in
        let back = between_on (suc (far p)) q h q' m.flat m.behind in
        record {
          flat = λ j le lt.
              let l : length (p.shapes ++ s ∷ []) ≡ length p.shapes + 1 = length-append p.shapes (s ∷ []) in
              let same : far p ≡ j = omega (arith, l, le, lt) in
              subst (Good b) same (record { item = item; met = λ low. hyp (far p) low (has_one (far p) s) });
          behind = λ j le lt. let g = back j le lt in record { item = g.item; met = λ low. g.met (omega (arith, behind, le)) };
        };
  }

  item_again : (b n : ℕ) (p q : Seen) (s : Form) → Is shapes n s → Facts b ((n, s) ∷ []) p p q q
  item_again b n p q s is = record { all = (is, tt); new = λ hyp. record { flat = between_none b p; behind = between_none b q } }

  module _ (call : Call) (heap_is : call.said.heap ≡ heap) (sound : list_all is_sound types ≡ true) (order : ordered types ≡ true) (items : (n : ℕ) (v : Val) → nth call.said.heap n ≡ Some v → Sized v) where
    mutual
      unfolding Sized

      pub met : {room : ℕ} {body : Vals} {link : Option Count} {s : Form} {v : Val} {p p' q q' : Seen} (b near : ℕ) → is_sound s ≡ true → is_below near (length types) s ≡ true → Sized v → room ≤ 256
          → Front p'.shapes q.shapes → Front q'.shapes shapes → Suits types call room body link s v p p' q q' → Facts b (aims types s v) p p' q q'
      met b near h l z r f e (suits_bool {p = p} {q = q}) = none b p q
      met b near h l z r f e (suits_byte {p = p} {q = q} x) = none b p q
      met b near h l z r f e (suits_char {p = p} {q = q} x) = none b p q
      met b near h l z r f e (suits_int {p = p} {q = q} x) = none b p q
      met b near h l z r f e (suits_uint {p = p} {q = q} x) = none b p q
      met b near h l z r f e (suits_enum {p = p} {q = q} x y) = none b p q
      met b near h l z r f e (suits_handle x) = absurd cc
      met b near h l z r f e (suits_text {p = p} {q = q} x) = none b p q
      met b near h l z r f e (suits_name {c = c} {switch = switch} {s = s} {v = v} {p = p} {p' = p'} {q = q} {q' = q'} is x) =
          let t = type_below 0 (length types) types c s order is in
          moved b (aims types s v) (aims types (OfNamed c switch) v) p p' q q' (sym (aims_named types v (OfNamed c switch) s (name_named types c switch s order is)))
          (met b t.0 (all_at is_sound types c s sound is) t.1 z r f e x)
      met b near h l z r f e (suits_struct {ss = ss} {vs = vs} {p = p} {p' = p'} {q = q} {q' = q'} x) =
          moved b (each_aims types ss vs) (aims types (OfStruct ss) (VStruct vs)) p p' q q' (ap (λ (y : Form). each_aims types (members y) vs) (sym (done_plain types (length types) (OfStruct ss) refl)))
          (met_each b near (and_parts (has_member ss) (each_sound ss) h).1 l z r f e x)
      met b near h l z r f e (suits_empty_arm {p = p} {q = q} x y is) = none b p q
      met b near h l z r f e (suits_arm {t = t} {s = s} {arms = arms} {tag = tag} {v = v} {p = p} {p' = p'} {q = q} {q' = q'} x y is w) =
          let hs = arm_has Sound s t arms tag is (arms_have arms (and_parts (is_tag t && is_sound t) (arms_sound arms) h).1) in
          let ls = arm_has (Ahead near (length types)) s t arms tag is (arms_ahead near (length types) arms (and_parts (is_below near (length types) t) (arms_below near (length types) arms) l).1) in
          moved b (aims types s v) (aims types (OfUnion t arms) (VUnion tag v)) p p' q q'
          (sym (ap (λ (y : Form). if is_held (arm_of y tag) then aims types (held (arm_of y tag)) v else []) (done_plain types (length types) (OfUnion t arms) refl)
          ∙ ap (λ (o : Option Body). if is_held o then aims types (held o) v else []) is))
          (met b near hs ls z.1 r f e w)
      met b near h l z r f e (suits_array {kind = kind} {s = s} {vs = vs} {p = p} {p' = p'} {q = q} {q' = q'} c x) =
          moved b (all_aims types s vs) (aims types (OfArray kind s) (VArray vs)) p p' q q' (ap (λ (y : Form). all_aims types (inner y) vs) (sym (done_plain types (length types) (OfArray kind s) refl)))
          (met_all b near (and_parts (has_element kind) (is_sound s) h).1 l z r f e x)
      met b near h l z r f e (suits_ref {room = room} {s = s} {v = v} {p = p} {q = q} {h = m} {q' = q'} x) =
          moved b (aims types s v) (aims types (OfRef s) v) p p q q' (sym (aims_ref types v s))
          (referent b (aims types s v) p q m q' (met {room = room} b (length types) h l z (omega (arith, r)) (front_same m.shapes) e x))
      met b near h l z r f e (suits_null {p = p} {q = q}) = none b p q
      met b near h l z r f e (suits_unique {room = room} {s = s} {v = v} {p = p} {q = q} {h = m} {q' = q'} x) =
          moved b (aims types s v) (aims types (OfUnique s) (VPtr v)) p p q q' (ap (λ (y : Form). aims types (inner y) v) (sym (done_plain types (length types) (OfUnique s) refl)))
          (referent b (aims types s v) p q m q' (met {room = room} b (length types) h l z (omega (arith, r)) (front_same m.shapes) e x))
      met b near h l z r f e (suits_null_full {p = p} {q = q}) = none b p q
      met b near h l z r f e (suits_new {room = room} {s = s} {v = v} {p = p} {q = q} {h = m} {q' = q'} is x) =
          let size = items (far p) v is in
          let g = shapes_grow types call x in
          let ends = front_on (p.shapes ++ s ∷ []) q.shapes shapes f (front_on q.shapes q'.shapes shapes (front_on q.shapes m.shapes q'.shapes g.0 g.1) e) in
          let shape = front_get (p.shapes ++ s ∷ []) shapes (far p) s ends (last_get p.shapes s) in
          let value : nth heap (far p) ≡ Some v = ap (λ (y : Vals). nth y (far p)) (sym heap_is) ∙ is in
          let inside = met {room = room} (suc (far p)) (length types) h l size (omega (arith, r)) (front_same m.shapes) e x in
          let typed = fine sound order items {room = room} (length types) 0 h l size (omega (arith, r)) x in
          let item : Item (far p) = record { shape = s; value = v; is_shape = shape; is_value = value; typed = typed.typed; free = typed.free; aim = inside.all } in
          let long = front_long (p.shapes ++ s ∷ []) q.shapes f in
          let one : length (p.shapes ++ s ∷ []) ≡ length p.shapes + 1 = length-append p.shapes (s ∷ []) in
          moved b ((far p, s) ∷ []) (aims types (OfFull s) (VFull (Some (far p)))) p (with_item p s) q q' (ap (λ (y : Form). (far p, inner y) ∷ []) (sym (done_plain types (length types) (OfFull s) refl)))
          (item_new b p q m q' s v item shape value (omega (arith, long, one)) inside)
      met b near h l z r f e (suits_repeat {n = n} {s = s} {t = t} {p = p} {q = q} is same) =
          moved b ((n, s) ∷ []) (aims types (OfFull s) (VFull (Some n))) p p q q (ap (λ (y : Form). (n, inner y) ∷ []) (sym (done_plain types (length types) (OfFull s) refl)))
          (item_again b n p q s (t, front_get p.shapes shapes n t (front_on p.shapes q.shapes shapes f e) is, same))

      met_each : {room : ℕ} {body : Vals} {ss : Forms} {vs : Vals} {p p' q q' : Seen} (b near : ℕ) → each_sound ss ≡ true → each_below near (length types) ss ≡ true → AllSized vs → room ≤ 256
          → Front p'.shapes q.shapes → Front q'.shapes shapes → SuitEach types call room body ss vs p p' q q' → Facts b (each_aims types ss vs) p p' q q'
      met_each b near h l z r f e (no_member {p = p} {q = q}) = none b p q
      met_each b near h l z r f e (then_member {s = s} {v = v} {ss = ss} {vs = vs} {p = p} {h = m} {p' = p'} {q = q} {g = g} {q' = q'} x xs) =
          let c = and_parts (is_sound s) (each_sound ss) h in
          let d = and_parts (is_below near (length types) s) (each_below near (length types) ss) l in
          let one = shapes_grow types call x in
          let more = each_grows types call xs in
          both b (aims types s v) (each_aims types ss vs) p m p' q g q'
          (met b near c.0 d.0 z.0 r (front_on m.shapes p'.shapes q.shapes more.0 f) (front_on g.shapes q'.shapes shapes more.1 e) x)
          (met_each b near c.1 d.1 z.1 r (front_on p'.shapes q.shapes g.shapes f one.1) e xs)

      met_all : {room : ℕ} {body : Vals} {s : Form} {vs : Vals} {p p' q q' : Seen} (b near : ℕ) → is_sound s ≡ true → is_below near (length types) s ≡ true → AllSized vs → room ≤ 256
          → Front p'.shapes q.shapes → Front q'.shapes shapes → SuitAll types call room body s vs p p' q q' → Facts b (all_aims types s vs) p p' q q'
      met_all b near h l z r f e (no_element {p = p} {q = q}) = none b p q
      met_all b near h l z r f e (then_element {s = s} {v = v} {vs = vs} {p = p} {h = m} {p' = p'} {q = q} {g = g} {q' = q'} x xs) =
          let one = shapes_grow types call x in
          let more = all_grows types call xs in
          both b (aims types s v) (all_aims types s vs) p m p' q g q'
          (met b near h l z.0 r (front_on m.shapes p'.shapes q.shapes more.0 f) (front_on g.shapes q'.shapes shapes more.1 e) x)
          (met_all b near h l z.1 r (front_on p'.shapes q.shapes g.shapes f one.1) e xs)
