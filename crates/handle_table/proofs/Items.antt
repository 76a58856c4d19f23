-- Lists of handles by rising serial are the same where the same is found in them.
use Rattle.std.proofs.Common.{◌≡◌, ℕ, ◌+◌, ◌≤◌, ◌<◌, Bool, true, false, ◌==◌, if◌then◌else◌, Option, Some, None, List, [], ◌∷◌, refl, sym, ◌∙◌, ap, subst, arith, inl, inr}
use Rattle.std.specs.List.{filter, find}
use Rattle.std.specs.Option.{option_or, option_map}
use Rattle.std.proofs.lemmas.List.Folds.{find-append}
use Rattle.std.proofs.lemmas.Bool.{cases_lt, eqb-true, eq-eqb, cases_Bool}
use Rattle.std.proofs.lemmas.Bool.Decides.{nat_tests, eqb_tells}
use Rattle.handle_model.specs.declared.entry.Home.{Home}
use Rattle.handle_model.specs.declared.entry.Slot.{Slot}
use Rattle.handle_model.specs.declared.entry.Slot.TheVariants.{Shares, Holds, Changes, Opens}
use Rattle.handle_model.specs.declared.entry.Outcome.{Outcome}
use Rattle.handle_model.specs.declared.entry.Outcome.TheVariants.{Keep, Close, Issue, Nothing}
use Rattle.handle_model.specs.declared.entry.DueItem.{DueItem}
use Rattle.handle_model.specs.Slots.{wire_of, kind_of, named, names}
use Rattle.handle_model.specs.Journal.{is_item_of}
use Rattle.handle_table.specs.Handles.{item_at, is_wire, is_below, is_above, is_other, with_item, without, with_cookie}
use Rattle.handle_table.specs.Uses.{item_named}
use Rattle.handle_table.specs.Kept.{Rises}
use Rattle.handle_table.specs.Ended.{kept, closed, after_outcome, ended}
use Rattle.handle_table.proofs.Wires.{wire_is, known}

-- WHAT IS FOUND

pub found_passes : {X : Type 0} (q : X → Bool) (xs : List X) (x : X) → find q xs ≡ Some x → q x ≡ true
found_passes q [] x e = absurd (cc)
found_passes q (y ∷ xs) x e =
    elim (cases_Bool (q y)) [
      | inl t ↦ let s : y ≡ x = let f = rw t at e in cc in subst (λ z. q z ≡ true) s t
      | inr f ↦ found_passes q xs x (rw f at e)
    ]

-- a filter that keeps what a test finds
pub find_kept : {X : Type 0} (p q : X → Bool) (xs : List X) → ((x : X) → q x ≡ true → p x ≡ true) → find q (filter p xs) ≡ find q xs
find_kept p q [] h = refl
find_kept p q (x ∷ xs) h =
    elim (cases_Bool (q x)) [
      | inl t ↦ let k = h x t in rw (k, t) refl
      | inr f ↦ elim (cases_Bool (p x)) [
        | inl k ↦ rw (k, f) (find_kept p q xs h)
        | inr k ↦ rw (k, f) (find_kept p q xs h)
      ]
    ]

-- and one that leaves it out
pub find_out : {X : Type 0} (p q : X → Bool) (xs : List X) → ((x : X) → q x ≡ true → p x ≡ false) → find q (filter p xs) ≡ None
find_out p q [] h = refl
find_out p q (x ∷ xs) h =
    elim (cases_Bool (q x)) [
      | inl t ↦ let k = h x t in rw k (find_out p q xs h)
      | inr f ↦ elim (cases_Bool (p x)) [
        | inl k ↦ rw (k, f) (find_out p q xs h)
        | inr k ↦ rw k (find_out p q xs h)
      ]
    ]

or_none : (o : Option DueItem) → option_or o None ≡ o
or_none None = refl
or_none (Some x) = refl

below_of : (g h : ℕ) (i : DueItem) → is_item_of h i ≡ true → h < g → is_below g i ≡ true
below_of g h i e lt = let s = eqb-true i.serial h e in grind (arith, nat_tests)

below_off : (g h : ℕ) (i : DueItem) → is_item_of h i ≡ true → g ≤ h → is_below g i ≡ false
below_off g h i e le = let s = eqb-true i.serial h e in grind (arith, nat_tests)

above_of : (g h : ℕ) (i : DueItem) → is_item_of h i ≡ true → g < h → is_above g i ≡ true
above_of g h i e lt = let s = eqb-true i.serial h e in grind (arith, nat_tests)

above_off : (g h : ℕ) (i : DueItem) → is_item_of h i ≡ true → h ≤ g → is_above g i ≡ false
above_off g h i e le = let s = eqb-true i.serial h e in grind (arith, nat_tests)

-- after an issue
pub item_with : (i : DueItem) (items : List DueItem) (h : ℕ) → item_at (with_item i items) h ≡ (if i.serial == h then Some i else item_at items h)
item_with i items h =
    let g = i.serial in
    let parts = find-append (is_item_of h) (filter (is_below g) items) (i ∷ filter (is_above g) items) in
    elim (eqb_tells i.serial h) [
      | inl e ↦
          let same = e.1 in
          let before = find_out (is_below g) (is_item_of h) items (λ x t. below_off g h x t (omega arith)) in
          parts ∙ rw (before, e.0) refl
      | inr e ↦ elim (cases_lt h i.serial) [
        | inl low ↦
            let before = find_kept (is_below g) (is_item_of h) items (λ x t. below_of g h x t low) in
            let after = find_out (is_above g) (is_item_of h) items (λ x t. above_off g h x t (omega arith)) in
            parts ∙ rw (before, e.0, after) (or_none (item_at items h))
        | inr high ↦
            let d = e.1 in
            let above : i.serial < h = grind (arith, d) in
            let before = find_out (is_below g) (is_item_of h) items (λ x t. below_off g h x t high) in
            let after = find_kept (is_above g) (is_item_of h) items (λ x t. above_of g h x t above) in
            parts ∙ rw (before, e.0, after) refl
      ]
    ]

-- after a close
pub item_without : (g : ℕ) (items : List DueItem) (h : ℕ) → item_at (without g items) h ≡ (if g == h then None else item_at items h)
item_without g items h =
    elim (eqb_tells g h) [
      | inl e ↦
          let same = e.1 in
          rw e.0 (find_out (is_other g) (is_item_of h) items (λ x t. let s = eqb-true x.serial h t in let q = eq-eqb x.serial g (s ∙ sym same) in rw q refl))
      | inr e ↦
          rw e.0 (find_kept (is_other g) (is_item_of h) items (λ x t. let s = eqb-true x.serial h t in elim (eqb_tells x.serial g) [ inl f ↦ absurd (e.1 (sym f.1 ∙ s)) | inr f ↦ rw f.0 refl ]))
    ]

-- after another cookie
abbrev pub recook : ℕ → DueItem → DueItem
recook c i = record { serial = i.serial; kind = i.kind; cookie = c }

pub item_cookie : (g c : ℕ) (items : List DueItem) (h : ℕ) → item_at (with_cookie g c items) h ≡ (if g == h then option_map (recook c) (item_at items h) else item_at items h)
item_cookie g c [] h = elim (cases_Bool (g == h)) [ inl e ↦ rw e refl | inr e ↦ rw e refl ]
item_cookie g c (i ∷ items) h =
    let rest = item_cookie g c items h in
    elim (eqb_tells g h) [
      | inl e ↦ elim (eqb_tells i.serial h) [
        | inl f ↦ let q = eq-eqb i.serial g (f.1 ∙ sym e.1) in rw (q, f.0, e.0) refl
        | inr f ↦
            let q : (i.serial == g) ≡ false = subst (λ n. (i.serial == n) ≡ false) (sym e.1) f.0 in
            rw (q, f.0, e.0) (rw e.0 at rest)
      ]
      | inr e ↦ elim (eqb_tells i.serial g) [
        | inl f ↦
            let q : (i.serial == h) ≡ false = subst (λ n. (n == h) ≡ false) (sym f.1) e.0 in
            rw (f.0, q, e.0) (rw e.0 at rest)
        | inr f ↦ elim (cases_Bool (i.serial == h)) [
          | inl k ↦ rw (f.0, k, e.0) refl
          | inr k ↦ rw (f.0, k, e.0) (rw e.0 at rest)
        ]
      ]
    ]

-- SLOTS

name_is : (home : Home) (h : ℕ) (s : Slot) → names (wire_of home h) s ≡ true → named s ≡ Some (wire_of home h)
name_is home h (Shares k w) n = ap (λ x. Some x) (wire_is w (wire_of home h) n)
name_is home h (Holds k w) n = ap (λ x. Some x) (wire_is w (wire_of home h) n)
name_is home h (Changes k w) n = ap (λ x. Some x) (wire_is w (wire_of home h) n)
name_is home h (Opens k g) n = absurd (cc)

-- a slot that names h finds what stands there
pub named_at : (home : Home) (items : List DueItem) (h : ℕ) (s : Slot) → names (wire_of home h) s ≡ true → item_named home items s ≡ item_at items h
named_at home items h s n = rw (name_is home h s n) (known home items h)

wire_names : (home : Home) (s : Slot) (x : DueItem) (items : List DueItem) → item_named home items s ≡ Some x → names (wire_of home x.serial) s ≡ true
wire_names home (Shares k w) x items e = found_passes (is_wire home w) items x e
wire_names home (Holds k w) x items e = found_passes (is_wire home w) items x e
wire_names home (Changes k w) x items e = found_passes (is_wire home w) items x e
wire_names home (Opens k g) x items e = absurd (cc)

-- what a slot finds is what it names
pub named_is : (home : Home) (items : List DueItem) (s : Slot) (x : DueItem) → item_named home items s ≡ Some x → names (wire_of home x.serial) s ≡ true
named_is home items s x e = wire_names home s x items e

-- RESULTS

-- what a result does to the handle h
abbrev pub effect : Home → ℕ → Slot → Outcome → Option DueItem → Option DueItem
effect home h s (Issue g c) x = if g == h then Some (record { serial = g; kind = kind_of s; cookie = c }) else x
effect home h s (Keep c) x = if names (wire_of home h) s then option_map (recook c) x else x
effect home h s Close x = if names (wire_of home h) s then None else x
effect home h s Nothing x = x

abbrev pub effects : Home → ℕ → List Slot → List Outcome → Option DueItem → Option DueItem
effects home h (s ∷ ss) (o ∷ os) x = effect home h s o (effects home h ss os x)
effects home h [] os x = x
effects home h (s ∷ ss) [] x = x

keep_item : (home : Home) (s : Slot) (c : ℕ) (items : List DueItem) (h : ℕ) (o : Option DueItem) → item_named home items s ≡ o → item_at (kept c o items) h ≡ (if names (wire_of home h) s then option_map (recook c) (item_at items h) else item_at items h)
keep_item home s c items h None e =
    elim (cases_Bool (names (wire_of home h) s)) [
      | inl n ↦ let none : item_at items h ≡ None = sym (named_at home items h s n) ∙ e in rw (n, none) refl
      | inr n ↦ rw n refl
    ]
keep_item home s c items h (Some x) e =
    elim (cases_Bool (names (wire_of home h) s)) [
      | inl n ↦
          let here : item_at items h ≡ Some x = sym (named_at home items h s n) ∙ e in
          let q = found_passes (is_item_of h) items x here in
          item_cookie x.serial c items h ∙ rw (n, q) refl
      | inr n ↦
          let at = named_is home items s x e in
          let q : (x.serial == h) ≡ false = elim (eqb_tells x.serial h) [ inl f ↦ absurd (let m = subst (λ g. names (wire_of home g) s ≡ true) f.1 at in cc) | inr f ↦ f.0 ] in
          item_cookie x.serial c items h ∙ rw (n, q) refl
    ]

close_item : (home : Home) (s : Slot) (items : List DueItem) (h : ℕ) (o : Option DueItem) → item_named home items s ≡ o → item_at (closed o items) h ≡ (if names (wire_of home h) s then None else item_at items h)
close_item home s items h None e =
    elim (cases_Bool (names (wire_of home h) s)) [
      | inl n ↦ let none : item_at items h ≡ None = sym (named_at home items h s n) ∙ e in rw (n, none) refl
      | inr n ↦ rw n refl
    ]
close_item home s items h (Some x) e =
    elim (cases_Bool (names (wire_of home h) s)) [
      | inl n ↦
          let here : item_at items h ≡ Some x = sym (named_at home items h s n) ∙ e in
          let q = found_passes (is_item_of h) items x here in
          item_without x.serial items h ∙ rw (n, q) refl
      | inr n ↦
          let at = named_is home items s x e in
          let q : (x.serial == h) ≡ false = elim (eqb_tells x.serial h) [ inl f ↦ absurd (let m = subst (λ g. names (wire_of home g) s ≡ true) f.1 at in cc) | inr f ↦ f.0 ] in
          item_without x.serial items h ∙ rw (n, q) refl
    ]

pub settled_item : (home : Home) (s : Slot) (o : Outcome) (items : List DueItem) (h : ℕ) → item_at (after_outcome home s o items) h ≡ effect home h s o (item_at items h)
settled_item home s (Issue g c) items h = item_with (record { serial = g; kind = kind_of s; cookie = c }) items h
settled_item home s (Keep c) items h = keep_item home s c items h (item_named home items s) refl
settled_item home s Close items h = close_item home s items h (item_named home items s) refl
settled_item home s Nothing items h = refl

pub ended_item : (home : Home) (ss : List Slot) (os : List Outcome) (items : List DueItem) (h : ℕ) → item_at (ended home ss os items) h ≡ effects home h ss os (item_at items h)
ended_item home [] os items h = refl
ended_item home (s ∷ ss) [] items h = refl
ended_item home (s ∷ ss) (o ∷ os) items h = settled_item home s o (ended home ss os items) h ∙ ap (effect home h s o) (ended_item home ss os items h)

-- THE SAME LIST

pub item_low : (low : ℕ) (items : List DueItem) (h : ℕ) → Rises low items → h < low → item_at items h ≡ None
item_low low [] h r lt = refl
item_low low (i ∷ items) h r lt =
    let first = r.0 in
    elim (eqb_tells i.serial h) [
      | inl e ↦ let same = e.1 in absurd (omega arith)
      | inr e ↦ rw e.0 (item_low (i.serial + 1) items h r.2 (omega arith))
    ]

some_is : (x y : DueItem) → Some x ≡ Some y → x ≡ y
some_is x y e = cc

head_found : (i : DueItem) (items : List DueItem) → item_at (i ∷ items) i.serial ≡ Some i
head_found i items = let q = eq-eqb i.serial i.serial refl in rw q refl

not_lower : (low : ℕ) (x y : DueItem) (xs ys : List DueItem) → Rises low (y ∷ ys) → ((h : ℕ) → item_at (x ∷ xs) h ≡ item_at (y ∷ ys) h) → y.serial ≤ x.serial
not_lower low x y xs ys r e =
    elim (cases_lt x.serial y.serial) [
      | inl lt ↦
          let none = item_low y.serial (y ∷ ys) x.serial (omega arith, r.1, r.2) lt in
          let some = sym (head_found x xs) ∙ e x.serial in absurd (cc)
      | inr le ↦ le
    ]

tail_found : (low : ℕ) (x : DueItem) (xs : List DueItem) (h : ℕ) → Rises low (x ∷ xs) → x.serial < h → item_at (x ∷ xs) h ≡ item_at xs h
tail_found low x xs h r lt = elim (eqb_tells x.serial h) [ inl e ↦ let same = e.1 in absurd (omega arith) | inr e ↦ rw e.0 refl ]

tails : (x : DueItem) (xs ys : List DueItem) → Rises (x.serial + 1) xs → Rises (x.serial + 1) ys → ((h : ℕ) → item_at (x ∷ xs) h ≡ item_at (x ∷ ys) h) → (h : ℕ) → item_at xs h ≡ item_at ys h
tails x xs ys r s e h =
    elim (cases_lt x.serial h) [
      | inl lt ↦ elim (eqb_tells x.serial h) [
        | inl q ↦ let same = q.1 in absurd (omega arith)
        | inr q ↦ rw q.0 at (e h)
      ]
      | inr le ↦ item_low (x.serial + 1) xs h r (omega arith) ∙ sym (item_low (x.serial + 1) ys h s (omega arith))
    ]

pub same_items : (low : ℕ) (xs ys : List DueItem) → Rises low xs → Rises low ys → ((h : ℕ) → item_at xs h ≡ item_at ys h) → xs ≡ ys
same_items low [] [] r s e = refl
same_items low [] (y ∷ ys) r s e = let f = e y.serial ∙ head_found y ys in absurd (cc)
same_items low (x ∷ xs) [] r s e = let f = sym (head_found x xs) ∙ e x.serial in absurd (cc)
same_items low (x ∷ xs) (y ∷ ys) r s e =
    let down = not_lower low x y xs ys s e in
    let up = not_lower low y x ys xs r (λ h. sym (e h)) in
    let serial : y.serial ≡ x.serial = omega arith in
    let q = eq-eqb y.serial x.serial serial in
    let there : item_at (y ∷ ys) x.serial ≡ Some y = rw q refl in
    let same : y ≡ x = some_is y x (sym there ∙ (sym (e x.serial) ∙ head_found x xs)) in
    let rest : Rises (x.serial + 1) ys = subst (λ n. Rises (n + 1) ys) serial s.2 in
    let all : (h : ℕ) → item_at (x ∷ xs) h ≡ item_at (x ∷ ys) h = λ h. e h ∙ ap (λ z. item_at (z ∷ ys) h) same in
    ap (λ zs. x ∷ zs) (same_items (x.serial + 1) xs ys r.2 rest (tails x xs ys r.2 rest all)) ∙ ap (λ z. z ∷ ys) (sym same)
