-- What is looked up by number says what the lists of a base say.
use Rattle.std.proofs.Common.{◌≡◌, ℕ, ◌+◌, ◌<◌, ◌≤◌, ◌^◌, Bool, true, false, ◌&&◌, ◌||◌, not, ◌==◌, nat_le, nat_lt, Option, Some, None, is_some, List, [], ◌∷◌, ◌++◌, refl, sym, ◌∙◌, ap, subst, arith, inl, inr}
use Rattle.std.specs.List.{list_any, list_all, find}
use Rattle.std.specs.Option.{option_map}
use Rattle.std.proofs.lemmas.Grind.{common_steps}
use Rattle.std.proofs.lemmas.Bool.{cases_Bool, ltb-true, false_from_ne_true, eqb-true}
use Rattle.rpc_base.specs.declared.identifiers.WireHandle.{WireHandle}
use Rattle.handle_model.specs.declared.entry.Home.{Home}
use Rattle.handle_model.specs.declared.entry.Slot.{Slot}
use Rattle.handle_model.specs.declared.entry.Slot.TheVariants.{Shares, Holds, Changes, Opens}
use Rattle.handle_model.specs.declared.entry.DueItem.{DueItem}
use Rattle.handle_model.specs.declared.base.BaseCall.{BaseCall}
use Rattle.handle_model.specs.Slots.{wire_of, same_wire, named, is_exclusive}
use Rattle.handle_model.specs.Bases.{serials_of, is_named_by}
use Rattle.handle_model.specs.Entries.{is_item_of}
use Rattle.handle_model.specs.Sound.{rise_above, at_most, is_item_for}
use Rattle.handle_model.proofs.Held.{and_left, and_right}
use Rattle.handle_table.specs.Handles.{item_at, item_of, is_wire, found, looked}
use Rattle.handle_table.specs.Kept.{Rises}
use Rattle.handle_table.proofs.Items.{found_passes}
use Rattle.handle_table.proofs.Wires.{wire_is, known, same_serial_wire}
use Rattle.journal_audit.specs.Numbered.{uses_at, holds_at, serial_named, has_kind, is_kind_at, known_by, is_serial, uses_by, holds_by}

-- SERIALS THAT RISE FROM 1

pub rises : (n top : ℕ) (items : List DueItem) → rise_above n (serials_of items) ≡ true → at_most top (serials_of items) ≡ true → top < 2 ^ 32 → Rises (n + 1) items
rises n top [] r a small = tt
rises n top (i ∷ items) r a small =
    let up = ltb-true n i.serial (and_left (nat_lt n i.serial) (rise_above i.serial (serials_of items)) r) in
    let high : i.serial ≤ top = (let h = and_left (nat_le i.serial top) (at_most top (serials_of items)) a in grind (arith, common_steps)) in
    (omega arith, omega arith, rises i.serial top items (and_right (nat_lt n i.serial) (rise_above i.serial (serials_of items)) r) (and_right (nat_le i.serial top) (at_most top (serials_of items)) a) small)

found_low : (home : Home) (low : ℕ) (items : List DueItem) (w : WireHandle) (i : DueItem) → Rises low items → item_of home items w ≡ Some i → low ≤ i.serial
found_low home low [] w i r e = absurd (cc)
found_low home low (j ∷ items) w i r e =
    elim (cases_Bool (is_wire home w j)) [
      | inl t ↦ let s : j ≡ i = let f = rw t at e in cc in let first = r.0 in subst (λ (x : DueItem). low ≤ x.serial) s first
      | inr f ↦ let first = r.0 in let more = found_low home (j.serial + 1) items w i r.2 (rw f at e) in omega arith
    ]

-- THE HANDLE THAT A SLOT NAMES

-- what is found by a wire handle
pub record Found (home : Home) (items : List DueItem) (w : WireHandle) (i : DueItem) : Type 0 where
  pub wire : w ≡ wire_of home i.serial
  pub counted : 0 < i.serial
  pub at : item_at items i.serial ≡ Some i

pub found_is : (home : Home) (items : List DueItem) (w : WireHandle) (i : DueItem) → Rises 1 items → item_of home items w ≡ Some i → Found home items w i
found_is home items w i r e =
    let same = wire_is w (wire_of home i.serial) (found_passes (is_wire home w) items i e) in
    let low = found_low home 1 items w i r e in
    record {
      wire = same;
      counted = omega arith;
      at = sym (known home items i.serial) ∙ (ap (item_of home items) (sym same) ∙ e);
    }

-- none of a greater serial is known so
not_among : (home : Home) (low h k : ℕ) (items : List DueItem) → Rises low items → h < low → list_any (λ (j : DueItem). same_wire (wire_of home h) (wire_of home j.serial) && (j.kind == k)) items ≡ false
not_among home low h k [] r lt = refl
not_among home low h k (j ∷ items) r lt =
    let first = r.0 in
    let other : (j.serial == h) ≡ false = false_from_ne_true (j.serial == h) (λ t. let same = eqb-true j.serial h t in absurd (omega arith)) in
    rw (same_serial_wire home h j.serial, other) (not_among home (j.serial + 1) h k items r.2 (omega arith))

or_none : (b : Bool) → (b || false) ≡ b
or_none true = refl
or_none false = refl

kind_any : (home : Home) (low : ℕ) (items : List DueItem) (w : WireHandle) (i : DueItem) (k : ℕ) → Rises low items → item_of home items w ≡ Some i → list_any (λ (j : DueItem). same_wire w (wire_of home j.serial) && (j.kind == k)) items ≡ (i.kind == k)
kind_any home low [] w i k r e = absurd (cc)
kind_any home low (j ∷ items) w i k r e =
    elim (cases_Bool (is_wire home w j)) [
      | inl t ↦
          let s : j ≡ i = let f = rw t at e in cc in
          let same = wire_is w (wire_of home j.serial) t in
          let none : list_any (λ (x : DueItem). same_wire w (wire_of home x.serial) && (x.kind == k)) items ≡ false = subst (λ v. list_any (λ (x : DueItem). same_wire v (wire_of home x.serial) && (x.kind == k)) items ≡ false) (sym same) (not_among home (j.serial + 1) j.serial k items r.2 (omega arith)) in
          let here : (j.kind == k) ≡ (i.kind == k) = ap (λ (x : DueItem). x.kind == k) s in
          rw (t, none) (or_none (j.kind == k) ∙ here)
      | inr f ↦ rw f (kind_any home (j.serial + 1) items w i k r.2 (rw f at e))
    ]

kind_none : (home : Home) (items : List DueItem) (w : WireHandle) (k : ℕ) → item_of home items w ≡ None → list_any (λ (j : DueItem). same_wire w (wire_of home j.serial) && (j.kind == k)) items ≡ false
kind_none home [] w k e = refl
kind_none home (j ∷ items) w k e =
    elim (cases_Bool (is_wire home w j)) [
      | inl t ↦ absurd (let f = rw t at e in cc)
      | inr f ↦ rw f (kind_none home items w k (rw f at e))
    ]

kind_found : (home : Home) (items : List DueItem) (w : WireHandle) (k : ℕ) (o : Option DueItem) → Rises 1 items → item_of home items w ≡ o → is_kind_at items k (option_map (λ (i : DueItem). i.serial) o) ≡ list_any (λ (j : DueItem). same_wire w (wire_of home j.serial) && (j.kind == k)) items
kind_found home items w k None r e = sym (kind_none home items w k e)
kind_found home items w k (Some i) r e = rw (found_is home items w i r e).at (sym (kind_any home 1 items w i k r e))

pub known_shown : (home : Home) (items : List DueItem) (s : Slot) → Rises 1 items → known_by home items s ≡ (not (is_some (named s)) || list_any (is_item_for home s) items)
known_shown home items (Shares k w) r = kind_found home items w k (item_of home items w) r refl
known_shown home items (Holds k w) r = kind_found home items w k (item_of home items w) r refl
known_shown home items (Changes k w) r = kind_found home items w k (item_of home items w) r refl
known_shown home items (Opens k n) r = refl

-- WHICH SERIAL IT USES

turned : (x y : ℕ) → (x == y) ≡ (y == x)
turned x y = elim (cases_Bool (x == y)) [
  | inl t ↦ let same = eqb-true x y t in rw same refl
  | inr f ↦ f ∙ sym (false_from_ne_true (y == x) (λ t. let same = eqb-true y x t in absurd (let g = rw same at f in grind (arith, common_steps))))
]

used_found : (home : Home) (items : List DueItem) (w : WireHandle) (h k : ℕ) (o : Option DueItem) → Rises 1 items → item_of home items w ≡ o → is_kind_at items k (option_map (λ (i : DueItem). i.serial) o) ≡ true → is_serial h (option_map (λ (i : DueItem). i.serial) o) ≡ same_wire w (wire_of home h)
used_found home items w h k None r e t = absurd (cc)
used_found home items w h k (Some i) r e t =
    let f = found_is home items w i r e in
    turned i.serial h ∙ (sym (same_serial_wire home i.serial h) ∙ ap (λ v. same_wire v (wire_of home h)) (sym f.wire))

pub uses_shown : (home : Home) (items : List DueItem) (h : ℕ) (s : Slot) → Rises 1 items → known_by home items s ≡ true → uses_by home items h s ≡ uses_at home h s
uses_shown home items h (Shares k w) r t = used_found home items w h k (item_of home items w) r refl t
uses_shown home items h (Holds k w) r t = used_found home items w h k (item_of home items w) r refl t
uses_shown home items h (Changes k w) r t = used_found home items w h k (item_of home items w) r refl t
uses_shown home items h (Opens k n) r t = refl

pub holds_shown : (home : Home) (items : List DueItem) (h : ℕ) (s : Slot) → Rises 1 items → known_by home items s ≡ true → holds_by home items h s ≡ holds_at home h s
holds_shown home items h s r t = ap (λ b. b && is_exclusive s) (uses_shown home items h s r t)

-- WHAT A SERIAL FINDS

some_map : (o : Option DueItem) → is_some {T = ℕ × ℕ} (option_map (λ (i : DueItem). (i.kind, i.cookie)) o) ≡ is_some o
some_map None = refl
some_map (Some i) = refl

any_found : (p : DueItem → Bool) (items : List DueItem) → is_some (find p items) ≡ list_any p items
any_found p [] = refl
any_found p (i ∷ items) = elim (cases_Bool (p i)) [ inl t ↦ rw t refl | inr f ↦ rw f (any_found p items) ]

pub looked_shown : (items : List DueItem) (h : ℕ) → is_some (looked items h) ≡ list_any (is_item_of h) items
looked_shown items h = some_map (item_at items h) ∙ any_found (is_item_of h) items
