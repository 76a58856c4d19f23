-- The live handles of a base.
use Rattle.std.proofs.Common.{◌≡◌, ℕ, ◌+◌, ◌≤◌, ◌<◌, ◌^◌, Bool, true, false, ◌&&◌, not, ◌==◌, nat_le, nat_lt, Option, Some, None, List, [], ◌∷◌, refl, sym, ◌∙◌, ap, arith, inl, inr}
use Rattle.std.specs.List.{list_any, find}
use Rattle.std.specs.Option.{option_map}
use Rattle.std.proofs.lemmas.Grind.{common_steps}
use Rattle.std.proofs.lemmas.Bool.{cases_Bool, eqb-true, ltb-true}
use Rattle.handle_model.specs.declared.entry.Home.{Home}
use Rattle.handle_model.specs.declared.entry.DueItem.{DueItem}
use Rattle.handle_model.specs.declared.base.Base.{Base}
use Rattle.handle_model.specs.Bases.{serials_of}
use Rattle.handle_model.specs.Sound.{rise_above, at_most, IsSoundBase}
use Rattle.handle_model.specs.History.{History, since}
use Rattle.handle_model.specs.Journal.{is_item_of, is_issued, is_live, kind, cookie, due_item, due_items}
use Rattle.handle_model.proofs.Tests.{and_left, and_right}
use Rattle.handle_table.specs.Handles.{item_at}
use Rattle.handle_table.specs.Kept.{Rises}
use Rattle.handle_table.proofs.Items.{same_items, found_passes}
use Rattle.handle_table.proofs.Live.{live_item, due_item_at, due_rises}

-- ORDER

items_above : (n top : ℕ) (items : List DueItem) → rise_above n (serials_of items) ≡ true → at_most top (serials_of items) ≡ true → top < 2 ^ 32 → Rises (n + 1) items
items_above n top [] r a small = tt
items_above n top (i ∷ items) r a small =
    let up = ltb-true n i.serial (and_left (nat_lt n i.serial) (rise_above i.serial (serials_of items)) r) in
    let high : i.serial ≤ top = (let h = and_left (nat_le i.serial top) (at_most top (serials_of items)) a in grind (arith, common_steps)) in
    (omega arith, omega arith, items_above i.serial top items (and_right (nat_lt n i.serial) (rise_above i.serial (serials_of items)) r) (and_right (nat_le i.serial top) (at_most top (serials_of items)) a) small)

lower : (items : List DueItem) → Rises 1 items → Rises 0 items
lower [] r = tt
lower (i ∷ items) r = let first = r.0 in (omega arith, r.1, r.2)

pub items_rise : (top : ℕ) (items : List DueItem) → rise_above 0 (serials_of items) ≡ true → at_most top (serials_of items) ≡ true → top < 2 ^ 32 → Rises 0 items
items_rise top items r a small = lower items (items_above 0 top items r a small)

-- WHAT IS FOUND

none_any : (q : DueItem → Bool) (items : List DueItem) → find q items ≡ None → list_any q items ≡ false
none_any q [] e = refl
none_any q (i ∷ items) e =
    elim (cases_Bool (q i)) [
      | inl t ↦ absurd (let f = rw t at e in cc)
      | inr f ↦ rw f (none_any q items (rw f at e))
    ]

some_any : (q : DueItem → Bool) (items : List DueItem) (x : DueItem) → find q items ≡ Some x → list_any q items ≡ true
some_any q [] x e = absurd (cc)
some_any q (i ∷ items) x e =
    elim (cases_Bool (q i)) [
      | inl t ↦ rw t refl
      | inr f ↦ rw f (some_any q items x (rw f at e))
    ]

base_item : (home : Home) (base : Base) (h : ℕ) (o : Option DueItem) → item_at base.handles h ≡ o → live_item (since home base []) h ≡ o
base_item home base h None e =
    let gone : is_live (since home base []) h ≡ false = (let f = none_any (is_item_of h) base.handles e in rw f refl) in rw gone refl
base_item home base h (Some x) e =
    let j : History = since home base [] in
    let f = some_any (is_item_of h) base.handles x e in
    let live : is_live j h ≡ true = rw f refl in
    let its_kind : kind j h ≡ Some x.kind = ap (option_map (λ (i : DueItem). i.kind)) e in
    let its_cookie : cookie j h ≡ Some x.cookie = ap (option_map (λ (i : DueItem). i.cookie)) e in
    let serial : x.serial ≡ h = eqb-true x.serial h (found_passes (is_item_of h) base.handles x e) in
    let same : due_item j h ≡ record { serial = h; kind = x.kind; cookie = x.cookie } = rw (its_kind, its_cookie) refl in
    rw live (ap (λ i. Some i) (same ∙ ap (λ n. record { serial = n; kind = x.kind; cookie = x.cookie }) (sym serial)))

-- the live handles of a base are its handles
pub base_shown : (home : Home) (base : Base) → IsSoundBase home base → due_items (since home base []) ≡ base.handles
base_shown home base s =
    same_items 0 (due_items (since home base [])) base.handles (due_rises (since home base []) s) (items_rise base.opens base.handles s.serials_rise s.serials_within s.opens_small) (λ h.
    due_item_at (since home base []) h s ∙ base_item home base h (item_at base.handles h) refl)
