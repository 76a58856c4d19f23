-- What edits of rising handles leave.
use Rattle.std.proofs.Common.{◌≡◌, ℕ, suc, ◌+◌, ◌^◌, ◌≤◌, ◌<◌, Bool, true, false, ◌==◌, Some, None, List, [], ◌∷◌, ◌++◌, take, drop, set, get_or, map, add-one, refl, sym, ◌∙◌, ap, subst, arith, inl, inr}
use Rattle.std.specs.List.{filter, find, list_any, insert, remove}
use Rattle.std.proofs.lemmas.Grind.{common_steps}
use Rattle.std.proofs.lemmas.List.{take-append-drop, map-append, take-set, drop-set}
use Rattle.std.proofs.lemmas.List.Folds.{find-append, list_any-append}
use Rattle.std.proofs.lemmas.Bool.{cases_lt, ltb-true, eq-eqb, cases_Bool}
use Rattle.std.proofs.lemmas.Bool.Decides.{nat_tests}
use Rattle.handle_model.specs.declared.entry.Home.{Home}
use Rattle.handle_model.specs.declared.entry.Slot.{Slot}
use Rattle.handle_model.specs.declared.entry.Slot.TheVariants.{Shares, Holds, Changes, Opens}
use Rattle.handle_model.specs.declared.entry.DueItem.{DueItem}
use Rattle.handle_model.specs.Journal.{is_item_of}
use Rattle.handle_model.proofs.Rest.{rest_more}
use Rattle.handle_table.specs.Handles.{has, item_at, is_wire, is_below, is_above, is_other, with_item, without, cookie_set, with_cookie}
use Rattle.handle_table.specs.Uses.{item_named}
use Rattle.handle_table.specs.Kept.{Rises}

-- what is found under a test of another kind has its serial
pub found_has : (q : DueItem → Bool) (items : List DueItem) (x : DueItem) → find q items ≡ Some x → has items x.serial ≡ true
found_has q [] x e = absurd (cc)
found_has q (i ∷ items) x e = grind (arith, common_steps, nat_tests, found_has q items x)

pub none_below : (h low : ℕ) (items : List DueItem) → h ≤ low → Rises low items → filter (is_below h) items ≡ []
none_below h low [] le r = refl
none_below h low (i ∷ items) le r =
    let first = r.0 in
    let here : is_below h i ≡ false = grind (arith, nat_tests) in
    rw here (none_below h (i.serial + 1) items (omega arith) r.2)

-- ORDER

pub rises_more : (low more : ℕ) (items : List DueItem) → low ≤ more → Rises more items → Rises low items
rises_more low more [] le r = tt
rises_more low more (i ∷ items) le r = let first = r.0 in (omega arith, r.1, r.2)

rises_filter : (p : DueItem → Bool) (low : ℕ) (items : List DueItem) → Rises low items → Rises low (filter p items)
rises_filter p low [] r = tt
rises_filter p low (i ∷ items) r =
    let rest = rises_filter p (i.serial + 1) items r.2 in
    let first = r.0 in
    elim (cases_Bool (p i)) [
      | inl e ↦ rw e (r.0, r.1, rest)
      | inr e ↦ rw e (rises_more low (i.serial + 1) (filter p items) (omega arith) rest)
    ]

rises_above : (h low : ℕ) (items : List DueItem) → Rises low items → Rises (h + 1) (filter (is_above h) items)
rises_above h low [] r = tt
rises_above h low (i ∷ items) r =
    elim (cases_Bool (is_above h i)) [
      | inl e ↦ let above = ltb-true h i.serial e in rw e (omega arith, r.1, rises_filter (is_above h) (i.serial + 1) items r.2)
      | inr e ↦ rw e (rises_above h (i.serial + 1) items r.2)
    ]

pub rises_with : (x : DueItem) (low : ℕ) (items : List DueItem) → Rises low items → low ≤ x.serial → x.serial < 2 ^ 32 → Rises low (with_item x items)
rises_with x low [] r le small = (le, small, tt)
rises_with x low (i ∷ items) r le small =
    elim (cases_lt i.serial x.serial) [
      | inl below ↦
          let b : is_below x.serial i ≡ true = grind (arith, nat_tests) in
          let a : is_above x.serial i ≡ false = grind (arith, nat_tests) in
          rw (b, a) (r.0, r.1, rises_with x (i.serial + 1) items r.2 (omega arith) small)
      | inr over ↦
          let none : filter (is_below x.serial) (i ∷ items) ≡ [] = none_below x.serial i.serial (i ∷ items) over (omega arith, r.1, r.2) in
          rw none (le, small, rises_above x.serial low (i ∷ items) r)
    ]

pub rises_without : (h low : ℕ) (items : List DueItem) → Rises low items → Rises low (without h items)
rises_without h low items r = rises_filter (is_other h) low items r

same_serial : (h c : ℕ) (i : DueItem) → (cookie_set h c i).serial ≡ i.serial
same_serial h c i = elim (cases_Bool (i.serial == h)) [ inl e ↦ rw e refl | inr e ↦ rw e refl ]

pub rises_cookie : (h c low : ℕ) (items : List DueItem) → Rises low items → Rises low (with_cookie h c items)
rises_cookie h c low [] r = tt
rises_cookie h c low (i ∷ items) r =
    let e = same_serial h c i in
    let first = r.0 in
    let small = r.1 in
    (omega arith, omega arith, subst (λ n. Rises (n + 1) (with_cookie h c items)) (sym e) (rises_cookie h c (i.serial + 1) items r.2))

pub named_has : (home : Home) (items : List DueItem) (s : Slot) (x : DueItem) → item_named home items s ≡ Some x → has items x.serial ≡ true
named_has home items (Shares k w) x e = found_has (is_wire home w) items x e
named_has home items (Holds k w) x e = found_has (is_wire home w) items x e
named_has home items (Changes k w) x e = found_has (is_wire home w) items x e
named_has home items (Opens k g) x e = absurd (cc)

pub ruleset naming = (named_has, common_steps)
