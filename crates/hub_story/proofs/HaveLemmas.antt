-- What a pass has after a call.
use Rattle.std.proofs.Common.{◌≡◌, ℕ, zero, suc, ◌+◌, ◌-◌, ◌≤◌, ◌<◌, ◌⊎◌, Bool, true, false, List, [], ◌∷◌, ◌++◌, length, take, refl, sym, ◌∙◌, ap, subst, arith, inl, inr, ⊎_elim, length-append}
use Rattle.std.specs.List.{list_any}
use mathlib.Core.Option.{some, some-injective}
use lib.ListN.{get_elem?}
use Rattle.handle_model.specs.declared.entry.Entry.{Entry}
use Rattle.handle_model.specs.declared.entry.Entry.TheVariants.{Join, Leave, Shut}
use Rattle.handle_model.specs.declared.entry.DueItem.{DueItem}
use Rattle.handle_model.specs.Journal.{joins, leaves, is_shut, Legal}
use Rattle.turn_lock.specs.Histories.{times, places, Within}
use Rattle.turn_lock.proofs.HistoryLemmas.{times-append, times_either, place_at, at_place, at_append, at_within}
use Rattle.turn_lock.proofs.AddingLemmas.{at_behind}
use Rattle.hub_story.specs.declared.item.Mark.TheVariants.{Retired}
use Rattle.hub_story.specs.declared.item.Item.{Item}
use Rattle.hub_story.specs.declared.item.Item.TheVariants.{Listed, Of}
use Rattle.hub_story.specs.Histories.{past_in, journal_in}
use Rattle.hub_story.specs.Passes.{Seen, HasOwn, Serves, HasShut}
use Rattle.hub_story.specs.Calls.{Enters}
use Rattle.hub_story.proofs.ItemLemmas.{has_there, Found, found, at_whole}
use Rattle.hub_story.proofs.PlaceLemmas.{a_join, self_is, left_behind, one_place, shut_once}

module _ (boot s : ℕ) (v w : Seen) (between more : List Item) (e : Enters boot s v w between more) where
  abbrev base : ℕ
  base = length (v.log ++ between)

  behind : (k : ℕ) → get_elem? w.log (base + k) ≡ get_elem? more k
  behind k = ap (λ l. get_elem? l (base + k)) e.log ∙ at_behind (v.log ++ between) more k

  sizes : length w.log ≡ base + length more
  sizes = ap length e.log ∙ length-append (v.log ++ between) more

  -- what was own stays so
  pub own_stays : (a : Item) → HasOwn v a → HasOwn w a
  own_stays a h =
      let low = at_within v.log h.0 a h.2 in
      let n = length-append v.log between in (
        h.0,
        subst (λ (o : List ℕ). 0 < times h.0 o) (sym e.own) (let t = times-append h.0 v.own (places base (length more)) in let m = h.1 in omega arith),
        ap (λ l. get_elem? l h.0) e.log ∙ (at_append (v.log ++ between) more h.0 (omega arith) ∙ (at_append v.log between h.0 low ∙ h.2)),
      )

  -- what was entered is own
  pub own_entered : (k : ℕ) (a : Item) → get_elem? more k ≡ some a → HasOwn w a
  own_entered k a at =
      let low = at_within more k a at in (
        base + k,
        subst (λ (o : List ℕ). 0 < times (base + k) o) (sym e.own)
            (let t = times-append (base + k) v.own (places base (length more)) in let p = at_place (base + k) base (length more) (omega arith) (omega arith) in omega arith),
        behind k ∙ at,
      )

  -- what is own was so, or was entered
  pub own_was : Within v.own (length v.log) → (a : Item) → HasOwn w a → HasOwn v a ⊎ ((k : ℕ) × (get_elem? more k ≡ some a))
  own_was within a h = ⊎_elim
      (λ (old : 0 < times h.0 v.own).
      let low = within h.0 old in
      let n = length-append v.log between in
      inl (h.0, old, sym (at_append v.log between h.0 low) ∙ (sym (at_append (v.log ++ between) more h.0 (omega arith)) ∙ (sym (ap (λ l. get_elem? l h.0) e.log) ∙ h.2))))
      (λ (new : 0 < times h.0 (places base (length more))).
      let b = place_at h.0 base (length more) new in
      let k : ℕ = h.0 - base in
      let is : base + k ≡ h.0 = omega arith in
      inr (k, sym (behind k) ∙ (ap (get_elem? w.log) is ∙ h.2)))
      (times_either h.0 v.own (places base (length more)) (subst (λ (o : List ℕ). 0 < times h.0 o) e.own h.1))

  -- a connection whose Join is the one entry of its group that was entered
  pub serves_new : (g c : ℕ) → past_in g more ≡ Join c ∷ [] → Serves w g c
  serves_new g c is =
      let f = found g more (joins c) (ap (list_any (joins c)) is ∙ joined) in
      let at : get_elem? more f.place ≡ some (Of g (Join c)) = f.at ∙ ap (λ d. some (Of g d)) (a_join c f.entry f.passes) in
      record {
        joined = own_entered f.place (Of g (Join c)) at;
        stays = λ left.
            let after = left_behind boot g w.log (base + f.place) left.0 c (e.story.sound g).legal (behind f.place ∙ at) left.2 in
            let k : ℕ = left.0 - base in
            let whole : base + k ≡ left.0 = omega arith in
            let there : get_elem? more k ≡ some (Of g (Leave c)) = sym (behind k) ∙ (ap (get_elem? w.log) whole ∙ left.2) in
            let yes_it_is : list_any (leaves c) (past_in g more) ≡ true = has_there g more k (Leave c) (leaves c) there (self_is c) in
            let none : list_any (leaves c) (past_in g more) ≡ false = ap (list_any (leaves c)) is in
            absurd cc;
      }
    where
      joined : list_any (joins c) (Join c ∷ []) ≡ true
      joined = rw (self_is c) refl

  -- a group whose Shut was entered last
  pub shut_new : (g : ℕ) (items : List DueItem) (k : ℕ) → get_elem? more k ≡ some (Of g (Shut items)) → suc k ≡ length more → HasShut w g
  shut_new g items k at last = record {
    items = items;
    shut = own_entered k (Of g (Shut items)) at;
    stays = λ retired.
        let f = found g (take retired.0 w.log) is_shut (e.story.ended retired.0 g retired.2) in
        let there = at_whole w.log retired.0 f.place (Of g f.entry) f.at in
        let same : f.place ≡ base + k = one_place g w.log is_shut f.place (base + k) f.entry (Shut items) (shut_once boot g w.log (e.story.sound g).legal) there.1 f.passes (behind k ∙ at) refl in
        let low = at_within w.log retired.0 (Listed (Retired g)) retired.2 in
        let n = sizes in
        absurd (let before = there.0 in omega arith);
  }

  -- an entry that is own since then
  pub serves_stays : Within v.own (length v.log) → (g c : ℕ) → list_any (leaves c) (past_in g more) ≡ false → Serves v g c → Serves w g c
  serves_stays within g c none serves = record {
    joined = own_stays (Of g (Join c)) serves.joined;
    stays = λ left. ⊎_elim
        (λ old. serves.stays old)
        (λ new. let there : list_any (leaves c) (past_in g more) ≡ true = has_there g more new.0 (Leave c) (leaves c) new.1 (self_is c) in absurd cc)
        (own_was within (Of g (Leave c)) left);
  }

  -- an entry that was seen is seen
  pub seen_stays : (g : ℕ) (test : Entry → Bool) → list_any test (past_in g v.log) ≡ true → list_any test (past_in g w.log) ≡ true
  seen_stays g test there =
      let f = found g v.log test there in
      let low = at_within v.log f.place (Of g f.entry) f.at in
      let n = length-append v.log between in
      has_there g w.log f.place f.entry test
      (ap (λ l. get_elem? l f.place) e.log ∙ (at_append (v.log ++ between) more f.place (omega arith) ∙ (at_append v.log between f.place low ∙ f.at))) f.passes

  pub seen_entered : (g : ℕ) (test : Entry → Bool) (k : ℕ) (d : Entry) → get_elem? more k ≡ some (Of g d) → test d ≡ true → list_any test (past_in g w.log) ≡ true
  seen_entered g test k d at passes = has_there g w.log (base + k) d test (behind k ∙ at) passes
