-- What passes have seen and entered.
use Rattle.std.proofs.Common.{◌≡◌, ℕ, ◌+◌, ◌<◌, ◌≤◌, Bool, List, [], ◌∷◌, ◌++◌, length, map, sym, ap, ◌∙◌, subst, inl, inr, ⊎_elim, arith, length-append}
use Rattle.std.proofs.lemmas.List.{map-append, length-map}
use mathlib.Core.Logic.{dite}
use native.Mathlib.Decide.{dec_lt, dec_le}
use Rattle.atomic_table.specs.Seated.{TableId}
use Rattle.turn_lock.specs.declared.views.View.{View}
use Rattle.turn_lock.specs.Histories.{times, places, StartsWith, Within, AtMostOnce}
use Rattle.turn_lock.specs.Passes.{front, own, IsPassOf}
use Rattle.turn_lock.specs.Steps.{MayAdd, Adds}
use Rattle.turn_lock.proofs.HistoryLemmas.{times-append, times_either, times-places-below, once_below-places, once_most, place_at, starts_both}
use Rattle.turn_lock.proofs.AddingLemmas.{may_add_one}
use Rattle.handle_model.specs.declared.entry.DueItem.{DueItem}
use Rattle.manager_api.specs.Answers.{Ans}
use Rattle.manager_api.specs.Calls.{Call}
use Rattle.desk_told.specs.declared.deed.Deed.{Deed}
use Rattle.desk_told.specs.declared.state.DeskState.{DeskState}
use Rattle.desk_told.specs.Deeds.{DeedForm, form, By}
use Rattle.desk_told.specs.Histories.{IsHistory, Tells}
use Rattle.desk_told.specs.Laws.{Compare}
use Rattle.desk_told.specs.Passes.{PassForm, history, IsOf, Enters}
use Rattle.desk_told.proofs.DeedLemmas.{one_item, same_last, history_snoc, same_first, tells_more}

-- OWN PLACES

within_more : (mine : List ℕ) (n m k : ℕ) → Within mine n → n ≤ m → Within (mine ++ places m k) (m + k)
within_more mine n m k w low p h = ⊎_elim (λ (a : 0 < times p mine). let l = w p a in omega arith) (λ (b : 0 < times p (places m k)). let l = place_at p m k b in let x = l.1 in x) (times_either p mine (places m k) h)

once_more : (mine : List ℕ) (n m k : ℕ) → Within mine n → n ≤ m → AtMostOnce mine → AtMostOnce (mine ++ places m k)
once_more mine n m k w low once p =
    let both = times-append p mine (places m k) in
    let old = once p in
    dite (dec_lt p m)
    (λ l. let none = times-places-below p m k l in omega arith)
    (λ h. let one = once_below-places p m k in let most = once_most p (m + k) in
    dite (dec_lt 0 (times p mine)) (λ t. absurd (let l = w p t in omega arith)) (λ z. omega arith))

-- BEGINNINGS

pub seen_more : {S : Type 0} (p q : PassForm S) → StartsWith (front q) (front p) → StartsWith (history q) (history p)
seen_more p q s = (map form s.0, ap (map form) s.1 ∙ map-append form (front p) s.0)

pub compares : {S : Type 0} (whole one other : List (DeedForm S)) → StartsWith whole one → StartsWith whole other → Compare one other
compares whole one other a b = dite (dec_le (length one) (length other)) (λ le. inr (starts_both whole one other a b le)) (λ gt. inl (starts_both whole other one b a (omega arith)))

module _ {S : Type 0} (may : S → Call → Bool → Ans → S → Type 0) (downs : S → DueItem → S → Type 0) where
  abbrev pub Told : DeskState S → List (Deed S) → Type 0
  Told x items = Tells may downs x.desk (form x.last.value) (map form items)

  abbrev pub none : List (Deed S) → Deed S → ℕ → Type 0
  none before deed place = ⊥

  -- A TURN

  -- it may enter the deed that it did last
  pub may_enter : (f : View (Deed S)) (x y : DeskState S) → Told x f.front → By may downs (form y.last.value) x.desk y.desk → MayAdd Told none f y 1
  may_enter f x y told did = may_add_one Told none f y y.last.value (tells_more may downs x.desk y.desk (form x.last.value) f.front y.last.value told did) (λ p t. absurd t)

  -- what it entered is that deed
  pub enters : (first now : S) (p q : PassForm S) (f u : View (Deed S)) (x y : DeskState S) (d : DeedForm S) → IsHistory may downs first (history p) now
      → StartsWith f.front (front p) → f.own ≡ own p → Told x f.front → form y.last.value ≡ d → By may downs (form y.last.value) x.desk y.desk
      → front q ≡ u.front → own q ≡ u.own → Adds Told none f y 1 u → Enters may downs first p d q
  enters first now p q f u x y d is starts mine told last did front_is own_is a =
      let between : List (DeedForm S) = map form starts.0 in
      let seen : map form f.front ≡ history p ++ between = ap (map form) starts.1 ∙ map-append form (front p) starts.0 in
      let one = one_item a.0 a.1 in
      let added : map form a.0 ≡ form one.0 ∷ [] = ap (map form) one.1 in
      let all : map form (f.front ++ a.0) ≡ map form f.front ++ form one.0 ∷ [] = map-append form f.front a.0 ∙ ap (λ l. map form f.front ++ l) added in
      let same : form one.0 ≡ d = same_last (map form f.front) a.2.before (form one.0) (form y.last.value) (sym all ∙ a.2.ends) ∙ last in
      let whole : history q ≡ map form (f.front ++ a.0) = ap (map form) (front_is ∙ ap (λ (v : View (Deed S)). v.front) a.3) in
      let count : length f.front ≡ length (history p ++ between) = sym (length-map f.front form) ∙ ap length seen in
      record {
        between = between;
        before = x.desk;
        after = y.desk;
        led = same_first may downs first told.first now x.desk (history p) between is (subst (λ l. IsHistory may downs told.first l x.desk) seen told.is);
        does = subst (λ (e : DeedForm S). By may downs e x.desk y.desk) last did;
        history_is = whole ∙ (all ∙ (λ k. seen k ++ same k ∷ []));
        own_is = own_is ∙ (ap (λ (v : View (Deed S)). v.own) a.3 ∙ (λ k. mine k ++ count k ∷ []));
      }

  -- PASSES

  -- one that entered a deed
  pub of_entered : (lock held gave : TableId) (first : S) (p q : PassForm S) (d : DeedForm S) → IsOf may downs lock first p → IsPassOf gave q → gave ≡ held → held ≡ lock → Enters may downs first p d q
      → IsOf may downs lock first q
  of_entered lock held gave first p q d o s kept got e =
      let low : length (history p) ≤ length (history p ++ e.between) = let m = length-append (history p) e.between in omega arith in
      let more : length (history q) ≡ length (history p ++ e.between) + 1 = ap length e.history_is ∙ length-append (history p ++ e.between) (d ∷ []) in
      record {
        seat = (s.0 ∙ (kept ∙ got), s.1, s.2);
        now = e.after;
        is = subst (λ l. IsHistory may downs first l e.after) (sym e.history_is) (history_snoc may downs first e.before e.after (history p ++ e.between) d e.led e.does);
        within = subst (λ (z : List ℕ × ℕ). Within z.0 z.1) (λ k. (sym e.own_is k, sym more k)) (within_more (own p) (length (history p)) (length (history p ++ e.between)) 1 o.within low);
        once = subst AtMostOnce (sym e.own_is) (once_more (own p) (length (history p)) (length (history p ++ e.between)) 1 o.within low o.once);
      }

  -- one that took in another
  pub of_joined : (lock : TableId) (first : S) (p q : PassForm S) (x : DeskState S) → IsOf may downs lock first p → IsPassOf lock q → StartsWith (front q) (front p) → Told x (front q)
      → Within (own q) (length (front q)) → AtMostOnce (own q) → IsOf may downs lock first q
  of_joined lock first p q x o s starts told within once =
      let seen = seen_more p q starts in
      let later : IsHistory may downs told.first (history p ++ seen.0) x.desk = subst (λ l. IsHistory may downs told.first l x.desk) seen.1 told.is in
      record {
        seat = s;
        now = x.desk;
        is = subst (λ l. IsHistory may downs first l x.desk) (sym seen.1) (same_first may downs first told.first o.now x.desk (history p) seen.0 o.is later);
        within = subst (λ (n : ℕ). Within (own q) n) (sym (length-map (front q) form)) within;
        once = once;
      }
