-- What one turn enters.
use Rattle.std.proofs.Common.{◌≡◌, ℕ, ◌+◌, ◌-◌, ◌≤◌, ◌<◌, Bool, true, false, List, [], ◌∷◌, ◌++◌, length, take, refl, sym, ◌∙◌, ap, subst, arith, inl, inr, ⊎_elim, append_assoc, length-append}
use Rattle.std.proofs.lemmas.Bool.{cases_Bool}
use Rattle.std.proofs.lemmas.List.{append_cancel_right, append-nil, take-append-le}
use mathlib.Core.Logic.{dite}
use native.Mathlib.Decide.{dec_lt}
use Rattle.turn_lock.specs.declared.views.View.{View}
use Rattle.turn_lock.specs.Histories.{times, once_below, places, StartsWith, Closed, Within, AtMostOnce}
use Rattle.turn_lock.specs.Steps.{MayAdd, Adds}
use Rattle.turn_lock.proofs.HistoryLemmas.{times-append, times_either, times-places-below, once_below-places, once_most, place_at}
use Rattle.turn_lock.proofs.AddingLemmas.{may_add}
use Rattle.handle_model.specs.declared.entry.Home.{Home}
use Rattle.handle_model.specs.declared.entry.Entry.{Entry}
use Rattle.handle_model.specs.Journal.{Legal}
use Rattle.handle_model.specs.Bases.{empty_base}
use Rattle.handle_model.specs.History.{History, since, size}
use Rattle.handle_model.specs.Further.{with_entries}
use Rattle.journal_tables.specs.Folding.{BaseBegun}
use Rattle.hub_story.specs.declared.item.Item.{Item}
use Rattle.hub_story.specs.declared.item.Item.TheVariants.{Begun}
use Rattle.hub_story.specs.Directories.{is_opened_id, id_of, index_of}
use Rattle.hub_story.specs.Histories.{marks_in, past_in, journal_in, home_of, Begins, IsStory}
use Rattle.hub_story.specs.Folded.{kept_since, kept}
use Rattle.hub_story.specs.Ties.{ties}
use Rattle.hub_story.specs.Passes.{Seen, halved}
use Rattle.hub_story.specs.Calls.{Met, TiesOwn, Apart, Enters}
use Rattle.hub_story.proofs.ItemLemmas.{past-append, marks-append}
use Rattle.journal_tables.specs.FoldOf.{IsFoldOf, StandsFor}
use Rattle.journal_tables.proofs.Alike.{folds_stand}
use Rattle.hub_story.proofs.FoldLemmas.{kept_folds}
use Rattle.hub_story.proofs.ApartLemmas.{others_apart}
use Rattle.hub_story.proofs.StillLemmas.{still_has}
use Rattle.hub_shard.specs.Shards.{ShardView, group_of, Told, Acted}
use Rattle.hub_shard.proofs.TellLemmas.{opened_keeps}
use Rattle.atomic_table.specs.Seated.{TableId}
use Rattle.group_hub.specs.ShardPasses.{IsOf, Merges}
use Rattle.group_hub.specs.Turns.{IsSame, Ran}

-- WHOSE IT IS

pub begins_more : (boot s : ℕ) (log front : List Item) → StartsWith log front → Begins boot s front → Begins boot s log
begins_more boot s log front t b = (b.0 ++ t.0, t.1 ∙ ap (λ l. l ++ t.0) b.1)

boot_in : Item → ℕ
boot_in (Begun boot s) = boot
boot_in _ = 0

shard_in : Item → ℕ
shard_in (Begun boot s) = s
shard_in _ = 0

first_in : List Item → Item
first_in [] = Begun 0 0
first_in (a ∷ log) = a

pub same_boot : (boot s : ℕ) (x : ShardView) (log : List Item) → Begins boot s log → Told x log → x.boot ≡ boot
unfolding boot_in first_in
same_boot boot s x log b t = ap (λ l. boot_in (first_in l)) (sym t.story.begins.1 ∙ b.1)

pub same_number : (boot s : ℕ) (x : ShardView) (log : List Item) → Begins boot s log → Told x log → x.number ≡ s
unfolding shard_in first_in
same_number boot s x log b t = ap (λ l. shard_in (first_in l)) (sym t.story.begins.1 ∙ b.1)

-- what a shard tells is the history of the shard with which it begins
pub story_told : (boot s : ℕ) (x : ShardView) (log : List Item) → Begins boot s log → Told x log → IsStory boot s log
story_told boot s x log b t = subst (λ (k : ℕ). IsStory k s log) (same_boot boot s x log b t) (subst (λ (k : ℕ). IsStory x.boot k log) (same_number boot s x log b t) t.story)

-- the shard and its history where a pass gets the turn
pub record Entered (boot s : ℕ) (v : Seen) (log : List Item) (x : ShardView) : Type 0 where
  pub met : Met boot s v log
  pub told : Told x log
  pub boot_is : x.boot ≡ boot
  pub number_is : x.number ≡ s

pub entered : (boot s : ℕ) (v : Seen) (log : List Item) (x : ShardView) → Begins boot s v.log → StartsWith log v.log → Within v.own (length v.log) → Closed ties log v.own → AtMostOnce v.own → Told x log → Entered boot s v log x
entered boot s v log x b starts within closed once told =
    let begins = begins_more boot s log v.log starts b in
    let boot_is = same_boot boot s x log begins told in
    let number_is = same_number boot s x log begins told in
    record {
      met = record {
        starts = starts;
        within = within;
        once = once;
        closed = closed;
        story = story_told boot s x log begins told;
      };
      told = told;
      boot_is = boot_is;
      number_is = number_is;
    }

-- WHAT WAS ADDED

take_left : {A : Type 0} (xs ys : List A) → take (length xs) (xs ++ ys) ≡ xs
take_left [] ys = refl
take_left (x ∷ xs) ys = ap (λ l. x ∷ l) (take_left xs ys)

-- entries behind a journal, of which none was folded away, are told by the journal as it is kept
same_entries : (home : Home) (p q j : List Entry) → Legal (since home empty_base (p ++ j)) → Legal (since home empty_base (q ++ j)) → kept_since home (p ++ j) ≡ kept_since home (q ++ j)
    → length p ≤ length (kept_since home (p ++ j)).past → q ≡ p
same_entries home p q j lp lq e n =
    let f = kept_folds home (p ++ j) lp in
    let h = kept_folds home (q ++ j) lq in
    let a : size (kept_since home (p ++ j)) ≡ 0 + length (p ++ j) = (folds_stand (kept_since home (p ++ j)) (since home empty_base (p ++ j)) lp (inr refl) f).sizes in
    let b : size (kept_since home (q ++ j)) ≡ 0 + length (q ++ j) = (folds_stand (kept_since home (q ++ j)) (since home empty_base (q ++ j)) lq (inr refl) h).sizes in
    let c : size (kept_since home (p ++ j)) ≡ size (kept_since home (q ++ j)) = ap size e in
    let lengths : length p ≡ length q = omega (arith, a, b, c, length-append p j, length-append q j) in
    let fp : (kept_since home (p ++ j)).past ≡ f.newer = ap (λ (z : History). z.past) f.fold_is in
    let hq : (kept_since home (q ++ j)).past ≡ h.newer = ap (λ (z : History). z.past) h.fold_is in
    let newer : f.newer ≡ h.newer = sym fp ∙ (ap (λ (z : History). z.past) e ∙ hq) in
    let low : length p ≤ length f.newer = subst (λ l. length p ≤ length l) fp n in
    let high : length q ≤ length h.newer = subst (λ l. length q ≤ length l) newer (subst (λ (m : ℕ). m ≤ length f.newer) lengths low) in
    let left : p ≡ take (length p) f.newer = sym (take_left p j) ∙ (ap (take (length p)) f.past_is ∙ take-append-le (length p) f.newer f.older low) in
    let right : q ≡ take (length q) h.newer = sym (take_left q j) ∙ (ap (take (length q)) h.past_is ∙ take-append-le (length q) h.newer h.older high) in
    right ∙ ((λ i. take (sym lengths i) (sym newer i)) ∙ sym left)

front_none : {A : Type 0} (xs ys : List A) → xs ++ ys ≡ [] → xs ≡ []
front_none [] ys e = refl
front_none (x ∷ xs) ys e = absurd cc

-- two additions to a history that end in one value
pub same_items : (y : ShardView) (log more other : List Item) → Told y (log ++ more) → Told y (log ++ other) → length other ≡ length more
    → ((g : ℕ) → length (past_in g more) ≤ length (group_of y g).past) → IsSame more other
same_items y log more other t u n newest =
    let marks : marks_in (log ++ other) ≡ marks_in (log ++ more) = sym u.marks_are ∙ t.marks_are in
    record {
      count = n;
      marks = append_cancel_right (marks_in other) (marks_in more) (marks_in log) (sym (marks-append log other) ∙ (marks ∙ marks-append log more));
      entries = λ g. elim (cases_Bool (is_opened_id (marks_in (log ++ more)) g)) [
        | inl o ↦ let here = opened_keeps y (log ++ more) g t o in
            let there = opened_keeps y (log ++ other) g u (ap (λ m. is_opened_id m g) marks ∙ o) in
            let home = home_of y.boot g in
            let p = past-append g log more in let q = past-append g log other in
            same_entries home (past_in g more) (past_in g other) (past_in g log) (subst (λ l. Legal (since home empty_base l)) p (t.story.sound g).legal) (subst (λ l. Legal (since home empty_base l)) q (u.story.sound g).legal)
            (ap (kept_since home) (sym p) ∙ (sym here ∙ (there ∙ ap (kept_since home) q))) (subst (λ z. length (past_in g more) ≤ length z.past) (here ∙ ap (kept_since home) p) (newest g))
        | inr o ↦ front_none (past_in g other) (past_in g log) (sym (past-append g log other) ∙ u.story.unopened g (ap (λ m. is_opened_id m g) marks ∙ o))
            ∙ sym (front_none (past_in g more) (past_in g log) (sym (past-append g log more) ∙ t.story.unopened g o))
      ];
    }

-- OWN PLACES

within_more : (own : List ℕ) (n m k : ℕ) → Within own n → n ≤ m → Within (own ++ places m k) (m + k)
within_more own n m k w low p h = ⊎_elim (λ (a : 0 < times p own). let l = w p a in omega arith) (λ (b : 0 < times p (places m k)). let l = place_at p m k b in let x = l.1 in x) (times_either p own (places m k) h)

once_more : (own : List ℕ) (n m k : ℕ) → Within own n → n ≤ m → AtMostOnce own → AtMostOnce (own ++ places m k)
once_more own n m k w low once p =
    let both = times-append p own (places m k) in
    let old = once p in
    dite (dec_lt p m)
    (λ l. let none = times-places-below p m k l in omega arith)
    (λ h. let one = once_below-places p m k in let most = once_most p (m + k) in
    dite (dec_lt 0 (times p own)) (λ t. absurd (let l = w p t in omega arith)) (λ z. omega arith))

-- after a commit
pub enters : (boot s : ℕ) (v w : Seen) (f u : View Item) (y : ShardView) (n : ℕ) (between : List Item) → f.front ≡ v.log ++ between → Met boot s v f.front → f.own ≡ v.own → w.log ≡ u.front → w.own ≡ u.own → w.lock ≡ v.lock
    → (a : Adds Told ties f y n u) → Enters boot s v w between a.0
enters boot s v w f u y n between is met own log' own' lock a =
    let front : u.front ≡ f.front ++ a.0 = ap (λ (x : View Item). x.front) a.3 in
    let log : w.log ≡ (v.log ++ between) ++ a.0 = log' ∙ (front ∙ ap (λ l. l ++ a.0) is) in
    let mine : w.own ≡ v.own ++ places (length (v.log ++ between)) (length a.0) = own' ∙ (ap (λ (x : View Item). x.own) a.3 ∙ (λ k. own k ++ places (length (is k)) (sym a.1 k))) in
    let whole : w.log ≡ f.front ++ a.0 = log' ∙ front in
    let begins : Begins boot s (f.front ++ a.0) = begins_more boot s (f.front ++ a.0) f.front (a.0, refl) met.story.begins in
    let low : length v.log ≤ length (v.log ++ between) = let m = length-append v.log between in omega arith in
    let story : IsStory boot s (f.front ++ a.0) = story_told boot s y (f.front ++ a.0) begins a.2 in
    let size : length w.log ≡ length (v.log ++ between) + length a.0 = ap length log ∙ length-append (v.log ++ between) a.0 in
    record {
      lock = lock;
      log = log;
      own = mine;
      within = subst (λ (o : List ℕ). Within o (length w.log)) (sym mine) (subst (λ (m : ℕ). Within (v.own ++ places (length (v.log ++ between)) (length a.0)) m) (sym size)
          (within_more v.own (length v.log) (length (v.log ++ between)) (length a.0) met.within low));
      once = subst AtMostOnce (sym mine) (once_more v.own (length v.log) (length (v.log ++ between)) (length a.0) met.within low met.once);
      story = subst (IsStory boot s) (sym whole) story;
      apart = others_apart boot v between met.within (subst (λ l. Closed ties l v.own) is met.closed) (λ g. subst (λ l. Legal (journal_in boot g l)) is (met.story.sound g).legal);
    }

-- PASSES

-- it is of the lock as before
pub of_entered : (lock : TableId) (boot s : ℕ) (v w : Seen) (between more : List Item) → v.lock ≡ lock → Enters boot s v w between more → IsOf lock boot s w
of_entered lock boot s v w between more is e = record { lock_is = e.lock ∙ is; story = e.story; within = e.within; once = e.once }

pub of_ran : (lock : TableId) (boot s : ℕ) (v w : Seen) (Gives : List Item → List Item → Type 0) → v.lock ≡ lock → Ran boot s v w Gives → IsOf lock boot s w
of_ran lock boot s v w gives is r = of_entered lock boot s v w r.between r.entered is r.enters

pub of_half : (lock : TableId) (boot s : ℕ) (v : Seen) → IsOf lock boot s v → IsOf lock boot s (halved v)
of_half lock boot s v o = record { lock_is = o.lock_is; story = o.story; within = λ p h. absurd (omega arith); once = λ p. omega arith }

-- one pass takes in another
pub merges : (lock : TableId) (boot s : ℕ) (v o w : Seen) (x : ShardView) → IsOf lock boot s v → w.lock ≡ v.lock → StartsWith w.log v.log → StartsWith w.log o.log → w.own ≡ v.own ++ o.own → Told x w.log
    → Within w.own (length w.log) → Closed ties w.log w.own → AtMostOnce w.own → Merges boot s v o w
merges lock boot s v o w x of_v same starts also own told within closed once =
    let story = story_told boot s x w.log (begins_more boot s w.log v.log starts of_v.story.begins) told in
    record {
      between = starts.0;
      lock = same;
      log = starts.1;
      other = also;
      own = own;
      within = within;
      once = once;
      story = story;
      enters = λ none. entered_none story none;
      still = λ none. still_has boot s v w starts.0 [] (entered_none story none) of_v.within;
    }
  where
    -- it has entered nothing
    entered_none : IsStory boot s w.log → o.own ≡ [] → Enters boot s v w starts.0 []
    entered_none story none = record {
      lock = same;
      log = starts.1 ∙ sym (append-nil (v.log ++ starts.0));
      own = own ∙ ap (λ l. v.own ++ l) none;
      within = within;
      once = once;
      story = story;
      apart = others_apart boot v starts.0 of_v.within
          (subst (λ (l : List Item). Closed ties l v.own) starts.1 (subst (Closed ties w.log) (own ∙ (ap (λ l. v.own ++ l) none ∙ append-nil v.own)) closed))
          (λ g. subst (λ l. Legal (journal_in boot g l)) starts.1 (story.sound g).legal);
    }

pub of_merged : (lock : TableId) (boot s : ℕ) (v o w : Seen) → v.lock ≡ lock → Merges boot s v o w → IsOf lock boot s w
of_merged lock boot s v o w is m = record { lock_is = m.lock ∙ is; story = m.story; within = m.within; once = m.once }
