-- What a connection that looks for the group of an id adds.
use Rattle.std.proofs.Common.{◌≡◌, ◌≢◌, ◌==◌, ℕ, zero, suc, ◌+◌, ◌-◌, ◌≤◌, ◌<◌, Bool, true, false, ◌&&◌, ◌||◌, not, Result, Ok, Err, Some, None, List, [], ◌∷◌, ◌++◌, length, refl, sym, ◌∙◌, ap, subst, arith, inr}
use Rattle.std.specs.List.{list_any}
use Rattle.std.proofs.lemmas.Bool.{false_from_ne_true}
use Rattle.std.proofs.lemmas.List.{append_cancel_right}
use Rattle.std.proofs.lemmas.List.Folds.{list_any-append}
use Rattle.handle_model.specs.declared.entry.Home.{Home}
use mathlib.Core.Option.{some, some-injective, some-ne-none}
use mathlib.Core.Logic.{dite}
use native.Mathlib.Decide.{dec_lt}
use lib.ListN.{get_elem?}
use Rattle.handle_model.specs.declared.entry.Entry.{Entry}
use Rattle.handle_model.specs.declared.entry.Entry.TheVariants as entry
use Rattle.handle_model.specs.declared.limits.JoinLimit.TheVariants as limit
use Rattle.handle_model.specs.declared.base.Base.{Base}
use Rattle.handle_model.specs.Bases.{empty_base}
use Rattle.handle_model.specs.Journal.{Legal, is_shut, is_join}
use Rattle.handle_model.specs.History.{History, IsSound, since, history_of, size}
use Rattle.handle_model.specs.Further.{with_entries}
use Rattle.group_core.specs.declared.answer.JoinRefusal.{JoinRefusal}
use Rattle.group_core.specs.declared.answer.JoinRefusal.TheVariants as refusal
use Rattle.group_core.specs.Adds.{Adds}
use Rattle.group_core.specs.Conns.{Joins}
use Rattle.hub_story.specs.declared.item.Mark.{Mark}
use Rattle.hub_story.specs.declared.item.Mark.TheVariants.{Opened, Missed, Retired}
use Rattle.hub_story.specs.declared.item.Item.{Item}
use Rattle.hub_story.specs.declared.item.Item.TheVariants.{Listed as Marked}
use Rattle.hub_story.specs.Directories.{opened_ids, open_ids, is_opened_id, is_retired_id, is_open_id, id_of, index_of, first_ids}
use Rattle.hub_story.specs.Histories.{marks_in, past_in, journal_in, home_of, items_of, IsStory}
use Rattle.hub_story.specs.Folded.{kept_since, kept}
use Rattle.hub_story.specs.Answers.{JoinsWhole}
use Rattle.hub_story.proofs.ItemLemmas.{past-append, marks-append}
use Rattle.hub_story.proofs.FoldLemmas.{folds_stand}
use Rattle.hub_story.proofs.FoldLemmas.{kept_folds}
use Rattle.hub_story.proofs.WholeLemmas.{Keeps, joins_whole}
use Rattle.turn_lock.proofs.HistoryLemmas.{at_append, at_within}
use Rattle.turn_lock.proofs.AddingLemmas.{at_behind}
use Rattle.hub_shard.specs.declared.shard.Listed.{Listed}
use Rattle.hub_shard.specs.declared.answer.Absence.TheVariants.{Directory, Shut}
use Rattle.hub_shard.specs.declared.answer.FindRefusal.{FindRefusal}
use Rattle.hub_shard.specs.declared.answer.FindRefusal.TheVariants.{NoGroup, TooMany, Numbers, Memory}
use Rattle.hub_shard.specs.declared.find.Find.{Find}
use Rattle.hub_shard.specs.Shards.{ShardView, listed_at, Told, Acted, TouchedAt, Touched, MarkedBy, IsNoId}
use Rattle.hub_shard.specs.Answers.{Answers}
use Rattle.hub_shard.specs.Finds.{gives_find, IsOpen, Misses}
use Rattle.hub_shard.proofs.TellLemmas.{opened_is, opened_among, first_there, index_of_id, opened_keeps, opened_flag, take_front, acted, acted_none}
use Rattle.hub_shard.proofs.CallLemmas.{adds_count}

-- WHICH GROUP

pub opened_from : (x : ShardView) (log : List Item) (i g : ℕ) → Told x log → i < length x.groups → g ≡ id_of x.number i → is_opened_id (marks_in log) g ≡ true
opened_from x log i g t low is =
    let count : length (opened_ids (marks_in log)) ≡ length x.groups = ap (λ m. length (opened_ids m)) (sym t.marks_are) ∙ sym t.count in
    let there : list_any (λ m. m == id_of x.number i) (first_ids x.number (length (opened_ids (marks_in log)))) ≡ true = first_there x.number (length (opened_ids (marks_in log))) i (omega (arith, count, low)) in
    ap (is_opened_id (marks_in log)) is ∙ (opened_among (marks_in log) (id_of x.number i) ∙ (ap (list_any (λ m. m == id_of x.number i)) t.story.ids ∙ there))

pub unopened_id : (x : ShardView) (log : List Item) (g : ℕ) → Told x log → IsNoId x g → is_opened_id (marks_in log) g ≡ false
unopened_id x log g t none = false_from_ne_true (is_opened_id (marks_in log) g) (λ h. let i = opened_is x log g t h in none.none i.index i.low i.id_is)

pub unopened_from : (x : ShardView) (log : List Item) (g : ℕ) → Told x log → IsNoId x g → is_open_id (marks_in log) g ≡ false
unopened_from x log g t none = closed (is_opened_id (marks_in log) g) (is_retired_id (marks_in log) g) (false_from_ne_true (is_opened_id (marks_in log) g) (λ h. let i = opened_is x log g t h in none.none i.index i.low i.id_is))
  where
    closed : (a b : Bool) → a ≡ false → (a && not b) ≡ false
    closed a b h = rw h refl

retired_not : (a b : Bool) → b ≡ true → (a && not b) ≡ false
retired_not true b h = rw h refl
retired_not false b h = refl

live_is : (a b : Bool) → a ≡ true → b ≡ false → (a && not b) ≡ true
live_is a b h k = rw (h, k) refl

pub retired_from : (x : ShardView) (log : List Item) (i g : ℕ) → Told x log → i < length x.groups → g ≡ id_of x.number i → (listed_at x i).retired ≡ true → is_open_id (marks_in log) g ≡ false
retired_from x log i g t low is h =
    let flag : is_retired_id (marks_in log) g ≡ true = (λ k. is_retired_id (sym t.marks_are k) (is k)) ∙ (sym (t.flags_are i low) ∙ h) in
    retired_not (is_opened_id (marks_in log) g) (is_retired_id (marks_in log) g) flag

pub live_from : (x : ShardView) (log : List Item) (i g : ℕ) → Told x log → i < length x.groups → g ≡ id_of x.number i → (listed_at x i).retired ≡ false → is_open_id (marks_in log) g ≡ true
live_from x log i g t low is h =
    let flag : is_retired_id (marks_in log) g ≡ false = (λ k. is_retired_id (sym t.marks_are k) (is k)) ∙ (sym (t.flags_are i low) ∙ h) in
    live_is (is_opened_id (marks_in log) g) (is_retired_id (marks_in log) g) (opened_from x log i g t low is) flag

-- its journal
pub keeps_at : (x : ShardView) (log : List Item) (i g : ℕ) → Told x log → i < length x.groups → g ≡ id_of x.number i → (listed_at x i).group ≡ kept (journal_in x.boot g log)
keeps_at x log i g t low is = t.groups_are i low ∙ ap (λ n. kept (journal_in x.boot n log)) (sym is)

-- A MARK

no_retired : (h : ℕ) (k : ℕ) (g : ℕ) → get_elem? (Marked (Missed g) ∷ []) k ≡ some (Marked (Retired h)) → ⊥
no_retired h zero g at = let same : Marked (Missed g) ≡ Marked (Retired h) = some-injective (Marked (Missed g)) (Marked (Retired h)) at in absurd cc
no_retired h (suc k) g at = absurd (some-ne-none (Marked (Retired h)) (sym at))

past_marked : (h g : ℕ) (log : List Item) → past_in h (log ++ Marked (Missed g) ∷ []) ≡ past_in h log
past_marked h g log = past-append h log (Marked (Missed g) ∷ [])

marks_marked : (g : ℕ) (log : List Item) → marks_in (log ++ Marked (Missed g) ∷ []) ≡ Missed g ∷ marks_in log
marks_marked g log = marks-append log (Marked (Missed g) ∷ [])

story_missed : (boot s g : ℕ) (log : List Item) → IsStory boot s log → IsStory boot s (log ++ Marked (Missed g) ∷ [])
story_missed boot s g log t =
    let marks = marks_marked g log in
    record {
      begins = (t.begins.0 ++ Marked (Missed g) ∷ [], ap (λ l. l ++ Marked (Missed g) ∷ []) t.begins.1);
      sound = λ h. subst (λ l. IsSound (since (home_of boot h) empty_base l)) (sym (past_marked h g log)) (t.sound h);
      ids = subst (λ m. opened_ids m ≡ first_ids s (length (opened_ids m))) (sym marks) t.ids;
      few = subst (λ m. length (open_ids m) ≤ 64) (sym marks) t.few;
      unopened = λ h no. past_marked h g log ∙ t.unopened h (ap (λ m. is_opened_id m h) (sym marks) ∙ no);
      joined = λ h there. ap (list_any is_join) (past_marked h g log) ∙ t.joined h (ap (λ m. is_opened_id m h) (sym marks) ∙ there);
      ended = λ q h at. dite (dec_lt q (length log))
          (λ low. ap (λ l. list_any is_shut (past_in h l)) (take_front log (Marked (Missed g) ∷ []) q low) ∙ t.ended q h (sym (at_append log (Marked (Missed g) ∷ []) q low) ∙ at))
          (λ high. absurd (no_retired h (q - length log) g
          (sym (at_behind log (Marked (Missed g) ∷ []) (q - length log)) ∙ (ap (get_elem? (log ++ Marked (Missed g) ∷ [])) (let e : length log + (q - length log) ≡ q = omega arith in e) ∙ at))));
    }

acted_missed : (x y : ShardView) (log : List Item) (g : ℕ) (Gives : List Item → Type 0) → Told x log → MarkedBy x (Missed g) y → Gives (Marked (Missed g) ∷ []) → Acted x y log 1 Gives
acted_missed x y log g Gives t is gives = subst (λ z. Acted x z log 1 Gives) (sym is) (record {
  more = Marked (Missed g) ∷ [];
  count = refl;
  newest = λ h. omega arith;
  told = record {
    story = story_missed x.boot x.number g log t.story;
    small = t.small;
    marks_are = ap (λ m. Missed g ∷ m) t.marks_are ∙ sym (marks_marked g log);
    count = t.count;
    open_is = t.open_is;
    groups_are = λ i low. t.groups_are i low ∙ ap (kept_since (home_of x.boot (id_of x.number i))) (sym (past_marked (id_of x.number i) g log));
    flags_are = λ i low. t.flags_are i low;
  };
  gives = gives;
})

-- THE ACT

module _ (a : Find) (x y : ShardView) (log : List Item) (t : Told x log) where
  pub acts_miss : (r : Result ℕ FindRefusal) (added : ℕ) → is_open_id (marks_in log) a.id ≡ false → Misses x a.id (r, added) y → Acted x y log added (gives_find a x.boot x.number log r)
  acts_miss (Ok c) added o m = absurd m
  acts_miss (Err (NoGroup (Directory n))) added o m =
      subst (λ k. Acted x y log k (gives_find a x.boot x.number log (Err (NoGroup (Directory n))))) (sym m.2)
      (acted_missed x y log a.id (gives_find a x.boot x.number log (Err (NoGroup (Directory n)))) t m.0 (o, m.1 ∙ ap length t.marks_are, refl))
  acts_miss (Err (NoGroup (Shut n))) added o m = absurd m
  acts_miss (Err TooMany) added o m = absurd m
  acts_miss (Err Numbers) added o m = absurd m
  acts_miss (Err Memory) added o m =
      subst (λ k. Acted x y log k (gives_find a x.boot x.number log (Err Memory))) (sym m.1)
      (subst (λ z. Acted x z log 0 (gives_find a x.boot x.number log (Err Memory))) (sym m.0) (acted_none x log (gives_find a x.boot x.number log (Err Memory)) t refl))

or_false : (b : Bool) → (b || false) ≡ b
or_false true = refl
or_false false = refl

shut_same : (home : Home) (past : List Entry) → Legal (since home empty_base past) → list_any is_shut (kept_since home past).past ≡ list_any is_shut past
shut_same home past l =
    let f = kept_folds home past l in
    let whole : list_any is_shut past ≡ (list_any is_shut f.newer || false) = ap (list_any is_shut) f.past_is ∙ (list_any-append is_shut f.newer f.older ∙ ap (λ b. list_any is_shut f.newer || b) f.open_is) in
    ap (λ (z : History). list_any is_shut z.past) f.fold_is ∙ (sym (or_false (list_any is_shut f.newer)) ∙ sym whole)

size_same : (home : Home) (past : List Entry) → Legal (since home empty_base past) → size (kept_since home past) ≡ length past
size_same home past l = let a = (folds_stand (kept_since home past) (since home empty_base past) l (inr refl) (kept_folds home past l)).sizes in omega (arith, a)

acted_map : (x y : ShardView) (log : List Item) (n : ℕ) (G H : List Item → Type 0) → ((more : List Item) → G more → H more) → Acted x y log n G → Acted x y log n H
acted_map x y log n G H f a = record { more = a.more; count = a.count; newest = a.newest; told = a.told; gives = f a.more a.gives }

no_entries : (home : Home) (past es : List Entry) → Adds (since home empty_base past) [] (since home empty_base (es ++ past)) → es ≡ []
no_entries home past es a = append_cancel_right es [] past (ap (λ (z : History). z.past) a)

module _ (a : Find) (x y : ShardView) (log : List Item) (i : ℕ) (t : Told x log) (low : i < length x.groups) (is : a.id ≡ id_of x.number i) where
  pub unshut_at : list_any is_shut (listed_at x i).group.past ≡ false → list_any is_shut (past_in a.id log) ≡ false
  unshut_at h = sym (shut_same (home_of x.boot a.id) (past_in a.id log) (t.story.sound a.id).legal) ∙ (sym (ap (λ (z : History). list_any is_shut z.past) (keeps_at x log i a.id t low is)) ∙ h)

  pub acts_shut_at : (n : ℕ) → (listed_at x i).retired ≡ false → list_any is_shut (listed_at x i).group.past ≡ true → n ≡ size (listed_at x i).group
      → Acted x x log 0 (gives_find a x.boot x.number log (Err (NoGroup (Shut n))))
  acts_shut_at n live shut count =
      let keeps = keeps_at x log i a.id t low is in
      acted_none x log (gives_find a x.boot x.number log (Err (NoGroup (Shut n)))) t (
        live_from x log i a.id t low is live,
        sym (shut_same (home_of x.boot a.id) (past_in a.id log) (t.story.sound a.id).legal) ∙ (sym (ap (λ (z : History). list_any is_shut z.past) keeps) ∙ shut),
        count ∙ (ap size keeps ∙ size_same (home_of x.boot a.id) (past_in a.id log) (t.story.sound a.id).legal),
        refl,
      )

  touched : (l : Listed) → TouchedAt x i l y → Touched x a.id l y
  touched l u = let index : i ≡ index_of a.id = sym (ap index_of is ∙ index_of_id x.number i t.small) in subst (λ k. TouchedAt x k l y) index u

  joined : (r : Result ℕ JoinRefusal) (l : Listed) → list_any is_shut (listed_at x i).group.past ≡ false → TouchedAt x i l y → Joins (listed_at x i).group r l.group
      → Keeps (home_of x.boot a.id) (past_in a.id log) l.group (λ j k. JoinsWhole j r k)
  joined r l u touch did =
      joins_whole (home_of x.boot a.id) (past_in a.id log) r l.group (t.story.sound a.id) (unshut_at u) (subst (λ z. Joins z r l.group) (keeps_at x log i a.id t low is) did) touch.sound

  pub acts_join : (c : ℕ) (l : Listed) → (listed_at x i).retired ≡ false → list_any is_shut (listed_at x i).group.past ≡ false → TouchedAt x i l y → Joins (listed_at x i).group (Ok c) l.group
      → Acted x y log 1 (gives_find a x.boot x.number log (Ok c))
  acts_join c l live u touch did =
      let k = joined (Ok c) l u touch did in
      acted_map x y log 1 (λ more. Answers x.boot a.id log more (λ j m. JoinsWhole j (Ok c) m)) (gives_find a x.boot x.number log (Ok c))
      (λ more d. ((live_from x log i a.id t low is live, unshut_at u), d))
      (acted x y log a.id l (λ j m. JoinsWhole j (Ok c) m) 1 t (opened_from x log i a.id t low is) (touched l touch) k (adds_count (home_of x.boot a.id) (past_in a.id log) k.es (entry.Join c ∷ []) k.answers.2))

  pub acts_many : (l : Listed) → (listed_at x i).retired ≡ false → list_any is_shut (listed_at x i).group.past ≡ false → TouchedAt x i l y → Joins (listed_at x i).group (Err refusal.TooMany) l.group
      → Acted x y log 0 (gives_find a x.boot x.number log (Err TooMany))
  acts_many l live u touch did =
      let k = joined (Err refusal.TooMany) l u touch did in
      acted_map x y log 0 (λ more. Answers x.boot a.id log more (λ j m. JoinsWhole j (Err refusal.TooMany) m)) (gives_find a x.boot x.number log (Err TooMany))
      (λ more d. ((live_from x log i a.id t low is live, unshut_at u), d.2.0, d.1 ∙ ap (items_of a.id) (no_entries (home_of x.boot a.id) (past_in a.id log) d.0 d.2.1)))
      (acted x y log a.id l (λ j m. JoinsWhole j (Err refusal.TooMany) m) 0 t (opened_from x log i a.id t low is) (touched l touch) k (adds_count (home_of x.boot a.id) (past_in a.id log) k.es [] k.answers.1))

  pub acts_numbers : (l : Listed) → (listed_at x i).retired ≡ false → list_any is_shut (listed_at x i).group.past ≡ false → TouchedAt x i l y → Joins (listed_at x i).group (Err refusal.Numbers) l.group
      → Acted x y log 0 (gives_find a x.boot x.number log (Err Numbers))
  acts_numbers l live u touch did =
      let k = joined (Err refusal.Numbers) l u touch did in
      acted_map x y log 0 (λ more. Answers x.boot a.id log more (λ j m. JoinsWhole j (Err refusal.Numbers) m)) (gives_find a x.boot x.number log (Err Numbers))
      (λ more d. ((live_from x log i a.id t low is live, unshut_at u), d.2.0, d.1 ∙ ap (items_of a.id) (no_entries (home_of x.boot a.id) (past_in a.id log) d.0 d.2.1)))
      (acted x y log a.id l (λ j m. JoinsWhole j (Err refusal.Numbers) m) 0 t (opened_from x log i a.id t low is) (touched l touch) k (adds_count (home_of x.boot a.id) (past_in a.id log) k.es [] k.answers.1))

  pub acts_memory : (l : Listed) → list_any is_shut (listed_at x i).group.past ≡ false → TouchedAt x i l y → Joins (listed_at x i).group (Err refusal.Memory) l.group
      → Acted x y log 0 (gives_find a x.boot x.number log (Err Memory))
  acts_memory l u touch did =
      let k = joined (Err refusal.Memory) l u touch did in
      acted_map x y log 0 (λ more. Answers x.boot a.id log more (λ j m. JoinsWhole j (Err refusal.Memory) m)) (gives_find a x.boot x.number log (Err Memory))
      (λ more d. d.1 ∙ ap (items_of a.id) (no_entries (home_of x.boot a.id) (past_in a.id log) d.0 d.2))
      (acted x y log a.id l (λ j m. JoinsWhole j (Err refusal.Memory) m) 0 t (opened_from x log i a.id t low is) (touched l touch) k (adds_count (home_of x.boot a.id) (past_in a.id log) k.es [] k.answers))

-- an id that isn't that of its index is that of none
pub no_id : (x : ShardView) (g : ℕ) → x.number < 16 → (index_of g < length x.groups → g ≡ id_of x.number (index_of g) → ⊥) → IsNoId x g
no_id x g small none = record {
  none = λ i low is.
      let index : index_of g ≡ i = ap index_of is ∙ index_of_id x.number i small in
      none (subst (λ k. k < length x.groups) (sym index) low) (is ∙ ap (id_of x.number) (sym index));
}

-- the journal of the group of an index, as it is kept
pub kept_there : (x : ShardView) (log : List Item) (i g : ℕ) (base : Base) (entries : List Entry) → Told x log → i < length x.groups → g ≡ id_of x.number i
    → history_of (listed_at x i).group.home base entries ≡ (listed_at x i).group → history_of (home_of x.boot g) base entries ≡ kept (journal_in x.boot g log)
kept_there x log i g base entries t low is e =
    let keeps = keeps_at x log i g t low is in
    let f = kept_folds (home_of x.boot g) (past_in g log) (t.story.sound g).legal in
    let home : (listed_at x i).group.home ≡ home_of x.boot g = ap (λ (z : History). z.home) (keeps ∙ f.fold_is) in
    ap (λ h. history_of h base entries) (sym home) ∙ (e ∙ keeps)
