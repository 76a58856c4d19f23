-- What retiring a group adds.
use Rattle.std.proofs.Common.{◌≡◌, ◌≢◌, ◌==◌, ℕ, zero, suc, ◌+◌, ◌-◌, ◌≤◌, ◌<◌, Bool, true, false, ◌&&◌, ◌||◌, not, List, [], ◌∷◌, ◌++◌, length, take, refl, sym, ◌∙◌, ap, subst, arith, inl, inr, slice_index_or, slice_set}
use Rattle.std.specs.List.{list_any, filter}
use Rattle.std.proofs.lemmas.Bool.{cases_Bool}
use Rattle.std.proofs.lemmas.Bool.Decides.{eqb_tells, nat_tests}
use mathlib.Core.Option.{some, some-injective, some-ne-none}
use mathlib.Core.Logic.{dite}
use native.Mathlib.Decide.{dec_lt, ℕ_discrete}
use lib.ListN.{get_elem?}
use Rattle.handle_model.specs.Bases.{empty_base}
use Rattle.handle_model.specs.Journal.{is_shut, is_join}
use Rattle.handle_model.specs.History.{IsSound, since}
use Rattle.handle_model.proofs.Tests.{and_left, and_right}
use Rattle.hub_story.specs.declared.item.Mark.{Mark}
use Rattle.hub_story.specs.declared.item.Mark.TheVariants.{Opened, Missed, Retired}
use Rattle.hub_story.specs.declared.item.Item.{Item}
use Rattle.hub_story.specs.declared.item.Item.TheVariants.{Listed as Marked}
use Rattle.hub_story.specs.Directories.{opened_ids, open_ids, is_opened_id, is_retired_id, is_open_id, id_of, index_of, first_ids}
use Rattle.hub_story.specs.Histories.{marks_in, past_in, journal_in, home_of, IsStory}
use Rattle.hub_story.specs.Folded.{kept_since}
use Rattle.hub_story.proofs.ItemLemmas.{past-append, marks-append}
use Rattle.turn_lock.proofs.HistoryLemmas.{at_append, at_within}
use Rattle.turn_lock.proofs.AddingLemmas.{at_behind}
use Rattle.hub_shard.specs.declared.shard.Listed.{Listed}
use Rattle.hub_shard.specs.declared.retiring.Retire.{Retire}
use Rattle.hub_shard.specs.declared.answer.Retired.{Retired as Answered}
use Rattle.hub_shard.specs.Shards.{ShardView, unlisted, listed_at, Told, Acted, Has}
use Rattle.hub_shard.specs.Retirings.{retired_listed, RetiresAs, gives_retire}
use Rattle.hub_shard.proofs.TellLemmas.{IsId, opened_is, opened_has, index_of_id, take_front, set_same, set_other, set_length}

-- HOW MANY ARE OPEN

same_filter : (p q : ℕ → Bool) (s n : ℕ) → ((m : ℕ) → m < n → q (id_of s m) ≡ p (id_of s m)) → length (filter q (first_ids s n)) ≡ length (filter p (first_ids s n))
same_filter p q s zero h = refl
same_filter p q s (suc n) h =
    let here = h n (omega arith) in
    let rest = same_filter p q s n (λ m l. h m (omega arith)) in
    elim (cases_Bool (p (id_of s n))) [ inl t ↦ rw (here, t) (ap suc rest) | inr t ↦ rw (here, t) rest ]

one_less : (p q : ℕ → Bool) (s n i : ℕ) → i < n → p (id_of s i) ≡ true → q (id_of s i) ≡ false → ((m : ℕ) → m ≢ i → q (id_of s m) ≡ p (id_of s m)) → length (filter q (first_ids s n)) + 1 ≡ length (filter p (first_ids s n))
one_less p q s zero i low t u h = absurd (omega arith)
one_less p q s (suc n) i low t u h = dite (ℕ_discrete n i)
    (λ (e : n ≡ i).
    let pt : p (id_of s n) ≡ true = ap (λ m. p (id_of s m)) e ∙ t in
    let qf : q (id_of s n) ≡ false = ap (λ m. q (id_of s m)) e ∙ u in
    let rest = same_filter p q s n (λ m l. h m (λ d. omega (arith, d, e, l))) in rw (pt, qf) (let k : length (filter q (first_ids s n)) + 1 ≡ suc (length (filter p (first_ids s n))) = omega (arith, rest) in k))
    (λ d.
    let here = h n d in
    let rest = one_less p q s n i (omega (arith, low, d)) t u h in
    elim (cases_Bool (p (id_of s n))) [
      | inl a ↦ rw (here, a) (let k : suc (length (filter q (first_ids s n))) + 1 ≡ suc (length (filter p (first_ids s n))) = omega (arith, rest) in k)
      | inr a ↦ rw (here, a) rest
    ])

retired_itself : (g : ℕ) (marks : List Mark) → is_open_id (Retired g ∷ marks) g ≡ false
retired_itself g marks =
    let self : (g == g) ≡ true = grind (arith, nat_tests) in
    elim (cases_Bool (is_opened_id marks g)) [ inl t ↦ rw (self, t) refl | inr t ↦ rw (self, t) refl ]

retired_else : (g h : ℕ) (marks : List Mark) → g ≢ h → is_open_id (Retired g ∷ marks) h ≡ is_open_id marks h
retired_else g h marks n = elim (eqb_tells g h) [ inl e ↦ absurd (n e.1) | inr e ↦ rw e.0 refl ]

-- THE HISTORY

past_retired : (h g : ℕ) (log : List Item) → past_in h (log ++ Marked (Retired g) ∷ []) ≡ past_in h log
past_retired h g log = past-append h log (Marked (Retired g) ∷ [])

marks_retired : (g : ℕ) (log : List Item) → marks_in (log ++ Marked (Retired g) ∷ []) ≡ Retired g ∷ marks_in log
marks_retired g log = marks-append log (Marked (Retired g) ∷ [])

take_all : {A : Type 0} (xs ys : List A) → take (length xs) (xs ++ ys) ≡ xs
take_all [] ys = refl
take_all (x ∷ xs) ys = ap (λ l. x ∷ l) (take_all xs ys)

which : (g h k : ℕ) → get_elem? (Marked (Retired g) ∷ []) k ≡ some (Marked (Retired h)) → (k ≡ 0) × (g ≡ h)
which g h zero at = let same : Marked (Retired g) ≡ Marked (Retired h) = some-injective (Marked (Retired g)) (Marked (Retired h)) at in (refl, cc)
which g h (suc k) at = absurd (some-ne-none (Marked (Retired h)) (sym at))

story_retired : (boot s g : ℕ) (log : List Item) → IsStory boot s log → list_any is_shut (past_in g log) ≡ true → length (open_ids (Retired g ∷ marks_in log)) ≤ 64 → IsStory boot s (log ++ Marked (Retired g) ∷ [])
story_retired boot s g log t shut few =
    let marks = marks_retired g log in
    record {
      begins = (t.begins.0 ++ Marked (Retired g) ∷ [], ap (λ l. l ++ Marked (Retired g) ∷ []) t.begins.1);
      sound = λ h. subst (λ l. IsSound (since (home_of boot h) empty_base l)) (sym (past_retired h g log)) (t.sound h);
      ids = subst (λ m. opened_ids m ≡ first_ids s (length (opened_ids m))) (sym marks) t.ids;
      few = subst (λ m. length (open_ids m) ≤ 64) (sym marks) few;
      unopened = λ h no. past_retired h g log ∙ t.unopened h (ap (λ m. is_opened_id m h) (sym marks) ∙ no);
      joined = λ h there. ap (list_any is_join) (past_retired h g log) ∙ t.joined h (ap (λ m. is_opened_id m h) (sym marks) ∙ there);
      ended = λ q h at. dite (dec_lt q (length log))
          (λ low. ap (λ l. list_any is_shut (past_in h l)) (take_front log (Marked (Retired g) ∷ []) q low) ∙ t.ended q h (sym (at_append log (Marked (Retired g) ∷ []) q low) ∙ at))
          (λ high.
          let w = which g h (q - length log) (sym (at_behind log (Marked (Retired g) ∷ []) (q - length log)) ∙ (ap (get_elem? (log ++ Marked (Retired g) ∷ [])) (let e : length log + (q - length log) ≡ q = omega arith in e) ∙ at)) in
          let zero_is = w.0 in
          let place : q ≡ length log = omega (arith, high, zero_is) in
          ap (λ n. list_any is_shut (past_in h (take n (log ++ Marked (Retired g) ∷ [])))) place ∙ (ap (λ l. list_any is_shut (past_in h l)) (take_all log (Marked (Retired g) ∷ [])) ∙ subst (λ (n : ℕ). list_any is_shut (past_in n log) ≡ true) w.1 shut));
    }

-- THE ACT

pub open_some : (x : ShardView) (log : List Item) (g : ℕ) → Told x log → is_open_id (marks_in log) g ≡ true → length (open_ids (Retired g ∷ marks_in log)) + 1 ≡ x.open_groups
open_some x log g t o =
    let i = opened_is x log g t (and_left (is_opened_id (marks_in log) g) (not (is_retired_id (marks_in log) g)) o) in
    let m = marks_in log in
    let count : length (opened_ids m) ≡ length x.groups = ap (λ k. length (opened_ids k)) (sym t.marks_are) ∙ sym t.count in
    let less = one_less (is_open_id m) (is_open_id (Retired g ∷ m)) x.number (length (opened_ids m)) i.index (let l = i.low in omega (arith, count, l)) (ap (is_open_id m) (sym i.id_is) ∙ o)
    (ap (is_open_id (Retired g ∷ m)) (sym i.id_is) ∙ retired_itself g m)
    (λ k d. retired_else g (id_of x.number k) m (λ e. d (sym (index_of_id x.number k t.small) ∙ (ap index_of (sym e) ∙ (ap index_of i.id_is ∙ index_of_id x.number i.index t.small))))) in
    let ids : opened_ids m ≡ first_ids x.number (length (opened_ids m)) = t.story.ids in
    let left : length (open_ids (Retired g ∷ m)) ≡ length (filter (is_open_id (Retired g ∷ m)) (first_ids x.number (length (opened_ids m)))) = ap (λ ns. length (filter (is_open_id (Retired g ∷ m)) ns)) ids in
    let right : length (open_ids m) ≡ length (filter (is_open_id m) (first_ids x.number (length (opened_ids m)))) = ap (λ ns. length (filter (is_open_id m) ns)) ids in
    let open_ : x.open_groups ≡ length (open_ids m) = t.open_is ∙ ap (λ k. length (open_ids k)) t.marks_are in
    omega (arith, less, left, right, open_)

pub acts_retire : (a : Retire) (x y : ShardView) (log : List Item) (r : Answered) → Told x log → is_open_id (marks_in log) a.key ≡ true → list_any is_shut (past_in a.key log) ≡ true → RetiresAs x a.key y
    → r ≡ record { group = a.key } → Acted x y log 1 (gives_retire a x.boot x.number log r)
acts_retire a x y log r t o shut is e =
    let g = a.key in
    let opened = and_left (is_opened_id (marks_in log) g) (not (is_retired_id (marks_in log) g)) o in
    let has = opened_has x log g t opened in
    let id = opened_is x log g t opened in
    let index : index_of g ≡ id.index = ap index_of id.id_is ∙ index_of_id x.number id.index t.small in
    let less = open_some x log g t o in
    let most = t.story.few in
    let open_ : x.open_groups ≡ length (open_ids (marks_in log)) = t.open_is ∙ ap (λ k. length (open_ids k)) t.marks_are in
    let few : length (open_ids (Retired g ∷ marks_in log)) ≤ 64 = omega (arith, less, most, open_) in
    let l : Listed = retired_listed (listed_at x (index_of g)) in
    let here : slice_index_or (slice_set x.groups (index_of g) l) (index_of g) unlisted ≡ l = set_same x.groups (index_of g) l has.1 in
    subst (λ z. Acted x z log 1 (gives_retire a x.boot x.number log r)) (sym is) (record {
      more = Marked (Retired g) ∷ [];
      count = refl;
      newest = λ h. omega arith;
      told = record {
        story = story_retired x.boot x.number g log t.story shut few;
        small = t.small;
        marks_are = ap (λ m. Retired g ∷ m) t.marks_are ∙ sym (marks_retired g log);
        count = set_length x.groups (index_of g) l ∙ t.count;
        open_is = let k : x.open_groups - 1 ≡ length (open_ids (Retired g ∷ marks_in log)) = omega (arith, less) in k ∙ ap (λ m. length (open_ids (Retired g ∷ m))) (sym t.marks_are);
        groups_are = λ i low. dite (ℕ_discrete i (index_of g))
            (λ (e : i ≡ index_of g). ap (λ n. (slice_index_or (slice_set x.groups (index_of g) l) n unlisted).group) e ∙ (ap (λ (z : Listed). z.group) here ∙ (ap (λ n. (listed_at x n).group) (sym e)
            ∙ (t.groups_are i (omega (arith, low, set_length x.groups (index_of g) l)) ∙ ap (kept_since (home_of x.boot (id_of x.number i))) (sym (past_retired (id_of x.number i) g log))))))
            (λ d. ap (λ (z : Listed). z.group) (set_other x.groups (index_of g) i l d) ∙ (t.groups_are i (omega (arith, low, set_length x.groups (index_of g) l)) ∙ ap (kept_since (home_of x.boot (id_of x.number i))) (sym (past_retired (id_of x.number i) g log))));
        flags_are = λ i low. dite (ℕ_discrete i (index_of g))
            (λ (e : i ≡ index_of g).
            let same : g ≡ id_of x.number i = id.id_is ∙ ap (id_of x.number) (sym index ∙ sym e) in
            let self : (g == id_of x.number i) ≡ true = subst (λ (n : ℕ). (g == n) ≡ true) same (let s : (g == g) ≡ true = grind (arith, nat_tests) in s) in
            ap (λ n. (slice_index_or (slice_set x.groups (index_of g) l) n unlisted).retired) e ∙ (ap (λ (z : Listed). z.retired) here ∙ rw self refl))
            (λ d.
            let apart : g ≢ id_of x.number i = λ e. d (sym (ap index_of e ∙ index_of_id x.number i t.small)) in
            let no : (g == id_of x.number i) ≡ false = elim (eqb_tells g (id_of x.number i)) [ inl s ↦ absurd (apart s.1) | inr s ↦ s.0 ] in
            ap (λ (z : Listed). z.retired) (set_other x.groups (index_of g) i l d) ∙ (t.flags_are i (omega (arith, low, set_length x.groups (index_of g) l)) ∙ rw no refl));
      };
      gives = (e, refl);
    })
