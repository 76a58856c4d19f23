-- What opening a group adds.
use Rattle.std.proofs.Common.{◌≡◌, ◌≢◌, ◌==◌, ℕ, zero, suc, ◌+◌, ◌-◌, ◌≤◌, ◌<◌, ◌^◌, nat_lt, Bool, true, false, ◌&&◌, ◌||◌, not, Result, Ok, Err, List, [], ◌∷◌, ◌++◌, length, take, refl, sym, ◌∙◌, ap, subst, arith, inl, inr, slice_index_or, length-append}
use Rattle.std.specs.List.{list_any, filter}
use Rattle.std.proofs.lemmas.Bool.{cases_Bool, false_from_ne_true, or_parts}
use Rattle.std.proofs.lemmas.Bool.Decides.{eqb_tells, nat_tests}
use Rattle.std.proofs.lemmas.List.{append_cancel_right, append-nil}
use mathlib.Core.Option.{some, some-injective, some-ne-none}
use mathlib.Core.Logic.{dite}
use native.Mathlib.Decide.{dec_lt, ℕ_discrete}
use lib.ListN.{get_elem?}
use Rattle.handle_model.specs.declared.entry.Home.{Home}
use Rattle.handle_model.specs.declared.entry.Entry.{Entry}
use Rattle.handle_model.specs.declared.entry.Entry.TheVariants.{Join}
use Rattle.handle_model.specs.Bases.{empty_base}
use Rattle.handle_model.specs.Journal.{is_shut, is_join}
use Rattle.handle_model.specs.History.{History, IsSound, since}
use Rattle.handle_model.proofs.Steps.{empty_sound}
use Rattle.group_core.specs.Conns.{Joins}
use Rattle.hub_story.specs.declared.item.Mark.{Mark}
use Rattle.hub_story.specs.declared.item.Mark.TheVariants.{Opened, Missed, Retired}
use Rattle.hub_story.specs.declared.item.Item.{Item}
use Rattle.hub_story.specs.declared.item.Item.TheVariants.{Listed as Marked, Of}
use Rattle.hub_story.specs.Directories.{opens_id, retires_id, opened_ids, open_ids, is_opened_id, is_retired_id, is_open_id, id_of, index_of, first_ids, next_id, is_full, is_used_up}
use Rattle.hub_story.specs.Histories.{marks_in, past_in, journal_in, home_of, IsStory}
use Rattle.hub_story.specs.Folded.{kept_since, kept}
use Rattle.hub_story.specs.Answers.{JoinsWhole}
use Rattle.hub_story.proofs.ItemLemmas.{past-append, marks-append, at_whole, has_there, found, found_mark}
use Rattle.hub_story.proofs.WholeLemmas.{Keeps, joins_whole}
use Rattle.turn_lock.proofs.HistoryLemmas.{at_append, at_within}
use Rattle.turn_lock.proofs.AddingLemmas.{at_behind}
use Rattle.hub_shard.specs.declared.answer.OpenRefusal.{OpenRefusal}
use Rattle.hub_shard.specs.declared.answer.OpenRefusal.TheVariants.{GroupsFull, Ids, Memory}
use Rattle.hub_shard.specs.declared.opening.OpenNext.{OpenNext}
use Rattle.hub_shard.specs.declared.shard.Listed.{Listed}
use Rattle.hub_shard.specs.Shards.{ShardView, unlisted, listed_at, group_of, Told, Acted}
use Rattle.hub_shard.specs.Openings.{IsFirst, OpensAs, Opens, gives_open}
use Rattle.hub_shard.proofs.TellLemmas.{IsId, opened_is, opened_among, index_of_id, take_front, acted_none}

-- THE DIRECTORY

-- other ids are open as before
open_else : (id : ℕ) (marks : List Mark) (h : ℕ) → id ≢ h → is_open_id (Opened id ∷ marks) h ≡ is_open_id marks h
open_else id marks h n = elim (eqb_tells id h) [ inl e ↦ absurd (n e.1) | inr e ↦ rw e.0 refl ]

filter_else : (id : ℕ) (marks : List Mark) (ns : List ℕ) → list_any (λ n. n == id) ns ≡ false → filter (is_open_id (Opened id ∷ marks)) ns ≡ filter (is_open_id marks) ns
filter_else id marks [] h = refl
filter_else id marks (n ∷ ns) h =
    let parts = or_parts (n == id) (list_any (λ m. m == id) ns) h in
    let apart : id ≢ n = λ e. let same : (n == id) ≡ true = grind (arith, nat_tests) in let f = sym same ∙ parts.0 in absurd cc in
    let here = open_else id marks n apart in
    let rest = filter_else id marks ns parts.1 in
    elim (cases_Bool (is_open_id marks n)) [ inl t ↦ rw (here, t, rest) refl | inr t ↦ rw (here, t, rest) refl ]

open_more : (id : ℕ) (marks : List Mark) → is_opened_id marks id ≡ false → is_retired_id marks id ≡ false → length (open_ids (Opened id ∷ marks)) ≡ length (open_ids marks) + 1
open_more id marks o r =
    let self : (id == id) ≡ true = grind (arith, nat_tests) in
    let here : is_open_id (Opened id ∷ marks) id ≡ true = rw (self, r) refl in
    let rest = filter_else id marks (opened_ids marks) (sym (opened_among marks id) ∙ o) in
    rw (here, rest) (let e : suc (length (open_ids marks)) ≡ length (open_ids marks) + 1 = omega arith in e)

a_retired : (g : ℕ) (m : Mark) → retires_id g m ≡ true → m ≡ Retired g
a_retired g (Retired h) t = let same : h ≡ g = grind (arith, nat_tests) in ap Retired same
a_retired g (Opened h) t = absurd cc
a_retired g (Missed h) t = absurd cc

-- THE NEXT ID

module _ (x : ShardView) (log : List Item) (t : Told x log) (id : ℕ) (is : id ≡ id_of x.number (length x.groups)) where
  pub new_id : is_opened_id (marks_in log) id ≡ false
  new_id = false_from_ne_true (is_opened_id (marks_in log) id) (λ h.
      let i = opened_is x log id t h in
      let low = i.low in
      let a : index_of id ≡ i.index = ap index_of i.id_is ∙ index_of_id x.number i.index t.small in
      let b : index_of id ≡ length x.groups = ap index_of is ∙ index_of_id x.number (length x.groups) t.small in omega (arith, a, b, low))

  pub no_past : past_in id log ≡ []
  no_past = t.story.unopened id new_id

  pub not_retired : is_retired_id (marks_in log) id ≡ false
  not_retired = false_from_ne_true (is_retired_id (marks_in log) id) (λ h.
      let m = found_mark log (retires_id id) h in
      let there : get_elem? log m.place ≡ some (Marked (Retired id)) = m.at ∙ ap (λ d. some (Marked d)) (a_retired id m.mark m.passes) in
      let f = found id (take m.place log) is_shut (t.story.ended m.place id there) in
      let w = at_whole log m.place f.place (Of id f.entry) f.at in
      let has = has_there id log f.place f.entry is_shut w.1 f.passes in
      let none : list_any is_shut (past_in id log) ≡ false = ap (list_any is_shut) no_past in
      let clash = sym has ∙ none in absurd cc)

  -- as many as were opened
  pub next_is : id ≡ next_id x.number (marks_in log)
  next_is = is ∙ ap (id_of x.number) (t.count ∙ ap (λ m. length (opened_ids m)) t.marks_are)

-- THE HISTORY

abbrev pub opening : ℕ → List Item
opening id = Marked (Opened id) ∷ Of id (Join 1) ∷ []

past_opening : (id : ℕ) → past_in id (opening id) ≡ Join 1 ∷ []
past_opening id = let self : (id == id) ≡ true = grind (arith, nat_tests) in rw self refl

past_opening_else : (id h : ℕ) → id ≢ h → past_in h (opening id) ≡ []
past_opening_else id h n = elim (eqb_tells id h) [ inl e ↦ absurd (n e.1) | inr e ↦ rw e.0 refl ]

no_retired_opening : (id k g : ℕ) → get_elem? (opening id) k ≡ some (Marked (Retired g)) → ⊥
no_retired_opening id zero g at = let same : Marked (Opened id) ≡ Marked (Retired g) = some-injective (Marked (Opened id)) (Marked (Retired g)) at in absurd cc
no_retired_opening id (suc zero) g at = let same : Of id (Join 1) ≡ Marked (Retired g) = some-injective (Of id (Join 1)) (Marked (Retired g)) at in absurd cc
no_retired_opening id (suc (suc k)) g at = absurd (some-ne-none (Marked (Retired g)) (sym at))

module _ (boot s id : ℕ) (log : List Item) (t : IsStory boot s log) (o : is_opened_id (marks_in log) id ≡ false) (r : is_retired_id (marks_in log) id ≡ false) (few : length (open_ids (marks_in log)) < 64)
    (is : id ≡ id_of s (length (opened_ids (marks_in log)))) (snd : IsSound (since (home_of boot id) empty_base (Join 1 ∷ []))) where
  abbrev pub log' : List Item
  log' = log ++ opening id

  pub marks_opened : marks_in log' ≡ Opened id ∷ marks_in log
  marks_opened = marks-append log (opening id)

  pub past_id : past_in id log' ≡ Join 1 ∷ []
  past_id = past-append id log (opening id) ∙ (λ k. past_opening id k ++ t.unopened id o k)

  pub past_other : (h : ℕ) → id ≢ h → past_in h log' ≡ past_in h log
  past_other h n = past-append h log (opening id) ∙ ap (λ l. l ++ past_in h log) (past_opening_else id h n)

  pub story_opened : IsStory boot s log'
  story_opened = record {
    begins = (t.begins.0 ++ opening id, ap (λ l. l ++ opening id) t.begins.1);
    sound = λ h. elim (eqb_tells id h) [
      | inl same ↦ subst (λ (n : ℕ). IsSound (journal_in boot n log')) same.1 (subst (λ l. IsSound (since (home_of boot id) empty_base l)) (sym past_id) snd)
      | inr apart ↦ subst (λ l. IsSound (since (home_of boot h) empty_base l)) (sym (past_other h apart.1)) (t.sound h)
    ];
    ids = subst (λ m. opened_ids m ≡ first_ids s (length (opened_ids m))) (sym marks_opened) (λ k. is k ∷ t.ids k);
    few = subst (λ m. length (open_ids m) ≤ 64) (sym marks_opened) (let e = open_more id (marks_in log) o r in omega arith);
    unopened = λ h no.
        let not_it : ((id == h) || is_opened_id (marks_in log) h) ≡ false = ap (λ m. is_opened_id m h) (sym marks_opened) ∙ no in
        elim (eqb_tells id h) [
          | inl same ↦ absurd (let f : ((id == h) || is_opened_id (marks_in log) h) ≡ true = rw same.0 refl in let c = sym f ∙ not_it in cc)
          | inr apart ↦ past_other h apart.1 ∙ t.unopened h (rw apart.0 at not_it)
        ];
    joined = λ h yes.
        let it_or_one : ((id == h) || is_opened_id (marks_in log) h) ≡ true = ap (λ m. is_opened_id m h) (sym marks_opened) ∙ yes in
        elim (eqb_tells id h) [
          | inl same ↦ subst (λ (n : ℕ). list_any is_join (past_in n log') ≡ true) same.1 (ap (list_any is_join) past_id)
          | inr apart ↦ ap (list_any is_join) (past_other h apart.1) ∙ t.joined h (rw apart.0 at it_or_one)
        ];
    ended = λ q h at. dite (dec_lt q (length log))
        (λ low. ap (λ l. list_any is_shut (past_in h l)) (take_front log (opening id) q low) ∙ t.ended q h (sym (at_append log (opening id) q low) ∙ at))
        (λ high. absurd (no_retired_opening id (q - length log) h
        (sym (at_behind log (opening id) (q - length log)) ∙ (ap (get_elem? log') (let e : length log + (q - length log) ≡ q = omega arith in e) ∙ at))));
  }

-- THE ACT

behind_low : (ls : List Listed) (l : Listed) (i : ℕ) → i < length ls → slice_index_or (ls ++ l ∷ []) i unlisted ≡ slice_index_or ls i unlisted
behind_low [] l i low = absurd (omega arith)
behind_low (x ∷ ls) l zero low = refl
behind_low (x ∷ ls) l (suc i) low = behind_low ls l i (omega arith)

behind_last : (ls : List Listed) (l : Listed) (i : ℕ) → i ≡ length ls → slice_index_or (ls ++ l ∷ []) i unlisted ≡ l
behind_last [] l zero e = refl
behind_last [] l (suc i) e = absurd (omega arith)
behind_last (x ∷ ls) l zero e = absurd (omega arith)
behind_last (x ∷ ls) l (suc i) e = behind_last ls l i (omega arith)

first_keeps : (home : Home) (l : Listed) → (f : IsFirst home l) → Keeps home [] l.group (λ j k. JoinsWhole j (Ok f.conn) k)
first_keeps home l f = joins_whole home [] (Ok f.conn) l.group (empty_sound home) refl f.joins f.sound

-- it is connection 1 that joined
first_is : (home : Home) (l : Listed) (f : IsFirst home l) (k : Keeps home [] l.group (λ j m. JoinsWhole j (Ok f.conn) m)) → k.es ≡ Join 1 ∷ []
first_is home l f k =
    let one : f.conn ≡ 1 = k.answers.1 in
    append_cancel_right k.es (Join 1 ∷ []) [] (ap (λ (z : History). z.past) k.answers.2 ∙ ap (λ c. Join c ∷ []) one)

acted_opened : (a : OpenNext) (x y : ShardView) (log : List Item) (id : ℕ) → Told x log → OpensAs x id y → Acted x y log 2 (gives_open a x.boot x.number log (Ok id))
acted_opened a x y log id t o =
    let home = home_of x.boot id in
    let k = first_keeps home o.listed o.first in
    let es = first_is home o.listed o.first k in
    let new = new_id x log t id o.id_is in
    let live = not_retired x log t id o.id_is in
    let next = next_is x log t id o.id_is in
    let count : length (opened_ids (marks_in log)) ≡ length x.groups = ap (λ m. length (opened_ids m)) (sym t.marks_are) ∙ sym t.count in
    let opens_ : length (open_ids (marks_in log)) ≡ x.open_groups = ap (λ m. length (open_ids m)) (sym t.marks_are) ∙ sym t.open_is in
    let room = o.room in
    let few : length (open_ids (marks_in log)) < 64 = omega arith in
    let small = o.small in
    let sound : IsSound (since home empty_base (Join 1 ∷ [])) = subst (λ l. IsSound (since home empty_base l)) (append-nil (Join 1 ∷ [])) (subst (λ l. IsSound (since home empty_base (l ++ []))) es k.sound) in
    let marks = marks_opened x.boot x.number id log t.story new live few next sound in
    let mine : o.listed.group ≡ kept_since home (Join 1 ∷ []) = k.kept_is ∙ ap (λ l. kept_since home (l ++ [])) es in
    let long : 1 ≤ length o.listed.group.past = let n = k.new_is in let m : length k.es ≡ 1 = ap length es in omega arith in
    let at_last : (i : ℕ) → i ≡ length x.groups → id_of x.number i ≡ id = λ i e. ap (id_of x.number) e ∙ sym o.id_is in
    let index : index_of id ≡ length x.groups = ap index_of o.id_is ∙ index_of_id x.number (length x.groups) t.small in
    subst (λ z. Acted x z log 2 (gives_open a x.boot x.number log (Ok id))) (sym o.is) (record {
      more = opening id;
      count = refl;
      newest = λ g. elim (eqb_tells id g) [
        | inl same ↦ subst (λ (n : ℕ). length (past_in n (opening id)) ≤ length (slice_index_or (x.groups ++ o.listed ∷ []) (index_of n) unlisted).group.past) same.1
            (subst (λ l. length l ≤ length (slice_index_or (x.groups ++ o.listed ∷ []) (index_of id) unlisted).group.past) (sym (past_opening id))
            (subst (λ (z : Listed). 1 ≤ length z.group.past) (sym (behind_last x.groups o.listed (index_of id) index)) long))
        | inr apart ↦ subst (λ l. length l ≤ length (slice_index_or (x.groups ++ o.listed ∷ []) (index_of g) unlisted).group.past) (sym (past_opening_else id g apart.1)) (omega arith)
      ];
      told = record {
        story = story_opened x.boot x.number id log t.story new live few next sound;
        small = t.small;
        marks_are = ap (λ m. Opened id ∷ m) t.marks_are ∙ sym marks;
        count = let c = t.count in omega (arith, c, length-append x.groups (o.listed ∷ []));
        open_is = ap (λ n. n + 1) (sym opens_) ∙ (sym (open_more id (marks_in log) new live) ∙ ap (λ m. length (open_ids (Opened id ∷ m))) (sym t.marks_are));
        groups_are = λ i low. dite (dec_lt i (length x.groups))
            (λ less. ap (λ (z : Listed). z.group) (behind_low x.groups o.listed i less) ∙ (t.groups_are i less ∙ ap (kept_since (home_of x.boot (id_of x.number i))) (sym (past_other x.boot x.number id log t.story new live few next sound (id_of x.number i)
            (λ e. let a : index_of id ≡ i = ap index_of e ∙ index_of_id x.number i t.small in omega (arith, a, index, less))))))
            (λ more. let last : i ≡ length x.groups = omega (arith, low, more, length-append x.groups (o.listed ∷ [])) in
            ap (λ (z : Listed). z.group) (behind_last x.groups o.listed i last) ∙ (mine ∙ (ap (kept_since home) (sym (past_id x.boot x.number id log t.story new live few next sound)) ∙ ap (λ n. kept (journal_in x.boot n (log ++ opening id))) (sym (at_last i last)))));
        flags_are = λ i low. dite (dec_lt i (length x.groups))
            (λ less. ap (λ (z : Listed). z.retired) (behind_low x.groups o.listed i less) ∙ t.flags_are i less)
            (λ more. let last : i ≡ length x.groups = omega (arith, low, more, length-append x.groups (o.listed ∷ [])) in
            ap (λ (z : Listed). z.retired) (behind_last x.groups o.listed i last) ∙ (o.first.flag ∙ (sym live ∙ (λ j. is_retired_id (sym t.marks_are j) (sym (at_last i last) j)))));
      };
      gives = (grind (arith, nat_tests), grind (arith, nat_tests), next, new, refl, refl, past_opening id);
    })

abbrev pub open_count : Result ℕ OpenRefusal → ℕ
open_count (Ok id) = 2
open_count (Err e) = 0

pub acts_open : (a : OpenNext) (x y : ShardView) (log : List Item) (r : Result ℕ OpenRefusal) (n : ℕ) → Told x log → Opens x r y → n ≡ open_count r → Acted x y log n (gives_open a x.boot x.number log r)
acts_open a x y log (Ok id) n t o e = subst (λ k. Acted x y log k (gives_open a x.boot x.number log (Ok id))) (sym e) (acted_opened a x y log id t o)
acts_open a x y log (Err GroupsFull) n t o e =
    let opens_ : length (open_ids (marks_in log)) ≡ x.open_groups = ap (λ m. length (open_ids m)) (sym t.marks_are) ∙ sym t.open_is in
    let full = o.0 in
    subst (λ k. Acted x y log k (gives_open a x.boot x.number log (Err GroupsFull))) (sym e)
    (subst (λ z. Acted x z log 0 (gives_open a x.boot x.number log (Err GroupsFull))) (sym o.1) (acted_none x log (gives_open a x.boot x.number log (Err GroupsFull)) t (grind (arith, nat_tests), refl)))
acts_open a x y log (Err Ids) n t o e =
    let opens_ : length (open_ids (marks_in log)) ≡ x.open_groups = ap (λ m. length (open_ids m)) (sym t.marks_are) ∙ sym t.open_is in
    let count : length (opened_ids (marks_in log)) ≡ length x.groups = ap (λ m. length (opened_ids m)) (sym t.marks_are) ∙ sym t.count in
    let room = o.0 in
    let used = o.1 in
    subst (λ k. Acted x y log k (gives_open a x.boot x.number log (Err Ids))) (sym e)
    (subst (λ z. Acted x z log 0 (gives_open a x.boot x.number log (Err Ids))) (sym o.2) (acted_none x log (gives_open a x.boot x.number log (Err Ids)) t (grind (arith, nat_tests), grind (arith, nat_tests), refl)))
acts_open a x y log (Err Memory) n t o e =
    subst (λ k. Acted x y log k (gives_open a x.boot x.number log (Err Memory))) (sym e)
    (subst (λ z. Acted x z log 0 (gives_open a x.boot x.number log (Err Memory))) (sym o) (acted_none x log (gives_open a x.boot x.number log (Err Memory)) t refl))
