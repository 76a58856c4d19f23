-- Each connection that joined a group has its Join in a printed journal.
use Rattle.std.proofs.Common.{◌≡◌, ◌⊎◌, ◌∙◌, ◌==◌, ◌<◌, ◌≤◌, ◌+◌, ◌^◌, ℕ, zero, suc, Bool, true, false, Some, List, [], ◌∷◌, refl, sym, ap, subst, arith, inl, inr, true≢false, map}
use Rattle.std.specs.List.{list_any, AllByRecursion}
use Rattle.std.proofs.lemmas.Bool.{cases_Bool, eqb-true}
use mathlib.Core.Logic.{dite}
use native.Mathlib.Decide.{dec_lt}
use Rattle.rpc_outside.specs.Links.{Shown}
use Rattle.rpc_outside.specs.Doors.{DoorShown}
use Rattle.turn_lock.specs.Histories.{StartsWith}
use Rattle.handle_model.specs.declared.entry.Entry.{Entry}
use Rattle.handle_model.specs.History.{History}
use Rattle.handle_model.specs.Journal.{Legal, joins}
use Rattle.handle_model.proofs.Held.{or_right, or_cases}
use Rattle.journal_tables.proofs.Numbers.{holds_joins}
use Rattle.ndr_table.specs.Tables.{TableForm}
use Rattle.manager_api.specs.Answers.{Ans}
use Rattle.manager_api.specs.Calls.{Call}
use Rattle.hub_story.specs.declared.item.Item.{Item}
use Rattle.hub_story.specs.Directories.{opened_ids, is_opened_id, id_of, first_ids}
use Rattle.hub_story.specs.Histories.{marks_in, past_in, home_of, IsStory}
use Rattle.hub_story.specs.Folded.{kept_since}
use Rattle.hub_story.proofs.FoldLemmas.{kept_folds}
use Rattle.hub_shard.proofs.TellLemmas.{opened_among}
use Rattle.group_hub.specs.declared.hub.Hub.{Hub}
use Rattle.group_hub.specs.declared.pass.Pass.{Pass}
use Rattle.group_hub.specs.Shards.{shard_of}
use Rattle.group_hub.specs.Passes.{at_shard, IsPassOf}
use Rattle.group_hub.proofs.ListLemmas.{some_item}
use Rattle.conn_histories.specs.Tales.{whole}
use Rattle.server_rounds.specs.declared.settled.Settled.{Settled}
use Rattle.server_rounds.specs.declared.round.Round.{Round}
use Rattle.server_rounds.specs.Served.{AreNumbers, IsSettled}
use Rattle.server_rounds.specs.Rounds.{IsRound, passes}
use Rattle.server_command.specs.Logs.{Copy, IsCopy, Logs, IsOpened, SeesOn, ids_of, journal_of, front_at}
use Rattle.server_command.specs.Groups.{HasCopy, HasJoin, IsLogged}
use Rattle.server_command.proofs.Groups.{low_shard, later, conn_joined}

-- ---- a group with an entry was opened, and its id is at least 1

pub story_of : (h : Hub) (p : Pass) (g : ℕ) → IsPassOf h p → IsStory h.boot (shard_of g) (front_at p g)
story_of h p g of =
    let l = some_item h.shards.items (shard_of g) (subst (λ n. shard_of g < n) (sym h.whole.count) (low_shard g)) in
    (of.each (shard_of g) l.0 (low_shard g) l.1).story

has_opened : (boot s g : ℕ) (p : Entry → Bool) (log : List Item) → IsStory boot s log → list_any p (past_in g log) ≡ true → is_opened_id (marks_in log) g ≡ true
has_opened boot s g p log t h = elim (cases_Bool (is_opened_id (marks_in log) g)) [
  | inl y ↦ y
  | inr n ↦ absurd (true≢false (sym h ∙ ap (list_any p) (t.unopened g n)))
]

one_first : (s n g : ℕ) → list_any (λ m. m == g) (first_ids s n) ≡ true → 1 ≤ g
one_first s zero g h = absurd (true≢false (sym h))
one_first s (suc n) g h = elim (or_cases (id_of s n == g) (list_any (λ m. m == g) (first_ids s n)) h) [
  | inl e ↦ let same = eqb-true (id_of s n) g e in omega (arith, same)
  | inr r ↦ one_first s n g r
]

one_opened : (boot s g : ℕ) (log : List Item) → IsStory boot s log → is_opened_id (marks_in log) g ≡ true → 1 ≤ g
one_opened boot s g log t there = one_first s _ g (ap (list_any (λ m. m == g)) (sym t.ids) ∙ (sym (opened_among (marks_in log) g) ∙ there))

-- ---- the copy of a group

pub find_copy : (g : ℕ) (P : Copy → Type 0) (copies : List Copy) → AllByRecursion (λ copy. copy.id ≡ g → P copy) copies → list_any (λ h. h == g) (ids_of copies) ≡ true → HasCopy g P copies
find_copy g P [] all h = absurd (true≢false (sym h))
find_copy g P (copy ∷ more) all h = elim (or_cases (copy.id == g) (list_any (λ h. h == g) (ids_of more)) h) [
  | inl e ↦ let same = eqb-true copy.id g e in inl (same, all.0 same)
  | inr r ↦ inr (find_copy g P more all.1 r)
]

has_join : (boot g c : ℕ) (log : List Item) → IsStory boot (shard_of g) log → list_any (joins c) (past_in g log) ≡ true → HasJoin (kept_since (home_of boot g) (past_in g log)) c
has_join boot g c log t h =
    let j : History = whole (home_of boot g) (past_in g log) in
    let x : History = kept_since (home_of boot g) (past_in g log) in
    let legal = (t.sound g).legal in
    dite (dec_lt x.base.joins c) (λ less. inl ((holds_joins x j c legal (inr refl) (kept_folds (home_of boot g) (past_in g log) legal)).1 (h, less))) (λ d. inr (omega (arith, d)))

module _ {K : Type 0} (shows : K → Shown) (may : Call → Bool → Ans → Type 0) (tables : List TableForm) (h : Hub) where
  copy_has : (p q : Pass) (g c : ℕ) (copies : List Copy) → AllByRecursion (IsCopy h.boot p q) copies → list_any (joins c) (past_in g (front_at p g)) ≡ true
      → AllByRecursion (λ copy. copy.id ≡ g → HasJoin (journal_of h.boot copy) c) copies
  copy_has p q g c [] each had = tt
  copy_has p q g c (copy ∷ more) each had = (
    λ e. let there = later (joins c) copy.id (front_at p copy.id) copy.front each.0.starts (subst (λ x. list_any (joins c) (past_in x (front_at p x)) ≡ true) (sym e) had) in
        has_join h.boot copy.id c copy.front each.0.story there,
    copy_has p q g c more each.1 had,
  )

  -- the journal of a group with an entry is printed
  pub among : (p last : Pass) (g : ℕ) (test : Entry → Bool) (text : List ℕ) (l : Logs h.boot p last [] text) → IsPassOf h last → g < 2 ^ 32 → list_any test (past_in g (front_at p g)) ≡ true
      → list_any (λ h. h == g) (ids_of l.copies) ≡ true
  among p last g test text l of low had =
      let story = story_of h last g of in
      let now = later test g (front_at p g) (front_at last g) (l.sees (shard_of g) (low_shard g)) had in
      let opened = has_opened h.boot (shard_of g) g test (front_at last g) story now in
      l.all g (one_opened h.boot (shard_of g) g (front_at last g) story opened) low opened

  logged_one : (p : Pass) (last : Pass) (g c : ℕ) (text : List ℕ) (l : Logs h.boot p last [] text) → IsPassOf h last → g < 2 ^ 32 → list_any (joins c) (past_in g (front_at p g)) ≡ true
      → HasCopy g (λ copy. HasJoin (journal_of h.boot copy) c) l.copies
  logged_one p last g c text l of low had =
      find_copy g (λ copy. HasJoin (journal_of h.boot copy) c) l.copies (copy_has p last g c l.copies l.each had) (among p last g (joins c) text l of low had)

  all_logged : (first p last : Pass) (xs : List (Settled K)) (text : List ℕ) (l : Logs h.boot p last [] text) → IsPassOf h last → AllByRecursion (IsSettled shows may tables h first) xs
      → ((g : ℕ) → AllByRecursion (λ o. StartsWith (at_shard p (shard_of g)).log (at_shard o (shard_of g)).log) (passes xs)) → AllByRecursion (IsLogged h.boot l.copies) xs
  all_logged first p last [] text l of s f = tt
  all_logged first p last (x ∷ xs) text l of s f = (
    λ g c is. logged_one p last g c text l of (subst AreNumbers is s.0.numbers).0 (conn_joined shows may tables h first p g c (x ∷ xs) s (f g) (inl is)),
    all_logged first p last xs text l of s.1 (λ g. (f g).1),
  )

  pub logged : (first last : Pass) (a b : DoorShown K) (most : ℕ) (r : Round K) (text : List ℕ) (l : Logs h.boot r.pass last [] text) → IsPassOf h last → IsRound shows may tables h first a most r b
      → AllByRecursion (IsLogged h.boot l.copies) r.finished.items
  logged first last a b most r text l of round = all_logged first r.pass last r.finished.items text l of round.settled (λ g. round.takes.theirs (shard_of g) (low_shard g))
