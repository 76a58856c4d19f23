-- No two connections of a round have the same Join.
use Rattle.std.proofs.Common.{◌≡◌, ◌⊎◌, ◌∙◌, ◌+◌, ◌<◌, ◌≤◌, ℕ, Bool, true, false, not, Some, List, [], ◌∷◌, ◌++◌, refl, sym, ap, subst, arith, inl, inr, filter}
use Rattle.std.specs.List.{list_any, flat_map, AllByRecursion}
use mathlib.Core.Option.{some}
use lib.ListN.{get_elem?}
use Rattle.rpc_outside.specs.Links.{Shown}
use Rattle.rpc_outside.specs.Doors.{DoorShown}
use Rattle.turn_lock.specs.Histories.{times, StartsWith, AtMostOnce}
use Rattle.turn_lock.proofs.HistoryLemmas.{times-append, at_append, at_within}
use Rattle.handle_model.specs.declared.entry.Entry.{Entry}
use Rattle.handle_model.specs.Entries.{is_shut}
use Rattle.handle_model.specs.Journal.{leaves}
use Rattle.ndr_table.specs.Tables.{TableForm}
use Rattle.manager_api.specs.Answers.{Ans}
use Rattle.manager_api.specs.Calls.{Call}
use Rattle.hub_story.specs.declared.item.Item.{Item}
use Rattle.hub_story.specs.declared.item.Item.TheVariants.{Of}
use Rattle.hub_story.specs.Histories.{past_in}
use Rattle.hub_story.proofs.ItemLemmas.{Found, found}
use Rattle.hub_story.proofs.PlaceLemmas.{one_place}
use Rattle.group_hub.specs.declared.hub.Hub.{Hub}
use Rattle.group_hub.specs.declared.pass.Pass.{Pass}
use Rattle.group_hub.specs.Shards.{shard_of}
use Rattle.group_hub.specs.Passes.{at_shard, IsPassOf}
use Rattle.group_hub.proofs.ListLemmas.{some_item}
use Rattle.server_ends.specs.Finishes.{AsMember, FinishesAs}
use Rattle.server_rounds.specs.declared.settled.Settled.{Settled}
use Rattle.server_rounds.specs.declared.round.Round.{Round}
use Rattle.server_rounds.specs.Passes.{StartsFrom}
use Rattle.server_rounds.specs.Served.{IsSettled, finished_of}
use Rattle.server_rounds.specs.Rounds.{IsRound, passes}
use Rattle.server_rounds.specs.Endings.{HasConn}
use Rattle.server_command.specs.Groups.{AreApart}
use Rattle.server_command.proofs.PrintedJournals.{any_kept}
use Rattle.server_command.proofs.Groups.{low_shard, sound_in}
use Rattle.server_command.proofs.Leaves.{story_leaves, left_once, OwnPlace, own_place}

-- the Leave of a connection at an own place of its pass
record LeftAt (g c : ℕ) (q : Pass) : Type 0 where
  pub entry : Entry
  pub leaves_it : leaves c entry ≡ true
  pub there : OwnPlace (at_shard q (shard_of g)).log (at_shard q (shard_of g)).own (Of g entry)

in_longer : {E : Type 0} (log early : List E) (n : ℕ) (e : E) → StartsWith log early → get_elem? early n ≡ some e → get_elem? log n ≡ some e
in_longer log early n e starts at = ap (λ l. get_elem? l n) starts.1 ∙ at_append early starts.0 n (at_within early n e at) ∙ at

module _ {K : Type 0} (shows : K → Shown) (may : Call → Bool → Ans → Type 0) (tables : List TableForm) (h : Hub) where
  member_left : (first p : Pass) (a : Shown) (g c : ℕ) (x : Settled K) → StartsFrom first p → AsMember shows may tables h.boot p a g c (finished_of x) → LeftAt g c x.pass.value
  member_left first p a g c x from m =
      let own : list_any (leaves c) m.mine ≡ true = any_kept (leaves c) (λ e. not (is_shut e)) m.mine (subst (λ l. list_any (leaves c) l ≡ true) (sym m.story.made.entries) (story_leaves c m.turns)) in
      let f = found g m.items (leaves c) (subst (λ l. list_any (leaves c) l ≡ true) (sym m.own) own) in
      let o = m.grown.owns in
      let places : (at_shard x.pass.value (shard_of g)).own ≡ o.0 = o.1 ∙ ap (λ l. l ++ o.0) (from.none (shard_of g) (low_shard g)) in
      let at = own_place (at_shard x.pass.value (shard_of g)).log o.0 m.items f.place (Of g f.entry) o.2 f.at in
      record { entry = f.entry; leaves_it = f.passes; there = subst (λ ps. OwnPlace (at_shard x.pass.value (shard_of g)).log ps (Of g f.entry)) (sym places) at }

  settled_left : (first : Pass) (g c : ℕ) (x : Settled K) → IsSettled shows may tables h first x → x.joined ≡ Some (g, c) → LeftAt g c x.pass.value
  settled_left first g c x s is =
      member_left first x.began.value (shows x.came.value) g c x s.starts
      (subst (λ o. FinishesAs shows may tables h.boot o x.began.value (shows x.came.value) (finished_of x)) is s.served.finishes)

  -- one of these that joined so has it at a place of its own, which is one of all their places
  record LeftAmong (g c : ℕ) (r : Pass) (xs : List (Settled K)) : Type 0 where
    pub place : ℕ
    pub entry : Entry
    pub leaves_it : leaves c entry ≡ true
    pub own : 0 < times place (flat_map (λ o. (at_shard o (shard_of g)).own) (passes xs))
    pub at : get_elem? (at_shard r (shard_of g)).log place ≡ some (Of g entry)

  left_among : (first r : Pass) (g c : ℕ) (xs : List (Settled K)) → AllByRecursion (IsSettled shows may tables h first) xs
      → AllByRecursion (λ o. StartsWith (at_shard r (shard_of g)).log (at_shard o (shard_of g)).log) (passes xs) → HasConn g c xs → LeftAmong g c r xs
  left_among first r g c [] s f has = absurd has
  left_among first r g c (x ∷ xs) s f (inl is) =
      let l = settled_left first g c x s.0 is in
      let all = times-append l.there.place (at_shard x.pass.value (shard_of g)).own (flat_map (λ o. (at_shard o (shard_of g)).own) (passes xs)) in
      let own = l.there.own in
      record {
        place = l.there.place;
        entry = l.entry;
        leaves_it = l.leaves_it;
        own = omega (arith, all, own);
        at = in_longer (at_shard r (shard_of g)).log (at_shard x.pass.value (shard_of g)).log l.there.place (Of g l.entry) f.0 l.there.at;
      }
  left_among first r g c (x ∷ xs) s f (inr has) =
      let l = left_among first r g c xs s.1 f.1 has in
      let all = times-append l.place (at_shard x.pass.value (shard_of g)).own (flat_map (λ o. (at_shard o (shard_of g)).own) (passes xs)) in
      let own = l.own in
      record { place = l.place; entry = l.entry; leaves_it = l.leaves_it; own = omega (arith, all, own); at = l.at }

  -- two of these would have one place
  twice : (first r : Pass) (g c : ℕ) (x : Settled K) (xs : List (Settled K)) → IsPassOf h r → AllByRecursion (IsSettled shows may tables h first) (x ∷ xs)
      → AllByRecursion (λ o. StartsWith (at_shard r (shard_of g)).log (at_shard o (shard_of g)).log) (passes (x ∷ xs))
      → ((n : ℕ) → times n (flat_map (λ o. (at_shard o (shard_of g)).own) (passes (x ∷ xs))) ≤ 1) → x.joined ≡ Some (g, c) → HasConn g c xs → ⊥
  twice first r g c x xs of s f once is has =
      let l = settled_left first g c x s.0 is in
      let m = left_among first r g c xs s.1 f.1 has in
      let log = (at_shard r (shard_of g)).log in
      let at = in_longer log (at_shard x.pass.value (shard_of g)).log l.there.place (Of g l.entry) f.0 l.there.at in
      let same : l.there.place ≡ m.place = one_place g log (leaves c) l.there.place m.place l.entry m.entry (left_once _ (past_in g log) c (sound_in h r g of).legal) at l.leaves_it m.at m.leaves_it in
      let all = times-append m.place (at_shard x.pass.value (shard_of g)).own (flat_map (λ o. (at_shard o (shard_of g)).own) (passes xs)) in
      let most = once m.place in
      let one : 0 < times m.place (at_shard x.pass.value (shard_of g)).own = subst (λ n. 0 < times n (at_shard x.pass.value (shard_of g)).own) same l.there.own in
      let two = m.own in
      absurd (omega (arith, all, most, one, two))

  rest_once : (a b n : ℕ) → a + b ≤ 1 → b ≤ 1
  rest_once a b n h = omega (arith, h)

  all_apart : (first r : Pass) (xs : List (Settled K)) → IsPassOf h r → AllByRecursion (IsSettled shows may tables h first) xs
      → ((g : ℕ) → AllByRecursion (λ o. StartsWith (at_shard r (shard_of g)).log (at_shard o (shard_of g)).log) (passes xs))
      → ((g n : ℕ) → times n (flat_map (λ o. (at_shard o (shard_of g)).own) (passes xs)) ≤ 1) → AreApart xs
  all_apart first r [] of s f once = tt
  all_apart first r (x ∷ xs) of s f once = (
    λ g c is has. twice first r g c x xs of s (f g) (once g) is has,
    all_apart first r xs of s.1 (λ g. (f g).1)
        (λ g n. let all = times-append n (at_shard x.pass.value (shard_of g)).own (flat_map (λ o. (at_shard o (shard_of g)).own) (passes xs)) in let most = once g n in omega (arith, all, most)),
  )

  own_once : (r : Pass) (g : ℕ) → IsPassOf h r → AtMostOnce (at_shard r (shard_of g)).own
  own_once r g of =
      let l = some_item h.shards.items (shard_of g) (subst (λ n. shard_of g < n) (sym h.whole.count) (low_shard g)) in
      (of.each (shard_of g) l.0 (low_shard g) l.1).once

  pub apart : (first : Pass) (a b : DoorShown K) (most : ℕ) (r : Round K) → IsPassOf h r.pass → IsRound shows may tables h first a most r b → AreApart r.finished.items
  apart first a b most r of round =
      all_apart first r.pass r.finished.items of round.settled (λ g. round.takes.theirs (shard_of g) (low_shard g))
      (λ g n. let is = ap (times n) (round.takes.own (shard_of g) (low_shard g)) in
      let all = times-append n (at_shard first (shard_of g)).own (flat_map (λ o. (at_shard o (shard_of g)).own) (passes r.finished.items)) in
      let most = own_once r.pass g of n in omega (arith, is, all, most))
