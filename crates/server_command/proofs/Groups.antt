-- The journals that are printed, and the connections of the round.
use Rattle.std.proofs.Common.{◌≡◌, ◌⊎◌, ◌∙◌, ◌<◌, ℕ, Bool, true, false, Some, List, [], ◌∷◌, ◌++◌, refl, sym, ap, subst, arith, inl, inr, true≢false}
use Rattle.std.specs.List.{list_any, filter, AllByRecursion}
use Rattle.rpc_outside.specs.Links.{Shown}
use Rattle.rpc_outside.specs.Doors.{DoorShown}
use Rattle.turn_lock.specs.Histories.{StartsWith}
use Rattle.handle_model.specs.declared.entry.Entry.{Entry}
use Rattle.handle_model.specs.declared.entry.Entry.TheVariants.{Join, Leave}
use Rattle.handle_model.specs.History.{IsSound}
use Rattle.handle_model.specs.Journal.{joins, is_join, is_shut}
use Rattle.ndr_table.specs.Tables.{TableForm}
use Rattle.manager_api.specs.Answers.{Ans}
use Rattle.manager_api.specs.Calls.{Call}
use Rattle.hub_story.specs.declared.item.Item.{Item}
use Rattle.hub_story.specs.Histories.{past_in, home_of, journal_in}
use Rattle.hub_story.proofs.ItemLemmas.{past-append}
use Rattle.group_hub.specs.declared.hub.Hub.{Hub}
use Rattle.group_hub.specs.declared.pass.Pass.{Pass}
use Rattle.group_hub.specs.Shards.{shard_of}
use Rattle.group_hub.specs.Passes.{at_shard, IsPassOf}
use Rattle.group_hub.proofs.ListLemmas.{some_item}
use Rattle.conn_histories.specs.Tales.{whole, of_conn}
use Rattle.server_ends.specs.Finishes.{AsMember, FinishesAs}
use Rattle.server_rounds.specs.declared.settled.Settled.{Settled}
use Rattle.server_rounds.specs.declared.round.Round.{Round}
use Rattle.server_rounds.specs.Served.{IsSettled, finished_of}
use Rattle.server_rounds.specs.Rounds.{IsRound, passes}
use Rattle.server_rounds.specs.Endings.{HasConn, IsThere}
use Rattle.server_rounds.proofs.Groups.{groups_end}
use Rattle.server_command.specs.Logs.{Copy, IsCopy, front_at}
use Rattle.server_command.specs.Groups.{printed_past, EndsWithShut, EndsIfOurs}
use Rattle.server_command.proofs.PrintedJournals.{there, any_kept, shut_ends}
use Rattle.server_command.proofs.Names.{same_number, named}

pub low_shard : (g : ℕ) → shard_of g < 16
low_shard g = omega arith

-- the journals of a pass of the hub are legal and settled
pub sound_in : (h : Hub) (p : Pass) (g : ℕ) → IsPassOf h p → IsSound (whole (home_of h.boot g) (past_in g (at_shard p (shard_of g)).log))
sound_in h p g of =
    let l = some_item h.shards.items (shard_of g) (subst (λ n. shard_of g < n) (sym h.whole.count) (low_shard g)) in
    (of.each (shard_of g) l.0 (low_shard g) l.1).story.sound g

-- what a longer history says of a group
pub later : (p : Entry → Bool) (g : ℕ) (early log : List Item) → StartsWith log early → list_any p (past_in g early) ≡ true → list_any p (past_in g log) ≡ true
later p g early log starts h =
    subst (λ l. list_any p l ≡ true) (sym (ap (past_in g) starts.1 ∙ past-append g early starts.0)) (there p (past_in g starts.0) (past_in g early) h)

joined_kept : (c : ℕ) (past : List Entry) → filter (of_conn c) past ≡ Leave c ∷ Join c ∷ [] → list_any (joins c) past ≡ true
joined_kept c past e = any_kept (joins c) (of_conn c) past (subst (λ l. list_any (joins c) l ≡ true) (sym e) (both c))
  where
    both : (c : ℕ) → list_any (joins c) (Leave c ∷ Join c ∷ []) ≡ true
    both c = rw (same_number c) refl

-- a Join is that of some connection
some_join : (past : List Entry) → list_any is_join past ≡ true → (c : ℕ) × (list_any (joins c) past ≡ true)
some_join [] h = absurd (true≢false (sym h))
some_join (Join c ∷ past) h = (c, rw (same_number c) refl)
some_join (_ ∷ past) h = some_join past h

module _ {K : Type 0} (shows : K → Shown) (may : Call → Bool → Ans → Type 0) (tables : List TableForm) (h : Hub) where
  -- a connection of a group has its Join in the group's journal
  pub member_joined : (p : Pass) (a : Shown) (g c : ℕ) (x : Settled K) → AsMember shows may tables h.boot p a g c (finished_of x)
      → list_any (joins c) (past_in g (at_shard x.pass.value (shard_of g)).log) ≡ true
  member_joined p a g c x m = joined_kept c (past_in g (at_shard x.pass.value (shard_of g)).log) m.story.made.conns

  settled_joined : (p : Pass) (g c : ℕ) (x : Settled K) → IsSettled shows may tables h p x → x.joined ≡ Some (g, c)
      → list_any (joins c) (past_in g (at_shard x.pass.value (shard_of g)).log) ≡ true
  settled_joined p g c x s is =
      member_joined x.began.value (shows x.came.value) g c x
      (subst (λ o. FinishesAs shows may tables h.boot o x.began.value (shows x.came.value) (finished_of x)) is s.served.finishes)

  -- a connection of the round has its Join in its group's journal
  pub conn_joined : (p q : Pass) (g c : ℕ) (xs : List (Settled K)) → AllByRecursion (IsSettled shows may tables h p) xs
      → AllByRecursion (λ o. StartsWith (at_shard q (shard_of g)).log (at_shard o (shard_of g)).log) (passes xs) → HasConn g c xs
      → list_any (joins c) (past_in g (at_shard q (shard_of g)).log) ≡ true
  conn_joined p q g c [] s f has = absurd has
  conn_joined p q g c (x ∷ xs) s f (inl is) = later (joins c) g (at_shard x.pass.value (shard_of g)).log (at_shard q (shard_of g)).log f.0 (settled_joined p g c x s.0 is)
  conn_joined p q g c (x ∷ xs) s f (inr has) = conn_joined p q g c xs s.1 f.1 has

  -- a printed journal each of whose connections is one of the round's ends with Shut
  copy_ended : (p q : Pass) (a b : DoorShown K) (most : ℕ) (r : Round K) (copy : Copy) → IsRound shows may tables h p a most r b
      → IsCopy h.boot r.pass q copy → EndsIfOurs h.boot r.finished.items copy
  copy_ended p q a b most r copy round is = λ ours.
      let g = copy.id in
      let past = past_in g copy.front in
      let legal = (is.story.sound g).legal in
      let first = some_join past (is.story.joined g is.opened) in
      let all = λ (d : ℕ) (t : IsThere (whole (home_of h.boot g) past) d). ours d (named (home_of h.boot g) past legal d t) in
      let ended = groups_end {S = Unit {0}} {K = K} shows (λ _. may) (λ _. tables) tt h p a b most r round g first.0 copy.front is.starts is.story first.1 all in
      shut_ends (home_of h.boot g) past legal ended

  pub copies_ended : (p q : Pass) (a b : DoorShown K) (most : ℕ) (r : Round K) (copies : List Copy) → IsRound shows may tables h p a most r b
      → AllByRecursion (IsCopy h.boot r.pass q) copies → AllByRecursion (EndsIfOurs h.boot r.finished.items) copies
  copies_ended p q a b most r [] round each = tt
  copies_ended p q a b most r (copy ∷ more) round each = (copy_ended p q a b most r copy round each.0, copies_ended p q a b most r more round each.1)
