-- The groups at the end of a round.
use Rattle.std.proofs.Common.{◌≡◌, ◌∙◌, ◌<◌, ℕ, zero, suc, Bool, true, false, Option, Some, None, List, [], ◌∷◌, ◌++◌, refl, sym, ap, subst, arith, inl, inr, ◌⊎◌, length, slice_index_or, map, true≢false, ◌==◌, append_assoc}
use Rattle.std.specs.List.{list_any, filter, AllByRecursion}
use Rattle.std.proofs.lemmas.Bool.{cases_Bool}
use Rattle.rpc_outside.specs.Links.{Shown}
use Rattle.rpc_outside.specs.Doors.{DoorShown}
use Rattle.turn_lock.specs.Histories.{StartsWith}
use Rattle.handle_model.specs.declared.entry.Entry.{Entry}
use Rattle.handle_model.specs.declared.entry.Entry.TheVariants.{Join, Leave}
use Rattle.handle_model.specs.Journal.{joins, leaves, is_shut}
use Rattle.ndr_table.specs.Tables.{TableForm}
use Rattle.manager_api.specs.Answers.{Ans}
use Rattle.manager_api.specs.Calls.{Call}
use Rattle.hub_story.specs.declared.item.Item.{Item}
use Rattle.hub_story.specs.Histories.{past_in, home_of, IsStory}
use Rattle.hub_story.specs.Passes.{Seen}
use Rattle.hub_story.proofs.ItemLemmas.{past-append}
use Rattle.group_hub.specs.declared.hub.Hub.{Hub}
use Rattle.group_hub.specs.declared.pass.Pass.{Pass}
use Rattle.group_hub.specs.Shards.{shard_of}
use Rattle.group_hub.specs.Passes.{at_shard}
use Rattle.conn_histories.specs.Tales.{whole, of_conn}
use Rattle.server_ends.specs.Finishes.{AsMember, FinishesAs}
use Rattle.server_rounds.specs.declared.settled.Settled.{Settled}
use Rattle.server_rounds.specs.declared.round.Round.{Round}
use Rattle.server_rounds.specs.Passes.{TakesIn}
use Rattle.server_rounds.specs.Served.{IsSettled, finished_of}
use Rattle.server_rounds.specs.Rounds.{IsRound, passes}
use Rattle.server_rounds.specs.Endings.{HasConn, IsThere, GroupsEnd}
use Rattle.server_rounds.proofs.Endings.{IsOver, group_ended}

low_shard : (g : ℕ) → shard_of g < 16
low_shard g = omega arith

abbrev journal_of : ℕ → Pass → List Entry
journal_of g p = past_in g (at_shard p (shard_of g)).log

-- ---- a connection of the round

left_kept : (c : ℕ) (past rest : List Entry) → filter (of_conn c) past ≡ Leave c ∷ rest → list_any (leaves c) past ≡ true
left_kept c [] rest e = absurd (cc)
left_kept c (Leave d ∷ past) rest e = elim (cases_Bool (d == c)) [
  | inl t ↦ rw t refl
  | inr f ↦ rw f (left_kept c past rest (rw f at e))
]
left_kept c (Join d ∷ past) rest e = elim (cases_Bool (d == c)) [
  | inl t ↦ absurd (no_join d c (filter (of_conn c) past) rest (rw t at e))
  | inr f ↦ left_kept c past rest (rw f at e)
]
  where
    no_join : (d c : ℕ) (xs ys : List Entry) → Join d ∷ xs ≡ Leave c ∷ ys → ⊥
    no_join d c xs ys e = absurd (cc)
left_kept c (_ ∷ past) rest e = left_kept c past rest e

over_then : (g c : ℕ) (early log : List Item) → StartsWith log early → IsOver (past_in g early) c → IsOver (past_in g log) c
over_then g c early log starts o = record {
  newer = past_in g starts.0 ++ o.newer;
  older = o.older;
  moment = ap (past_in g) starts.1 ∙ past-append g early starts.0 ∙ ap (λ l. past_in g starts.0 ++ l) o.moment ∙ sym (append_assoc (past_in g starts.0) o.newer o.older);
  left = o.left;
  turns = o.turns;
  stand = o.stand;
  none_runs = o.none_runs;
}

module _ {K : Type 0} (shows : K → Shown) (may : Call → Bool → Ans → Type 0) (tables : List TableForm) (h : Hub) where
  member_over : (p : Pass) (a : Shown) (g c : ℕ) (x : Settled K) → AsMember shows may tables h.boot p a g c (finished_of x) → IsOver (journal_of g x.pass.value) c
  member_over p a g c x m = record {
    newer = [];
    older = journal_of g x.pass.value;
    moment = refl;
    left = left_kept c (journal_of g x.pass.value) (Join c ∷ []) m.story.made.conns;
    turns = m.turns;
    stand = m.story.made.stand;
    none_runs = m.story.none_runs;
  }

  settled_over : (p : Pass) (g c : ℕ) (x : Settled K) → IsSettled shows may tables h p x → x.joined ≡ Some (g, c) → IsOver (journal_of g x.pass.value) c
  settled_over p g c x s is =
      member_over x.began.value (shows x.came.value) g c x
      (subst (λ o. FinishesAs shows may tables h.boot o x.began.value (shows x.came.value) (finished_of x)) is s.served.finishes)

  conn_over : (p q : Pass) (g c : ℕ) (xs : List (Settled K)) → AllByRecursion (IsSettled shows may tables h p) xs
      → AllByRecursion (λ o. StartsWith (at_shard q (shard_of g)).log (at_shard o (shard_of g)).log) (passes xs) → HasConn g c xs → IsOver (journal_of g q) c
  conn_over p q g c [] s f has = absurd has
  conn_over p q g c (x ∷ xs) s f (inl is) = over_then g c (at_shard x.pass.value (shard_of g)).log (at_shard q (shard_of g)).log f.0 (settled_over p g c x s.0 is)
  conn_over p q g c (x ∷ xs) s f (inr has) = conn_over p q g c xs s.1 f.1 has

  ended : (p : Pass) (a b : DoorShown K) (most : ℕ) (r : Round K) → IsRound shows may tables h p a most r b → (g c : ℕ) (log : List Item)
      → StartsWith log (at_shard r.pass (shard_of g)).log → IsStory h.boot (shard_of g) log → list_any (joins c) (past_in g log) ≡ true
      → ((d : ℕ) → IsThere (whole (home_of h.boot g) (past_in g log)) d → HasConn g d r.finished.items) → list_any is_shut (past_in g log) ≡ true
  ended p a b most r round g c log starts story joined all =
      group_ended (home_of h.boot g) (past_in g log) c (story.sound g) joined
      (λ d there. over_then g d (at_shard r.pass (shard_of g)).log log starts
      (conn_over p r.pass g d r.finished.items round.settled (round.takes.theirs (shard_of g) (low_shard g)) (all d there)))

pub groups_end : {S K : Type 0} (shows : K → Shown) (may : S → Call → Bool → Ans → Type 0) (tables : S → List TableForm) → GroupsEnd shows may tables
groups_end shows may tables = λ service h p a b most r round g c log starts story joined all. ended shows (may service) (tables service) h p a b most r round g c log starts story joined all
