-- What a connection came to in its group holds by each longer journal of the group.
use Rattle.std.proofs.Common.{◌≡◌, ◌∙◌, ℕ, Bool, true, List, ◌++◌, sym, ap, subst}
use Rattle.turn_lock.specs.Histories.{StartsWith}
use Rattle.rpc_outside.specs.Links.{Shown}
use Rattle.handle_model.specs.declared.entry.Entry.{Entry}
use Rattle.handle_model.specs.Journal.{Legal}
use Rattle.ndr_table.specs.Tables.{TableForm}
use Rattle.manager_api.specs.Answers.{Ans}
use Rattle.manager_api.specs.Calls.{Call}
use Rattle.conn_histories.specs.Requests.{ids_of}
use Rattle.hub_story.specs.declared.item.Item.{Item}
use Rattle.hub_story.specs.Histories.{past_in, home_of, IsStory}
use Rattle.hub_story.proofs.ItemLemmas.{past-append}
use Rattle.group_hub.specs.declared.pass.Pass.{Pass}
use Rattle.group_hub.specs.Shards.{shard_of}
use Rattle.group_hub.specs.Passes.{at_shard}
use Rattle.conn_histories.specs.Tales.{whole}
use Rattle.conn_turns.proofs.Keeping.{finished_stay}
use Rattle.server_ends.specs.declared.ended.Finished.{Finished}
use Rattle.server_ends.specs.Finishes.{serving, never_refused, AsMember}
use Rattle.server_command.specs.Holds.{HoldsBy}
use Rattle.server_command.proofs.Behind.{others_follow}
use Rattle.server_command.proofs.Staying.{answers_stay}

module _ {K : Type 0} (shows : K → Shown) (may : Call → Bool → Ans → Type 0) (tables : List TableForm) (boot : ℕ) where
  holds_behind : (p : Pass) (a : Shown) (g c : ℕ) (r : Finished K) (newer : List Entry) → AsMember shows may tables boot p a g c r
      → Legal (whole (home_of boot g) (newer ++ past_in g (at_shard r.pass (shard_of g)).log))
      → HoldsBy shows may tables boot (newer ++ past_in g (at_shard r.pass (shard_of g)).log) p a g c r
  holds_behind p a g c r newer m legal =
      let home = home_of boot g in
      let past = past_in g (at_shard r.pass (shard_of g)).log in
      let made = m.story.made in
      let others = others_follow home c newer past m.turns legal made.stand made.conns m.story.none_runs in record {
        member = m;
        story = finished_stay (serving tables may never_refused) home c newer past m.turns m.mine legal others m.story;
        ends = record {
          came = m.ends.came;
          put = m.ends.put;
          link = m.ends.link;
          answers = answers_stay (ids_of tables) home c true newer past m.turns r.ending m.ends.came m.ends.put others made.stand m.ends.answers;
          because = m.ends.because;
        };
      }

pub members_last : {K : Type 0} (shows : K → Shown) (may : Call → Bool → Ans → Type 0) (tables : List TableForm) (boot : ℕ) (p : Pass) (a : Shown) (g c : ℕ) (r : Finished K) (log : List Item)
    → AsMember shows may tables boot p a g c r → StartsWith log (at_shard r.pass (shard_of g)).log → IsStory boot (shard_of g) log
    → HoldsBy shows may tables boot (past_in g log) p a g c r
members_last shows may tables boot p a g c r log m starts story =
    let early = (at_shard r.pass (shard_of g)).log in
    let is : past_in g log ≡ past_in g starts.0 ++ past_in g early = ap (past_in g) starts.1 ∙ past-append g early starts.0 in
    let legal = subst (λ l. Legal (whole (home_of boot g) l)) is (story.sound g).legal in
    subst (λ l. HoldsBy shows may tables boot l p a g c r) (sym is) (holds_behind shows may tables boot p a g c r (past_in g starts.0) m legal)
