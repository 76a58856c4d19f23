-- What a connection of a server came to, by a journal of its group that is longer than the one that its pass had seen, or of which
-- older entries were folded away.
use Rattle.std.specs.Prelude.{◌≡◌, ℕ, Bool, true, List, [], ◌∷◌, filter, ⊤}
use Rattle.std.specs.List.{AllByRecursion}
use Rattle.handle_model.specs.declared.entry.Entry.{Entry}
use Rattle.handle_model.specs.declared.entry.Entry.TheVariants.{Join, Leave}
use Rattle.handle_model.specs.History.{History}
use Rattle.handle_model.specs.Replies.{replies}
use Rattle.rpc_outside.specs.Links.{Shown}
use Rattle.ndr_table.specs.Tables.{TableForm}
use Rattle.manager_api.specs.Answers.{Ans}
use Rattle.manager_api.specs.Calls.{Call}
use Rattle.conn_histories.specs.Requests.{ids_of}
use Rattle.hub_story.specs.Histories.{home_of}
use Rattle.group_hub.specs.declared.pass.Pass.{Pass}
use Rattle.conn_histories.specs.declared.turn.Off.{Off}
use Rattle.conn_histories.specs.declared.turn.Deed.{Deed}
use Rattle.conn_histories.specs.declared.turn.Deed.TheVariants.{Accepted}
use Rattle.conn_histories.specs.declared.turn.Turn.{Turn}
use Rattle.conn_histories.specs.declared.turn.Turn.TheVariants.{Called}
use Rattle.conn_histories.specs.Events.{fate_reply}
use Rattle.conn_histories.specs.Tales.{of_conn, StandAll}
use Rattle.conn_histories.specs.Stories as stories
use Rattle.server_ends.specs.declared.ended.Finished.{Finished}
use Rattle.server_ends.specs.Endings.{EndsAs}
use Rattle.server_ends.specs.Finishes.{serving, never_refused, AsMember}

module _ {K : Type 0} (shows : K → Shown) (may : Call → Bool → Ans → Type 0) (tables : List TableForm) (boot : ℕ) where
  -- The connection joined the group g as c. By this journal of the group, too, what it entered is what its turns say, each turn has
  -- its reason, no call of it waits or runs, and what it put on its link are the answers to what it was asked.
  pub record HoldsBy (past : List Entry) (p : Pass) (a : Shown) (g c : ℕ) (r : Finished K) : Type 0 where
    pub member : AsMember shows may tables boot p a g c r
    pub story : stories.Finished (serving tables may never_refused) (home_of boot g) c past member.turns member.mine
    pub ends : EndsAs (ids_of tables) (home_of boot g) past member.turns a r.ending (shows r.link)

-- ---- where older entries were folded into the base

abbrev pub DeedIsTold : History → List Off → Deed → Type 0
DeedIsTold j offs (Accepted k slots fate) = replies j k ≡ fate_reply offs fate
DeedIsTold j offs _ = ⊤

-- the reply to the turn's call is the turn's
abbrev pub IsTold : History → Turn → Type 0
IsTold j (Called r) = DeedIsTold j r.offs r.deed
IsTold j _ = ⊤

-- The entries of the journal are, of each call of a connection that is over, those that its turn says, in that order, and of itself a
-- Join and a Leave; and the reply to each call is the turn's.
pub record TellsOfTurns (j : History) (c : ℕ) (turns : List Turn) : Type 0 where
  pub stand : StandAll c true j.past turns
  pub conns : filter (of_conn c) j.past ≡ Leave c ∷ Join c ∷ []
  pub told : AllByRecursion (IsTold j) turns
