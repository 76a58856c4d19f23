-- What answers the calls of a script: the desks behind the interfaces, by number.
use Rattle.std.specs.Prelude.{◌≡◌, ◌≢◌, Bool, Some, List, [], ◌∷◌}
use Rattle.std.specs.List.{AllByRecursion}
use Rattle.handle_model.specs.declared.entry.DueItem.{DueItem}
use Rattle.ndr_table.specs.Tables.{OpForm, TableForm, IsTable}
use Rattle.ndr_table.specs.Nested.{IsShallow}
use Rattle.manager_api.specs.Answers.{Ans, AFault}
use Rattle.manager_api.specs.Calls.{Call}
use Rattle.desk_counts.specs.Numbers.{Numbers}
use Rattle.group_core.specs.declared.answer.Rest.{Rest}
use Rattle.group_core.specs.declared.answer.Rest.TheVariants as rest
use Rattle.conn_histories.specs.Requests.{op_of, no_memory}

-- The tables of the interfaces; what the desks keep, and what that is before the first line; what they may answer to a
-- call, and what they then keep, where these are the numbers of calls and packets so far and the call was cancelled or
-- not; and what they keep once a handle is run down.
pub record Service : Type 1 where
  pub tables : List TableForm
  pub State : Type 0
  pub start : State
  pub may : State → Numbers → Call → Bool → Ans → State → Type 0
  pub runs_down : State → DueItem → State → Type 0

module _ (service : Service) where
  -- the handles are run down, one after the other
  abbrev pub AreRunDown : service.State → List DueItem → service.State → Type 0
  AreRunDown old [] new = new ≡ old
  AreRunDown old (item ∷ items) new = (between : service.State) × service.runs_down old item between × AreRunDown between items new

  -- where a group goes on there are none, and where it ends those that were live
  abbrev pub RunsDown : service.State → Rest → service.State → Type 0
  RunsDown old rest.Stays new = new ≡ old
  RunsDown old (rest.Shut items) new = AreRunDown old items new

-- what holds of every table of an interface
abbrev pub IsWhole : TableForm → Type 0
IsWhole t = IsTable t.types t.ops t.uses × IsShallow t.types t.ops

-- To a call of an operation one answer follows from what the desks keep, the call, the numbers and whether it was cancelled,
-- and so does what they keep then, unless they want memory. What they keep once a handle is run down follows from what they
-- kept.
pub record IsDetermined (service : Service) : Type 0 where
  pub tables : AllByRecursion IsWhole service.tables
  pub answers : (old new new' : service.State) (numbers : Numbers) (call : Call) (o : OpForm) (cancelled : Bool) (a b : Ans)
      → op_of service.tables call.iface call.op ≡ Some o → service.may old numbers call cancelled a new → service.may old numbers call cancelled b new'
      → a ≢ AFault no_memory → b ≢ AFault no_memory → (a ≡ b) × (new ≡ new')
  pub downs : (old new new' : service.State) (item : DueItem) → service.runs_down old item new → service.runs_down old item new' → new ≡ new'
