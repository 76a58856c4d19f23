-- What a call that ran leaves.
use Rattle.std.specs.Prelude.{◌≡◌, ℕ, ◌≤◌, Bool, true, Option, Some, List, length}
use Rattle.handle_model.specs.declared.entry.Slot.{Slot}
use Rattle.handle_model.specs.declared.entry.Asked.{Asked}
use Rattle.handle_model.specs.Rules.{suit}
use Rattle.hub_story.specs.Histories.{home_of}
use Rattle.group_hub.specs.declared.hub.Hub.{Hub}
use Rattle.group_hub.specs.Passes.{IsPassOf}
use Rattle.conn_asks.specs.Answers.{FitsStub}
use Rattle.ndr_value.specs.declared.value.Message.{Message}
use Rattle.ndr_value.specs.Values.{msg}
use Rattle.ndr_table.specs.Tables.{TableForm}
use Rattle.manager_api.specs.Answers.{Ans}
use Rattle.manager_api.specs.Calls.{Call}
use Rattle.conn_histories.specs.Requests.{HasSlots, IsAsked}
use Rattle.conn_histories.specs.Ends.{Meets, row_of}
use Rattle.manager_api.specs.Served.{tables_in}
use Rattle.server_calls.specs.Suited.{suit_cookies}
use Rattle.server_steps.specs.Passes.{OwnsNone, HasAsked, MayAsk}
use Rattle.server_steps.specs.declared.working.Worked.{Worked}
use Rattle.server_steps.specs.declared.working.Promised.{Promised}
use Rattle.server_steps.specs.declared.working.RunningCall.{RunningCall}
use Rattle.server_steps.specs.declared.working.Server.{Server}
use Rattle.server_steps.specs.declared.working.Task.{Task}

-- the row has cookies for the slots
abbrev pub Suits : List Slot → List (Option ℕ) → Type 0
Suits slots row = (cookies : List (Option ℕ)) × (row ≡ row_of cookies) × (suit_cookies slots cookies ≡ true)

-- What a call is run with: it has its slots, at most four, cookies for them, and its message, twice.
pub record IsGiven (tables : List TableForm) (a : Asked) (row : List (Option ℕ)) (m n : Message) : Type 0 where
  pub slots : HasSlots tables a.iface a.op a.order a.stub a.slots
  pub few : length a.slots ≤ 4
  pub suits : Suits a.slots row
  pub message : IsAsked tables a.iface a.op a.order a.stub (msg m)
  pub again : IsAsked tables a.iface a.op a.order a.stub (msg n)

-- the manager has the tables that are served
abbrev pub Serves : {M : Type 0} → (M → List TableForm) → Server M → Type 0
Serves tables s = tables s.manager.now ≡ tables_in s.served.now

-- A call is ready to be run: the manager has the tables that are served, the pass may ask for the call, and the call has all
-- that it is run with.
pub record IsReadyToRun {M P : Type 0} (tables : M → List TableForm) (s : Server M) (c : RunningCall) (t : Task P) : Type 0 where
  pub served : Serves tables s
  pub asks : MayAsk s.hub.now c.group c.call t.pass
  pub given : IsGiven (tables_in s.served.now) c.asked.now c.row t.message t.again

-- The call k of the group g ends so as its manager answered it. The manager was told of a cancel only where the pass has
-- seen one, and the pass has entered nothing.
pub record Works {P : Type 0} (tables : List TableForm) (may : Call → Bool → Ans → Type 0) (hub : Hub) (g k : ℕ) (a : Asked) (cookies : List (Option ℕ)) (r : Worked P) : Type 0 where
  pub pass : IsPassOf hub r.pass
  pub none : OwnsNone r.pass
  pub told : Bool
  pub asked : told ≡ true → HasAsked hub.boot g k r.pass
  pub meets : Meets (home_of hub.boot g) tables may a cookies told r.answered.results r.answered.said
  pub suits : suit a.slots r.answered.results ≡ true
  pub same : r.answered.told ≡ r.answered.said
  pub fits : FitsStub (Some r.answered.said)

-- a call of a server was worked off so, with the cookies of its row
abbrev pub WorksBy : {M P : Type 0} → (M → List TableForm) → (M → Call → Bool → Ans → Type 0) → Server M → RunningCall → Worked P → Type 0
WorksBy tables may s c r =
    (cookies : List (Option ℕ)) → c.row ≡ row_of cookies → length cookies ≡ length c.asked.now.slots
    → Works (tables s.manager.now) (may s.manager.now) s.hub.now c.group c.call c.asked.now cookies r

-- the same of what was promised
abbrev pub Keeps : {M P : Type 0} → (M → List TableForm) → (M → Call → Bool → Ans → Type 0) → Promised M P → Worked P → Type 0
Keeps tables may p r =
    (cookies : List (Option ℕ)) → p.row ≡ row_of cookies → length cookies ≡ length p.asked.value.slots
    → Works (tables p.manager.value) (may p.manager.value) p.hub.value p.group p.call p.asked.value cookies r
