-- A thread's passes of the services that keep something.
use Rattle.std.specs.Prelude.{◌≡◌, ℕ, Bool, [], ◌∷◌, ◌++◌}
use Rattle.handle_model.specs.declared.entry.DueItem.{DueItem}
use Rattle.turn_lock.specs.Histories.{StartsWith}
use Rattle.turn_lock.specs.Passes.{own}
use Rattle.manager_api.specs.Answers.{Ans, Does}
use Rattle.manager_api.specs.Calls.{Call}
use Rattle.manager_api.specs.Handles.{one_less}
use Rattle.echo_manager.specs.ProbeSteps.{probe_step}
use Rattle.store_manager.specs.Files.{Store}
use Rattle.store_manager.specs.Steps.{store_step, without_handle}
use Rattle.epm_manager.specs.Entries.{EndpointMap}
use Rattle.epm_manager.specs.Steps.{epm_step, with_handles}
use Rattle.desk_told.specs.declared.desk.ToldDesk.{ToldDesk}
use Rattle.desk_told.specs.Deeds.{DeedForm, began}
use Rattle.desk_told.specs.Passes.{PassForm, history}
use Rattle.desk_told.specs.Desks as told
use Rattle.desk_locks.specs.declared.pass.SharedPass.{SharedPass}
use Rattle.desk_locks.specs.declared.shared.SharedDesks.{SharedDesks}

-- ---- what each service answers and how it runs down a handle

abbrev pub probe_may : ℕ → Call → Bool → Ans → ℕ → Type 0
probe_may before c told answer after = Does (probe_step before c told) before answer after

abbrev pub probe_downs : ℕ → DueItem → ℕ → Type 0
probe_downs before item after = after ≡ one_less before

abbrev pub store_may : Store → Call → Bool → Ans → Store → Type 0
store_may before c told answer after = Does (store_step before c) before answer after

abbrev pub store_downs : Store → DueItem → Store → Type 0
store_downs before item after = after ≡ without_handle before

abbrev pub map_may : EndpointMap → Call → Bool → Ans → EndpointMap → Type 0
map_may before c told answer after = Does (epm_step before c) before answer after

abbrev pub map_downs : EndpointMap → DueItem → EndpointMap → Type 0
map_downs before item after = after ≡ with_handles before (one_less before.handles)

-- ---- passes

-- one of each service
pub record IsPassOf (d : SharedDesks) (p : SharedPass) : Type 0 where
  pub probe : told.IsPassOf probe_may probe_downs d.probe p.probe
  pub store : told.IsPassOf store_may store_downs d.store p.store
  pub endpoints : told.IsPassOf map_may map_downs d.endpoints p.endpoints

-- the history says how the desk began, and the pass has no deed
pub record Begins {S : Type 0} (desk : ToldDesk S) (p : PassForm S) : Type 0 where
  pub alone : history p ≡ began desk.first.value ∷ []
  pub none : own p ≡ []

-- nothing was done yet
pub record IsFresh (d : SharedDesks) (p : SharedPass) : Type 0 where
  pub probe : Begins d.probe p.probe
  pub store : Begins d.store p.store
  pub endpoints : Begins d.endpoints p.endpoints

-- one service did the deed in a turn of the pass, and the passes of the others are as they were
pub record ProbeDoes (d : SharedDesks) (p : SharedPass) (deed : DeedForm ℕ) (q : SharedPass) : Type 0 where
  pub does : told.Does probe_may probe_downs d.probe p.probe deed q.probe
  pub store : q.store ≡ p.store
  pub endpoints : q.endpoints ≡ p.endpoints

pub record StoreDoes (d : SharedDesks) (p : SharedPass) (deed : DeedForm Store) (q : SharedPass) : Type 0 where
  pub does : told.Does store_may store_downs d.store p.store deed q.store
  pub probe : q.probe ≡ p.probe
  pub endpoints : q.endpoints ≡ p.endpoints

pub record MapDoes (d : SharedDesks) (p : SharedPass) (deed : DeedForm EndpointMap) (q : SharedPass) : Type 0 where
  pub does : told.Does map_may map_downs d.endpoints p.endpoints deed q.endpoints
  pub probe : q.probe ≡ p.probe
  pub store : q.store ≡ p.store

-- a pass stays as it was, and another has seen as much and had nothing done
pub record Halves {S : Type 0} (p q o : PassForm S) : Type 0 where
  pub seen : history q ≡ history p
  pub mine : own q ≡ own p
  pub theirs : history o ≡ history p
  pub none : own o ≡ []

pub record Splits (p q o : SharedPass) : Type 0 where
  pub probe : Halves p.probe q.probe o.probe
  pub store : Halves p.store q.store o.store
  pub endpoints : Halves p.endpoints q.endpoints o.endpoints

-- a pass has then seen what both had seen, and has the deeds of both
pub record Both {S : Type 0} (p o q : PassForm S) : Type 0 where
  pub mine : StartsWith (history q) (history p)
  pub theirs : StartsWith (history q) (history o)
  pub all : own q ≡ own p ++ own o

pub record Joins (p o q : SharedPass) : Type 0 where
  pub probe : Both p.probe o.probe q.probe
  pub store : Both p.store o.store q.store
  pub endpoints : Both p.endpoints o.endpoints q.endpoints
