-- What a connection had its manager do, in a chain of the manager's passes.
use Rattle.std.specs.Prelude.{◌≡◌, Bool, ℕ, Option, Some, None, List, ⊤}
use Rattle.handle_model.specs.declared.entry.Asked.{Asked}
use Rattle.handle_model.specs.declared.entry.DueItem.{DueItem}
use Rattle.hub_story.specs.Histories.{home_of}
use Rattle.group_hub.specs.declared.pass.Pass.{Pass}
use Rattle.ndr_table.specs.Tables.{TableForm}
use Rattle.manager_api.specs.Answers.{Ans}
use Rattle.manager_api.specs.Calls.{Call}
use Rattle.server_ends.specs.declared.ended.Finished.{Finished}
use Rattle.server_steps.specs.declared.line.Line.{Line}
use Rattle.server_steps.specs.declared.gone.Gone.{Gone}
use Rattle.server_steps.specs.declared.working.RunningCall.{RunningCall}
use Rattle.server_steps.specs.declared.working.Server.{Server}
use Rattle.server_steps.specs.declared.working.Worked.{Worked}
use Rattle.server_steps.specs.Deeds.{Quiet, SamePass, HasAnswered, AnswersBy, AnswersAs, Since}
use Rattle.server_run.specs.declared.binding.Entered.{Entered}
use Rattle.server_run.specs.declared.binding.Entered.TheVariants as entered
use Rattle.server_run.specs.declared.beside.Started.{Started}
use Rattle.server_run.specs.declared.beside.Started.TheVariants as started
use Rattle.server_run.specs.declared.beside.Beside.{Beside}
use Rattle.server_run.specs.declared.beside.Beside.TheVariants as beside
use Rattle.server_run.specs.declared.running.Ran.{Ran}
use Rattle.server_run.specs.declared.running.Ran.TheVariants as ran
use Rattle.server_run.specs.declared.calling.Went.{Went}
use Rattle.server_run.specs.declared.calling.Went.TheVariants as went

-- nothing was done for a new connection
abbrev pub EntersQuietly : {K : Type 0} → Pass → Entered K → Type 0
EntersQuietly p (entered.Joined l) = Quiet l.group p l.pass
EntersQuietly p (entered.Stopped l why) = Quiet l.group p l.pass
EntersQuietly p (entered.Alone w q why) = ⊤

-- an answer enters nothing
abbrev pub WentSame : {K : Type 0} → Line K → Went K → Type 0
WentSame old (went.On l) = SamePass old l
WentSame old (went.Stop l why) = SamePass old l
WentSame old (went.Drop l why k) = SamePass old l
WentSame old (went.Over r) = ⊥

module _ {M P : Type 0} (tables : M → List TableForm) (is_pass : M → P → Type 0) (enters : M → P → Call → Bool → Ans → P → Type 0) (s : Server M) (c : RunningCall) (before : P) where
  -- a call that was started was answered, or will be
  abbrev pub StartsAnswering : Started M P → Type 0
  StartsAnswering (started.There child) = (r : Worked P) → AnswersAs tables is_pass enters child.promise r → AnswersBy tables is_pass enters s c before r
  StartsAnswering (started.Here r) = AnswersBy tables is_pass enters s c before r

  -- a call that ran was answered with these cookies
  abbrev pub HasRun : List (Option ℕ) → Worked P → Type 0
  HasRun cookies r = is_pass s.manager.now r.desks × HasAnswered (enters s.manager.now) (tables s.manager.now) (home_of s.hub.now.boot c.group) c.asked.now cookies before r

  -- nothing else was done for its connection meanwhile
  abbrev pub RunsQuietly : {K : Type 0} → Line K → List (Option ℕ) → Beside K P → Type 0
  RunsQuietly old cookies (beside.On l orphaned worked) = Quiet old.group old.pass l.pass × HasRun cookies worked
  RunsQuietly old cookies (beside.Left d worked) = Quiet old.group old.pass d.gone.pass × HasRun cookies worked

module _ {M P : Type 0} (tables : M → List TableForm) (enters : M → P → Call → Bool → Ans → P → Type 0) (runs_down : M → P → DueItem → P → Type 0) (splits joins : M → P → P → P → Type 0) (m : M) (boot : ℕ) where
  -- What a connection that is over had since its pass was that: behind its entries in its group stand the deeds by which the manager's
  -- pass became the last; nothing was done for one that joined none.
  abbrev pub HadIn : Option (ℕ × ℕ) → Pass → P → Pass → P → Type 0
  HadIn (Some (g, c)) began first q last = Since tables enters runs_down splits joins m boot g began first q last
  HadIn None began first q last = last ≡ first

module _ {M P K : Type 0} (tables : M → List TableForm) (enters : M → P → Call → Bool → Ans → P → Type 0) (runs_down : M → P → DueItem → P → Type 0) (splits joins : M → P → P → P → Type 0) (m : M) (boot : ℕ) where
  -- since it began, and the manager's pass was the first
  abbrev pub LineHad : Line K → P → P → Type 0
  LineHad l first last = Since tables enters runs_down splits joins m boot l.group l.began.value first l.pass last

  abbrev pub IsHad : Pass → P → Finished K → P → Type 0
  IsHad began first r last = HadIn tables enters runs_down splits joins m boot r.joined began first r.pass last

  -- whichever the first pass was, what was had is had
  abbrev pub LineOn : Line K → P → Line K → P → Type 0
  LineOn old before l after = (first : P) → LineHad old first before → LineHad l first after

  abbrev pub OverOn : Line K → P → Finished K → P → Type 0
  OverOn old before r after = (first : P) → LineHad old first before → IsHad old.began.value first r after

  -- where a connection has left, by the end of its call, which was answered from a pass on that had been split off
  abbrev pub GoneOn : Gone K → P → Asked → List (Option ℕ) → Worked P → Finished K → P → Type 0
  GoneOn old kept a cookies w r after =
      (before other : P) → splits m before kept other → HasAnswered (enters m) (tables m) (home_of boot old.group) a cookies other w
      → (first : P) → Since tables enters runs_down splits joins m boot old.group old.began.value first old.pass before → IsHad old.began.value first r after

  abbrev pub RanOn : Line K → P → Ran K → P → Type 0
  RanOn old before (ran.On l reply) after = LineOn old before l after
  RanOn old before (ran.Over r) after = OverOn old before r after

  abbrev pub WentOn : Line K → P → Went K → P → Type 0
  WentOn old before (went.On l) after = LineOn old before l after
  WentOn old before (went.Stop l why) after = LineOn old before l after
  WentOn old before (went.Drop l why k) after = LineOn old before l after
  WentOn old before (went.Over r) after = OverOn old before r after
