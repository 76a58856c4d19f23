-- How the history of a group grows by its calls.
use Rattle.std.specs.Prelude.{◌≡◌, ℕ, Result, Ok, Err, List, drop}
use Rattle.handle_model.specs.declared.entry.Asked.{Asked}
use Rattle.handle_model.specs.declared.entry.Outcome.{Outcome}
use Rattle.handle_model.specs.declared.entry.Said.{Said}
use Rattle.handle_model.specs.declared.entry.Entry.{Entry}
use Rattle.handle_model.specs.Folds.{folded}
use Rattle.handle_model.specs.History.{History}
use Rattle.group_core.specs.declared.answer.AcceptRefusal.{AcceptRefusal}
use Rattle.group_core.specs.declared.answer.JoinRefusal.{JoinRefusal}
use Rattle.group_core.specs.declared.answer.Taking.{Taking}
use Rattle.group_core.specs.declared.answer.Cancelled.{Cancelled}
use Rattle.group_core.specs.declared.answer.Orphaned.{Orphaned}
use Rattle.group_core.specs.declared.answer.Rest.{Rest}
use Rattle.group_core.specs.Adds.{Adds}
use Rattle.group_core.specs.Conns.{Joins, Leaves}
use Rattle.group_core.specs.Calls.{Accepts, Takes, Cancels, Orphans, Ends}

-- some entries came, or none, and nothing else changed
pub record Grows (old new : History) : Type 0 where
  pub more : List Entry
  pub adds : Adds old more new

-- where a connection joined, the folded history grew; where it was refused, nothing was folded and nothing came
abbrev pub GrowsByJoin : History → Result ℕ JoinRefusal → History → Type 0
GrowsByJoin old (Ok conn) new = Grows (folded old) new
GrowsByJoin old (Err refusal) new = new ≡ old

abbrev pub JoinsGrow : Type 0
JoinsGrow = (old new : History) (answer : Result ℕ JoinRefusal) → Joins old answer new → GrowsByJoin old answer new

-- each other call adds to the history
abbrev pub AcceptsGrow : Type 0
AcceptsGrow = (old new : History) (a : Asked) (answer : Result ℕ (Asked × AcceptRefusal)) → Accepts old a answer new → Grows old new

abbrev pub TakesGrow : Type 0
TakesGrow = (old new : History) (k : ℕ) (answer : Taking) → Takes old k answer new → Grows old new

abbrev pub CancelsGrow : Type 0
CancelsGrow = (old new : History) (k : ℕ) (answer : Cancelled) → Cancels old k answer new → Grows old new

abbrev pub OrphansGrow : Type 0
OrphansGrow = (old new : History) (k : ℕ) (answer : Orphaned) → Orphans old k answer new → Grows old new

abbrev pub EndsGrow : Type 0
EndsGrow =
    (old new : History) (k : ℕ) (results : List Outcome) (said : Said) (answer : Rest) → Ends old k results said answer new → Grows old new

abbrev pub LeavesGrow : Type 0
LeavesGrow = (old new : History) (c : ℕ) (answer : Rest) → Leaves old c answer new → Grows old new

-- by two calls, too
abbrev pub GrowsOn : Type 0
GrowsOn = (oldest old new : History) → Grows oldest old → Grows old new → Grows oldest new

-- what was before is a part of what is
pub record IsEarlier (old new : History) : Type 0 where
  pub newer : ℕ
  pub home_is : new.home ≡ old.home
  pub base_is : new.base ≡ old.base
  pub past_is : drop newer new.past ≡ old.past

abbrev pub StaysEarlier : Type 0
StaysEarlier = (old new : History) → Grows old new → IsEarlier old new
