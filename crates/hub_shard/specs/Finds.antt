-- What a connection that looks for the group of an id is answered, and what that adds.
use Rattle.std.specs.Prelude.{◌≡◌, ℕ, true, false, Result, Ok, Err, Some, List, [], ◌∷◌, length}
use Rattle.std.specs.List.{list_any}
use Rattle.handle_model.specs.declared.limits.JoinLimit.TheVariants as limit
use Rattle.handle_model.specs.Journal.{is_shut}
use Rattle.handle_model.specs.History.{History, size}
use Rattle.handle_model.specs.Limits.{join_limit}
use Rattle.hub_story.specs.declared.item.Mark.TheVariants.{Missed}
use Rattle.hub_story.specs.declared.item.Item.{Item}
use Rattle.hub_story.specs.declared.item.Item.TheVariants.{Listed as Marked}
use Rattle.hub_story.specs.Directories.{is_open_id}
use Rattle.hub_story.specs.Histories.{marks_in, past_in, journal_in}
use Rattle.hub_story.specs.Answers.{JoinsWhole}
use Rattle.hub_shard.specs.declared.answer.Absence.TheVariants.{Directory, Shut}
use Rattle.hub_shard.specs.declared.answer.FindRefusal.{FindRefusal}
use Rattle.hub_shard.specs.declared.answer.FindRefusal.TheVariants.{NoGroup, TooMany, Numbers, Memory}
use Rattle.hub_shard.specs.declared.find.Find.{Find}
use Rattle.hub_shard.specs.declared.find.State.{State}
use Rattle.hub_shard.specs.declared.find.State.TheVariants as state
use Rattle.hub_shard.specs.declared.shard.Listed.{Listed}
use Rattle.hub_shard.specs.Shards.{ShardView, MarkedBy}
use Rattle.hub_shard.specs.Answers.{Answers}

abbrev pub asks_find : Find → ℕ → List Item → Type 0
asks_find a boot log = Unit {0}

-- the group is open, and has not ended
abbrev pub IsOpen : ℕ → List Item → Type 0
IsOpen g log = (is_open_id (marks_in log) g ≡ true) × (list_any is_shut (past_in g log) ≡ false)

-- a connection joins; or the id is marked as missed, where it isn't open; or the group has ended; or a limit stands in the way
abbrev pub gives_find : Find → ℕ → ℕ → List Item → Result ℕ FindRefusal → List Item → Type 0
gives_find a boot s log (Ok c) more = IsOpen a.id log × Answers boot a.id log more (λ j k. JoinsWhole j (Ok c) k)
gives_find a boot s log (Err (NoGroup (Directory n))) more =
    (is_open_id (marks_in log) a.id ≡ false) × (n ≡ length (marks_in log)) × (more ≡ Marked (Missed a.id) ∷ [])
gives_find a boot s log (Err (NoGroup (Shut n))) more =
    (is_open_id (marks_in log) a.id ≡ true) × (list_any is_shut (past_in a.id log) ≡ true) × (n ≡ length (past_in a.id log)) × (more ≡ [])
gives_find a boot s log (Err TooMany) more = IsOpen a.id log × (join_limit (journal_in boot a.id log) ≡ Some limit.TooMany) × (more ≡ [])
gives_find a boot s log (Err Numbers) more = IsOpen a.id log × (join_limit (journal_in boot a.id log) ≡ Some limit.Numbers) × (more ≡ [])
gives_find a boot s log (Err Memory) more = more ≡ []

-- an id is marked as missed
abbrev pub Misses : ShardView → ℕ → Result ℕ FindRefusal × ℕ → ShardView → Type 0
Misses x g (Ok c, added) y = ⊥
Misses x g (Err (NoGroup (Directory n)), added) y = MarkedBy x (Missed g) y × (n ≡ length x.marks) × (added ≡ 1)
Misses x g (Err (NoGroup (Shut n)), added) y = ⊥
Misses x g (Err TooMany, added) y = ⊥
Misses x g (Err Numbers, added) y = ⊥
Misses x g (Err Memory, added) y = (y ≡ x) × (added ≡ 0)

-- a group is open, has ended after so many entries, or was retired
abbrev pub IsState : Listed → State → Type 0
IsState l state.Retired = l.retired ≡ true
IsState l (state.Shut n) = (l.retired ≡ false) × (list_any is_shut l.group.past ≡ true) × (n ≡ size l.group)
IsState l state.Open = (l.retired ≡ false) × (list_any is_shut l.group.past ≡ false)
