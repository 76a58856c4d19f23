-- What is told of whether a call was asked to end.
use Rattle.std.specs.Prelude.{◌≡◌, ℕ, Bool, true, false, ◌&&◌, not, List}
use Rattle.handle_model.specs.Journal.{runs}
use Rattle.group_core.specs.Stages.{is_asked}
use Rattle.hub_story.specs.declared.item.Item.{Item}
use Rattle.hub_story.specs.Directories.{is_retired_id}
use Rattle.hub_story.specs.Histories.{marks_in, journal_in}
use Rattle.hub_story.specs.Folded.{kept}

-- by the journal as the group keeps it; no call of a group that was retired is
abbrev pub is_asked_by_kept : ℕ → ℕ → List Item → ℕ → Bool
is_asked_by_kept boot g log call = not (is_retired_id (marks_in log) g) && is_asked (kept (journal_in boot g log)) call

-- of a call that runs, it is told by the whole journal
abbrev pub IsToldWhileItRuns : ℕ → ℕ → List Item → ℕ → Bool → Type 0
IsToldWhileItRuns boot g log call told =
    is_retired_id (marks_in log) g ≡ false → runs (journal_in boot g log) call ≡ true → told ≡ is_asked (journal_in boot g log) call
