-- What is answered where a group's journal is copied.
use Rattle.std.specs.Prelude.{◌≡◌, ℕ, true, false, Option, Some, None, Result, Ok, Err, List, [], reverse}
use Rattle.rpc_base.specs.declared.fault.NoMemory.{NoMemory}
use Rattle.handle_model.specs.History.{History, history_of}
use Rattle.group_core.specs.Kept.{Logged}
use Rattle.hub_story.specs.declared.item.Item.{Item}
use Rattle.hub_story.specs.Directories.{is_opened_id}
use Rattle.hub_story.specs.Histories.{marks_in, journal_in, home_of}
use Rattle.hub_story.specs.Folded.{kept}
use Rattle.hub_shard.specs.declared.copy.Copied.{Copied}

abbrev pub asks_copy : Copied → ℕ → List Item → Type 0
asks_copy a boot log = Unit {0}

-- none, where the id was not opened; else the journal as the group keeps it
abbrev pub gives_copy : Copied → ℕ → ℕ → List Item → Result (Option Logged) NoMemory → List Item → Type 0
gives_copy a boot s log (Ok None) more = (is_opened_id (marks_in log) a.id ≡ false) × (more ≡ [])
gives_copy a boot s log (Ok (Some j)) more =
    (is_opened_id (marks_in log) a.id ≡ true) × (history_of (home_of boot a.id) j.base j.entries ≡ kept (journal_in boot a.id log)) × (more ≡ [])
gives_copy a boot s log (Err e) more = more ≡ []
