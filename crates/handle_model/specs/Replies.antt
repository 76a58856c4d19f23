-- What the caller of a call with an Accept among the entries is told.
use Rattle.std.specs.Prelude.{ℕ, Bool, ◌&&◌, ◌||◌, not, ◌==◌, Option, Some, None, if◌then◌else◌, List, [], ◌∷◌}
use Rattle.std.specs.List.{list_any}
use Rattle.rpc_base.specs.declared.identifiers.Status.{Status}
use Rattle.handle_model.specs.declared.entry.Home.{Home}
use Rattle.handle_model.specs.declared.entry.Said.{Said}
use Rattle.handle_model.specs.declared.entry.Entry.{Entry}
use Rattle.handle_model.specs.declared.entry.Entry.TheVariants.{End}
use Rattle.handle_model.specs.declared.reply.Reply.{Reply}
use Rattle.handle_model.specs.declared.reply.Reply.TheVariants.{Never, Ran, Dropped, Open}
use Rattle.handle_model.specs.declared.base.Base.{Base}
use Rattle.handle_model.specs.Since.{History, since}
use Rattle.handle_model.specs.Entries.{denies, cancels}
use Rattle.handle_model.specs.Calls.{asked, has_left, is_taken, is_orphaned}

-- nca_s_fault_context_mismatch and nca_s_fault_cancel
abbrev pub context_mismatch : Status
context_mismatch = record { 0 = 0x1C00001A }

abbrev pub cancelled : Status
cancelled = record { 0 = 0x1C00000D }

-- an Orphan of the call, or the Leave of its connection
abbrev pub is_lost : History → ℕ → Bool
is_lost j k = is_orphaned j k || has_left j (asked j k)

-- what the end of the call said, where the call was not lost before
abbrev pub ended_with_since : Home → Base → List Entry → ℕ → Option Said
ended_with_since home base [] k = None
ended_with_since home base (End m results said ∷ past) k =
    if m == k then (if is_lost (since home base past) k then None else Some said) else ended_with_since home base past k
ended_with_since home base (_ ∷ past) k = ended_with_since home base past k

abbrev pub ended_with : History → ℕ → Option Said
ended_with j k = ended_with_since j.home j.base j.past k

abbrev pub reply_by : Option Said → Bool → Reply
reply_by (Some said) lost = Ran said
reply_by None lost = if lost then Dropped else Open

abbrev pub replies : History → ℕ → Reply
replies j k =
    if list_any (denies k) j.past then Never context_mismatch
    else (if list_any (cancels k) j.past && not (is_taken j k) then Never cancelled
    else reply_by (ended_with j k) (is_lost j k))
