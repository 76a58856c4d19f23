-- What became of a handle, by the whole journal.
use Rattle.std.specs.Prelude.{ℕ, ◌==◌, Bool, false, Option, Some, None, if◌then◌else◌, List}
use Rattle.std.specs.List.{list_any}
use Rattle.rpc_base.specs.declared.identifiers.WireHandle.{WireHandle}
use Rattle.handle_model.specs.declared.entry.Slot.{Slot}
use Rattle.handle_model.specs.declared.entry.Slot.TheVariants.{Shares}
use Rattle.handle_model.specs.declared.entry.Entry.{Entry}
use Rattle.handle_model.specs.declared.entry.Entry.TheVariants.{Accept}
use Rattle.handle_model.specs.Journal as journals
use Rattle.world_laws.specs.Journals.{journal}

-- the serial of the handle, among those that were issued
abbrev pub serial_of : List Entry → WireHandle → Option ℕ
serial_of past handle = journals.serial_named (journal past) (Shares 0 handle)

-- it was issued, and is neither closed nor run down
abbrev pub is_live_as : List Entry → Option ℕ → Bool
is_live_as past None = false
is_live_as past (Some h) = journals.is_live (journal past) h

abbrev pub is_live : List Entry → WireHandle → Bool
is_live past handle = is_live_as past (serial_of past handle)

-- it was run down when the group ended
abbrev pub is_in_shut_as : List Entry → Option ℕ → Bool
is_in_shut_as past None = false
is_in_shut_as past (Some h) = list_any (journals.runs_down h) past

abbrev pub is_in_shut : List Entry → WireHandle → Bool
is_in_shut past handle = is_in_shut_as past (serial_of past handle)

-- the slots of the call, where the entry is its Accept
abbrev pub slots_at : ℕ → Entry → Option (List Slot)
slots_at k (Accept m a) = if m == k then Some a.slots else None
slots_at k _ = None
