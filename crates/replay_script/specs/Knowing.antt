-- What a load knows of its rounds.
use Rattle.std.specs.Prelude.{◌≡◌, ℕ, ◌<◌, List, [], length, slice_index_or}
use Rattle.replay_script.specs.declared.load.Load.{Load}
use Rattle.replay_script.specs.declared.slot.Slot.{Slot}
use Rattle.replay_script.specs.Drawing.{number_at}
use Rattle.replay_script.specs.Rounds.{Round, conn_of, call_of, handle_of, group_of, opened, conn_after, call_after, handle_after, group_after}

-- a slot behind these rounds
abbrev pub slot_in : List Round → ℕ → Slot
slot_in past s = record { conn = conn_of past s; call = call_of past s; handle = handle_of past s; group = group_of past s }

-- and behind a further round of its own
abbrev pub slot_after : Round → Slot → Slot
slot_after r x = record { conn = conn_after r x.conn; call = call_after r x.call; handle = handle_after r x.handle; group = group_after r x.group }

abbrev pub empty_slot : Slot
empty_slot = slot_in [] 0

-- It is the load of that number, behind these rounds.
pub record Knows (number : ℕ) (past : List Round) (x : Load) : Type 0 where
  pub number_is : x.number ≡ number_at number (length past)
  pub steps_are : x.steps ≡ length past
  pub opened_are : x.opened ≡ opened past
  pub eight : length x.slots ≡ 8
  pub slots_are : (s : ℕ) → s < 8 → slice_index_or x.slots s empty_slot ≡ slot_in past s
