-- What the slots of a call find among the live handles.
use Rattle.std.specs.Prelude.{ℕ, Bool, false, ◌==◌, Option, Some, None, List, [], map}
use Rattle.std.specs.Option.{option_map, option_and_then}
use Rattle.handle_model.specs.declared.entry.Home.{Home}
use Rattle.handle_model.specs.declared.entry.Slot.{Slot}
use Rattle.handle_model.specs.declared.entry.DueItem.{DueItem}
use Rattle.handle_model.specs.Slots.{kind_of, named}
use Rattle.handle_model.specs.Journal.{fault_by}
use Rattle.handle_table.specs.Handles.{item_of}

-- the live handle that the slot names
abbrev pub item_named : Home → List DueItem → Slot → Option DueItem
item_named home items s = option_and_then (item_of home items) (named s)

-- it is of the slot's kind
abbrev pub fits_kind : Slot → Option DueItem → Bool
fits_kind s None = false
fits_kind s (Some i) = i.kind == kind_of s

-- the slot names a live handle of its kind
abbrev pub is_usable_at : Home → List DueItem → Slot → Bool
is_usable_at home items s = fits_kind s (item_named home items s)

-- the first slot that is at fault
abbrev pub fault_at : Home → List DueItem → List Slot → Option ℕ
fault_at home items all = fault_by (is_usable_at home items) all [] all

-- the cookie of the handle that a slot names
abbrev pub cookie_at : Home → List DueItem → Slot → Option ℕ
cookie_at home items s = option_map (λ i. i.cookie) (item_named home items s)

abbrev pub cookies_at : Home → List DueItem → List Slot → List (Option ℕ)
cookies_at home items ss = map (cookie_at home items) ss
