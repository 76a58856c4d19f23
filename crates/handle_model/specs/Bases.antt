-- What a base says.
use Rattle.std.specs.Prelude.{ℕ, Bool, ◌&&◌, ◌==◌, Option, List, [], filter, map}
use Rattle.std.specs.List.{list_any, find}
use Rattle.std.specs.Option.{option_map}
use Rattle.handle_model.specs.declared.entry.Home.{Home}
use Rattle.handle_model.specs.declared.entry.Slot.{Slot}
use Rattle.handle_model.specs.declared.entry.Asked.{Asked}
use Rattle.handle_model.specs.declared.entry.DueItem.{DueItem}
use Rattle.handle_model.specs.declared.base.BaseCall.{BaseCall}
use Rattle.handle_model.specs.declared.base.Base.{Base}
use Rattle.handle_model.specs.Slots.{wire_of, names}
use Rattle.handle_model.specs.Entries.{is_item_of}

-- what a new group goes on from
abbrev pub empty_base : Base
empty_base = record { count = 0; joins = 0; accepts = 0; opens = 0; conns = []; calls = []; handles = [] }

-- ITS CONNECTIONS AND CALLS

abbrev pub is_number : ℕ → ℕ → Bool
is_number n m = m == n

abbrev pub has_conn : Base → ℕ → Bool
has_conn base c = list_any (is_number c) base.conns

abbrev pub is_call : ℕ → BaseCall → Bool
is_call k c = c.call == k

abbrev pub is_taken_call : ℕ → BaseCall → Bool
is_taken_call k c = (c.call == k) && c.taken

abbrev pub is_cancelled_call : ℕ → BaseCall → Bool
is_cancelled_call k c = (c.call == k) && c.cancelled

abbrev pub is_orphaned_call : ℕ → BaseCall → Bool
is_orphaned_call k c = (c.call == k) && c.orphaned

-- what call k asked; whether it was taken, cancelled, orphaned
abbrev pub asked_before : Base → ℕ → Option Asked
asked_before base k = option_map (λ (c : BaseCall). c.asked) (find (is_call k) base.calls)

abbrev pub taken_before : Base → ℕ → Bool
taken_before base k = list_any (is_taken_call k) base.calls

abbrev pub cancelled_before : Base → ℕ → Bool
cancelled_before base k = list_any (is_cancelled_call k) base.calls

abbrev pub orphaned_before : Base → ℕ → Bool
orphaned_before base k = list_any (is_orphaned_call k) base.calls

-- those that were taken
abbrev pub taken_calls : Base → List BaseCall
taken_calls base = filter (λ (c : BaseCall). c.taken) base.calls

abbrev pub numbers_of : List BaseCall → List ℕ
numbers_of calls = map (λ (c : BaseCall). c.call) calls

-- ITS HANDLES

abbrev pub has_item : Base → ℕ → Bool
has_item base h = list_any (is_item_of h) base.handles

abbrev pub item_before : Base → ℕ → Option DueItem
item_before base h = find (is_item_of h) base.handles

abbrev pub kind_before : Base → ℕ → Option ℕ
kind_before base h = option_map (λ (i : DueItem). i.kind) (item_before base h)

abbrev pub cookie_before : Base → ℕ → Option ℕ
cookie_before base h = option_map (λ (i : DueItem). i.cookie) (item_before base h)

-- the serial of the handle that a slot names
abbrev pub is_named_by : Home → Slot → DueItem → Bool
is_named_by home s i = names (wire_of home i.serial) s

abbrev pub named_before : Home → Base → Slot → Option ℕ
named_before home base s = option_map (λ (i : DueItem). i.serial) (find (is_named_by home s) base.handles)

abbrev pub serials_of : List DueItem → List ℕ
serials_of items = map (λ (i : DueItem). i.serial) items
