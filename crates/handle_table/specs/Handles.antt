-- The live handles of a group.
use Rattle.std.specs.Prelude.{ℕ, Bool, not, ◌==◌, nat_lt, Option, if◌then◌else◌, List, ◌∷◌, ◌++◌, filter, map}
use Rattle.std.specs.List.{list_any, find}
use Rattle.std.specs.Option.{option_map}
use Rattle.rpc_base.specs.declared.identifiers.WireHandle.{WireHandle}
use Rattle.handle_model.specs.declared.entry.Home.{Home}
use Rattle.handle_model.specs.declared.entry.DueItem.{DueItem}
use Rattle.handle_model.specs.Slots.{wire_of, same_wire}
use Rattle.handle_model.specs.Journal.{is_item_of}

-- whose they are, the handles by rising serial, and how many more may be issued before memory is taken
pub record Handles : Type 0 where
  pub home : Home
  pub items : List DueItem
  pub room : ℕ

-- a handle of this serial is live
abbrev pub has : List DueItem → ℕ → Bool
has items h = list_any (is_item_of h) items

abbrev pub item_at : List DueItem → ℕ → Option DueItem
item_at items h = find (is_item_of h) items

-- its kind and its cookie
abbrev pub looked : List DueItem → ℕ → Option (ℕ × ℕ)
looked items h = option_map (λ i. (i.kind, i.cookie)) (item_at items h)

-- the handle is known by this wire handle
abbrev pub is_wire : Home → WireHandle → DueItem → Bool
is_wire home wire i = same_wire wire (wire_of home i.serial)

-- the live handle that is known so, and its serial
abbrev pub item_of : Home → List DueItem → WireHandle → Option DueItem
item_of home items wire = find (is_wire home wire) items

abbrev pub found : Home → List DueItem → WireHandle → Option ℕ
found home items wire = option_map (λ i. i.serial) (item_of home items wire)

-- EDITS

-- its serial is below h, is above h, is not h
abbrev pub is_below : ℕ → DueItem → Bool
is_below h i = nat_lt i.serial h

abbrev pub is_above : ℕ → DueItem → Bool
is_above h i = nat_lt h i.serial

abbrev pub is_other : ℕ → DueItem → Bool
is_other h i = not (i.serial == h)

-- a handle comes, in the place of its serial
abbrev pub with_item : DueItem → List DueItem → List DueItem
with_item i items = filter (is_below i.serial) items ++ i ∷ filter (is_above i.serial) items

-- a handle goes
abbrev pub without : ℕ → List DueItem → List DueItem
without h items = filter (is_other h) items

-- a handle has another cookie
abbrev pub cookie_set : ℕ → ℕ → DueItem → DueItem
cookie_set h cookie i = if i.serial == h then record { serial = i.serial; kind = i.kind; cookie = cookie } else i

abbrev pub with_cookie : ℕ → ℕ → List DueItem → List DueItem
with_cookie h cookie items = map (cookie_set h cookie) items
