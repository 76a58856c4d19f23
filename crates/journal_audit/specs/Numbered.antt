-- What the lines of a base said so far, by number: its connections, the serials that its calls may issue, and the handles that
-- its taken calls use.
use Rattle.std.specs.Prelude.{◌≡◌, ℕ, Bool, true, false, ◌&&◌, ◌||◌, not, ◌==◌, nat_lt, nat_le, Option, Some, None, is_some, List}
use Rattle.std.specs.List.{list_any}
use Rattle.std.specs.Option.{option_and_then}
use Rattle.std.specs.Ordering.{nat_cmp}
use Rattle.std.specs.BTreeSet.{BTreeSet, contains}
use Rattle.handle_model.specs.declared.entry.Home.{Home}
use Rattle.handle_model.specs.declared.entry.Slot.{Slot}
use Rattle.handle_model.specs.declared.entry.DueItem.{DueItem}
use Rattle.handle_model.specs.declared.base.BaseCall.{BaseCall}
use Rattle.handle_model.specs.declared.base.Base.{Base}
use Rattle.handle_model.specs.Slots.{wire_of, names, named, kind_of, is_exclusive}
use Rattle.handle_model.specs.Bases.{is_number, has_conn}
use Rattle.handle_model.specs.Sound.{opening}
use Rattle.handle_table.specs.Handles.{Handles, found, looked}
use Rattle.journal_audit.specs.Sounds.{taken_of}

-- the set has the number
abbrev pub has : BTreeSet ℕ → ℕ → Bool
has numbers n = contains nat_cmp numbers n

-- a slot names the handle of that serial; and its call alone may use it
abbrev pub uses_at : Home → ℕ → Slot → Bool
uses_at home h s = names (wire_of home h) s

abbrev pub holds_at : Home → ℕ → Slot → Bool
holds_at home h s = names (wire_of home h) s && is_exclusive s

-- a slot of the call does
abbrev pub uses_in : Home → ℕ → BaseCall → Bool
uses_in home h c = list_any (uses_at home h) c.asked.slots

abbrev pub holds_in : Home → ℕ → BaseCall → Bool
holds_in home h c = list_any (holds_at home h) c.asked.slots

-- and a slot of one of the calls
abbrev pub uses : Home → ℕ → List BaseCall → Bool
uses home h cs = list_any (uses_in home h) cs

abbrev pub holds : Home → ℕ → List BaseCall → Bool
holds home h cs = list_any (holds_in home h) cs

-- the serial of the base's handle that a slot names
abbrev pub serial_named : Home → List DueItem → Slot → Option ℕ
serial_named home items s = option_and_then (found home items) (named s)

-- what is kept beside a base, by number
pub record Kept (home : Home) (base : Base) (table : Handles) (conns serials used held : BTreeSet ℕ) : Type 0 where
  pub table_is : table ≡ record { home = home; items = base.handles; room = 0 }
  pub conns_are : (c : ℕ) → has conns c ≡ has_conn base c
  pub serials_are : (n : ℕ) → has serials n ≡ list_any (is_number n) (opening base.calls)
  pub used_are : (h : ℕ) → has used h ≡ uses home h (taken_of base.calls)
  pub held_are : (h : ℕ) → has held h ≡ holds home h (taken_of base.calls)

-- the base as far as it was read, and whose it is
pub record Grown : Type 0 where
  pub home : Home
  pub base : Base

-- WHAT IS LOOKED UP

-- the handle of that serial is of the kind
abbrev pub has_kind : ℕ → Option (ℕ × ℕ) → Bool
has_kind kind None = false
has_kind kind (Some x) = x.0 == kind

abbrev pub is_kind_at : List DueItem → ℕ → Option ℕ → Bool
is_kind_at items kind None = false
is_kind_at items kind (Some h) = has_kind kind (looked items h)

-- the slot names no handle, or one of the base's of its kind
abbrev pub known_by : Home → List DueItem → Slot → Bool
known_by home items s = not (is_some (named s)) || is_kind_at items (kind_of s) (serial_named home items s)

-- it may be used beside those of the taken calls
abbrev pub free_at : BTreeSet ℕ → BTreeSet ℕ → Bool → Option ℕ → Bool
free_at used held exclusive None = true
free_at used held exclusive (Some h) = not (has held h || exclusive && has used h)

abbrev pub free_by : Home → List DueItem → BTreeSet ℕ → BTreeSet ℕ → Slot → Bool
free_by home items used held s = free_at used held (is_exclusive s) (serial_named home items s)

-- the call's connection is open, or it was taken
abbrev pub fresh_by : BTreeSet ℕ → BaseCall → Bool
fresh_by conns c = c.taken || has conns c.asked.conn && not c.cancelled && not c.orphaned

-- the serial may be issued yet
abbrev pub opens_by : List DueItem → ℕ → BTreeSet ℕ → ℕ → Bool
opens_by items opens serials n = nat_lt 0 n && nat_le n opens && not (is_some (looked items n)) && not (has serials n)

-- the slot names the handle of that serial
abbrev pub is_serial : ℕ → Option ℕ → Bool
is_serial h None = false
is_serial h (Some g) = g == h

abbrev pub uses_by : Home → List DueItem → ℕ → Slot → Bool
uses_by home items h s = is_serial h (serial_named home items s)

abbrev pub holds_by : Home → List DueItem → ℕ → Slot → Bool
holds_by home items h s = is_serial h (serial_named home items s) && is_exclusive s
