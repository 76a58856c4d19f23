-- Which calls use a handle.
use Rattle.std.specs.Prelude.{◌≡◌, ℕ, ◌<◌, Bool, true, false, ◌&&◌, ◌||◌, not, ◌==◌, Option, Some, None, if◌then◌else◌, List}
use Rattle.std.specs.List.{list_any}
use Rattle.std.specs.Ordering.{nat_cmp, bool_cmp, ordering_then}
use Rattle.std.specs.declared.cmp.Ordering.{Ordering}
use Rattle.std.specs.BTreeSet.{BTreeSet, contains}
use Rattle.rpc_base.specs.declared.identifiers.WireHandle.{WireHandle}
use Rattle.handle_model.specs.declared.entry.Slot.{Slot}
use Rattle.handle_model.specs.Slots.{named, is_null, same_wire, same_handle, is_exclusive}
use Rattle.call_table.specs.declared.row.Row.{Row}

-- a use: the attributes and the identifier of the handle, whether the call waits, and its number
abbrev pub Use : Type 0
Use = ℕ × ℕ × Bool × ℕ

abbrev pub use_cmp : Use → Use → Ordering
use_cmp x y =
    ordering_then (ordering_then (ordering_then (nat_cmp x.0 y.0) (nat_cmp x.1 y.1)) (bool_cmp x.2 y.2)) (nat_cmp x.3 y.3)

-- the set has the use
abbrev pub has : BTreeSet Use → WireHandle → Bool → ℕ → Bool
has users w waits k = contains use_cmp users (w.attributes, w.id, waits, k)

-- the two say the same
abbrev pub agree : Bool → Bool → Bool
agree true b = b
agree false b = not b

-- one use is another
abbrev pub is_use : WireHandle → Bool → ℕ → WireHandle → Bool → ℕ → Bool
is_use v waits k w b m = same_wire v w && (agree waits b && (k == m))

abbrev pub is_use_of : Option WireHandle → Bool → ℕ → WireHandle → Bool → ℕ → Bool
is_use_of None waits k w b m = false
is_use_of (Some v) waits k w b m = is_use v waits k w b m

-- the handle that a slot uses, if it isn't null; where not any, only of an exclusive use
abbrev pub used_as : Bool → Bool → Option WireHandle → Option WireHandle
used_as any exclusive None = None
used_as any exclusive (Some w) = if not (is_null w) && (any || exclusive) then Some w else None

abbrev pub used : Bool → Slot → Option WireHandle
used any s = used_as any (is_exclusive s) (named s)

abbrev pub is_wire : WireHandle → Option WireHandle → Bool
is_wire w None = false
is_wire w (Some v) = same_wire v w

-- one of the slots uses the handle
abbrev pub uses_at : Bool → WireHandle → Slot → Bool
uses_at any w s = is_wire w (used any s)

abbrev pub uses : Bool → WireHandle → List Slot → Bool
uses any w ss = list_any (uses_at any w) ss

-- a use of the call with these slots
abbrev pub uses_as : Bool → List Slot → Bool → ℕ → WireHandle → Bool → ℕ → Bool
uses_as any ss waits k w b m = (uses any w ss && agree waits b) && (k == m)

-- a running call uses the handle, or a waiting one of a lesser number
abbrev pub IsUsedBefore : BTreeSet Use → WireHandle → ℕ → Type 0
IsUsedBefore users w k = (b : Bool) × (m : ℕ) × (has users w b m ≡ true) × (b ≡ true → m < k)

-- CALLS

-- the call of the row uses the handle, and waits or runs
abbrev pub claims : Bool → WireHandle → Bool → Row → Bool
claims any w waits r = uses any w r.slots && agree (not r.runs) waits

-- there is a row, and it is so
abbrev pub holds_in : (Row → Bool) → Option Row → Bool
holds_in p None = false
holds_in p (Some r) = p r
