-- Context handles and the slots that name them.
use Rattle.std.specs.Prelude.{ℕ, ◌+◌, ◌*◌, ◌^◌, Bool, true, false, ◌&&◌, ◌||◌, not, ◌==◌, Option, Some, None}
use Rattle.rpc_base.specs.declared.identifiers.WireHandle.{WireHandle}
use Rattle.handle_model.specs.declared.entry.Home.{Home}
use Rattle.handle_model.specs.declared.entry.Slot.{Slot}
use Rattle.handle_model.specs.declared.entry.Slot.TheVariants.{Shares, Holds, Changes, Opens}

-- the handle with this serial in a group
abbrev pub wire_of : Home → ℕ → WireHandle
wire_of home serial = record { attributes = 0; id = home.boot * 2 ^ 64 + home.group * 2 ^ 32 + serial }

abbrev pub same_wire : WireHandle → WireHandle → Bool
same_wire a b = (a.attributes == b.attributes) && (a.id == b.id)

abbrev pub is_null : WireHandle → Bool
is_null a = (a.attributes == 0) && (a.id == 0)

abbrev pub kind_of : Slot → ℕ
kind_of (Shares kind wire) = kind
kind_of (Holds kind wire) = kind
kind_of (Changes kind wire) = kind
kind_of (Opens kind serial) = kind

-- the handle that a slot names
abbrev pub named : Slot → Option WireHandle
named (Shares kind wire) = Some wire
named (Holds kind wire) = Some wire
named (Changes kind wire) = Some wire
named (Opens kind serial) = None

abbrev pub names : WireHandle → Slot → Bool
names wire (Shares kind w) = same_wire w wire
names wire (Holds kind w) = same_wire w wire
names wire (Changes kind w) = same_wire w wire
names wire (Opens kind serial) = false

-- a serialised [in] use and each [in, out] use of a handle exclude others
abbrev pub is_exclusive : Slot → Bool
is_exclusive (Shares kind wire) = false
is_exclusive (Holds kind wire) = true
is_exclusive (Changes kind wire) = true
is_exclusive (Opens kind serial) = false

-- a slot that may issue a handle
abbrev pub opens : Slot → Bool
opens (Opens kind serial) = true
opens _ = false

-- a slot that names the handle, where there is one
abbrev pub same_name : Option WireHandle → Slot → Bool
same_name None s = false
same_name (Some wire) s = names wire s

-- the two name one handle that is not null
abbrev pub same_handle : Option WireHandle → Option WireHandle → Bool
same_handle (Some a) (Some b) = not (is_null a) && same_wire a b
same_handle (Some a) None = false
same_handle None b = false

-- the two name one handle, and one of the two uses at least is exclusive
abbrev pub clash : Slot → Slot → Bool
clash a b = same_handle (named a) (named b) && (is_exclusive a || is_exclusive b)

abbrev pub with_serial : ℕ → Slot → Slot
with_serial n (Opens kind serial) = Opens kind n
with_serial n s = s
