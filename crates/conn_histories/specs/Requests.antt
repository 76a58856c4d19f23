-- What a request asks of the interfaces that are served, and why it is refused before it is accepted.
use Rattle.std.specs.Prelude.{◌≡◌, ℕ, ◌+◌, ◌*◌, ◌^◌, if◌then◌else◌, Option, Some, None, Err, List, [], ◌∷◌, map, slice_get}
use Rattle.rpc_base.specs.declared.identifiers.Order.{Order}
use Rattle.rpc_base.specs.declared.identifiers.Status.{Status}
use Rattle.rpc_base.specs.declared.identifiers.SyntaxId.{SyntaxId}
use Rattle.rpc_base.specs.declared.identifiers.WireHandle.{WireHandle}
use Rattle.handle_model.specs.declared.entry.Slot.{Slot}
use Rattle.handle_model.specs.declared.entry.Slot.TheVariants.{Shares, Holds, Changes, Opens}
use Rattle.handle_model.specs.Slots.{is_null, with_serial}
use Rattle.ndr_value.specs.Forms.{Form}
use Rattle.ndr_value.specs.Values.{Msg}
use Rattle.ndr_table.specs.declared.operation.HandleUse.{HandleUse}
use Rattle.ndr_table.specs.Tables.{OpForm, TableForm}
use Rattle.manager_api.specs.Messages.{Departure}
use Rattle.manager_api.specs.Messages.{Request}
use Rattle.manager_api.specs.Messages.{IsStub, read_stub}
use Rattle.manager_api.specs.Messages.{fault_of, status_of}
use Rattle.manager_api.specs.Calls.{uses_at}

-- THE INTERFACES, by number

abbrev pub types_in : Option TableForm → List Form
types_in None = []
types_in (Some t) = t.types

abbrev pub op_in : Option TableForm → ℕ → Option OpForm
op_in None op = None
op_in (Some t) op = slice_get t.ops op

abbrev pub uses_in : Option TableForm → ℕ → List HandleUse
uses_in None op = []
uses_in (Some t) op = uses_at t op

-- the types of an interface, an operation of it, and the handles of that operation
abbrev pub types_of : List TableForm → ℕ → List Form
types_of tables iface = types_in (slice_get tables iface)

abbrev pub op_of : List TableForm → ℕ → ℕ → Option OpForm
op_of tables iface op = op_in (slice_get tables iface) op

abbrev pub uses_of : List TableForm → ℕ → ℕ → List HandleUse
uses_of tables iface op = uses_in (slice_get tables iface) op

-- the identifiers of the interfaces
abbrev pub ids_of : List TableForm → List SyntaxId
ids_of tables = map (λ (t : TableForm). t.id) tables

-- THE MESSAGE OF A REQUEST

-- the octets are a stub of the message, as a request of that operation
pub record IsAsked (tables : List TableForm) (iface op : ℕ) (order : Order) (stub : List ℕ) (m : Msg) : Type 0 where
  pub operation : OpForm
  pub found : op_of tables iface op ≡ Some operation
  pub decoded : IsStub (types_of tables iface) operation Request order None m stub

-- ITS SLOTS (C706, "Interface Definition Language", context handles)

-- the kind of a handle type: the number of its interface, and its own in there
abbrev pub kind_in : ℕ → HandleUse → ℕ
kind_in iface u = iface * 2 ^ 16 + u.kind

-- a handle that may be issued gets its serial when the call is accepted
abbrev pub opening : ℕ → HandleUse → Slot
opening iface u = Opens (kind_in iface u) 0

-- A handle that goes out too is opened where it came as null, and else it is changed. One that only goes in is held
-- where its type is serialised, and else it is shared.
abbrev pub slot_for : ℕ → HandleUse → WireHandle → Slot
slot_for iface u w =
    if u.outward then (if is_null w then opening iface u else Changes (kind_in iface u) w)
    else (if u.serialised then Holds (kind_in iface u) w else Shares (kind_in iface u) w)

-- one slot for each handle of the operation; those that go in stand in the request, in order
abbrev pub slots_for : ℕ → List HandleUse → List WireHandle → List Slot
slots_for iface [] ws = []
slots_for iface (u ∷ us) [] = if u.inward then [] else opening iface u ∷ slots_for iface us []
slots_for iface (u ∷ us) (w ∷ ws) = if u.inward then slot_for iface u w ∷ slots_for iface us ws else opening iface u ∷ slots_for iface us (w ∷ ws)

-- the slots are those of the request's message, but for serials
pub record HasSlots (tables : List TableForm) (iface op : ℕ) (order : Order) (stub : List ℕ) (slots : List Slot) : Type 0 where
  pub message : Msg
  pub asked : IsAsked tables iface op order stub message
  pub slots_are : map (with_serial 0) slots ≡ slots_for iface (uses_of tables iface op) message.wires

-- REFUSALS

-- nca_s_op_rng_error, nca_s_server_too_busy, nca_s_fault_remote_no_memory
abbrev pub op_range : Status
op_range = record { 0 = 0x1C010002 }

abbrev pub too_busy : Status
too_busy = record { 0 = 0x1C010014 }

abbrev pub no_memory : Status
no_memory = record { 0 = 0x1C00001B }

-- Why a request is refused with that status: there is no such operation; its octets are no stub, by the first departure;
-- memory ran out; or the group takes no call with its slots. Each but the first comes only where there is the operation,
-- and the last one only where there is a message.
pub data IsRefused (tables : List TableForm) (iface op : ℕ) (order : Order) (stub : List ℕ) (Full : List Slot → Type 0) (status : Status) : Type 0 where
  no_operation : op_of tables iface op ≡ None → status ≡ op_range → IsRefused tables iface op order stub Full status
  no_stub : (o : OpForm) (d : Departure) → op_of tables iface op ≡ Some o → read_stub (types_of tables iface) o Request order None stub ≡ Err d
      → status ≡ status_of (fault_of d) → IsRefused tables iface op order stub Full status
  no_room : (o : OpForm) → op_of tables iface op ≡ Some o → status ≡ no_memory → IsRefused tables iface op order stub Full status
  full : (slots : List Slot) → HasSlots tables iface op order stub slots → Full slots → status ≡ too_busy → IsRefused tables iface op order stub Full status
