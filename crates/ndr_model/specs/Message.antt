-- The message of an operation that a stub is.
use Rattle.std.specs.Prelude.{ℕ, zero, suc, ◌*◌, List, length, Option, Some, None, Result, Ok, Err}
use Rattle.rpc_base.specs.declared.identifiers.Order.{Order}
use Rattle.ndr_value.specs.Forms.{Form}
use Rattle.ndr_value.specs.Values.{Val, Vals, no_val, then_val, Msg}
use Rattle.ndr_table.specs.Tables.{OpForm}
use Rattle.ndr_arrays.specs.Bind.{◌>>=◌}
use Rattle.ndr_model.specs.declared.departure.Departure.{Departure}
use Rattle.ndr_model.specs.declared.departure.Departure.TheVariants.{TooDeep}
use Rattle.ndr_model.specs.declared.way.Way.{Way}
use Rattle.ndr_model.specs.declared.mark.Mark.{Mark}
use Rattle.ndr_model.specs.Places.{Last}
use Rattle.ndr_model.specs.Stub.{entries, item, IsRead}
use Rattle.ndr_model.specs.Agree.{AgreeTogether}
use Rattle.ndr_model.specs.Build.{read_values}
use Rattle.ndr_model.specs.Compare.{compare_entries}

-- the octets are a stub of the message: its values stand there, and each count, tag and number with a range agrees with what names it
pub record IsStub (types : List Form) (op : OpForm) (way : Way) (order : Order) (asked : Option Msg) (m : Msg) (octets : List ℕ) : Type 0 where
  pub end : Last
  pub read : IsRead types order octets (entries way op) m end
  pub left : List Mark
  pub agree : AgreeTogether types (record { op = op; way = way; asked = asked; said = m }) (entries way op) m.values end.marks left

-- ---- how it is read, and the first departure

-- types, parameters and results nest by value 256 levels at most, so between a pointer and the next there are less than 1024
-- constructs and names, and there are 256 levels of pointers
abbrev pub enough : ℕ
enough = 257 * 1024

abbrev pub front_of : Option Val → Option Vals → Option Vals
front_of (Some v) (Some vs) = Some (then_val v vs)
front_of _ _ = None

-- so many items of the heap, from number n on
abbrev pub heap_from : List (ℕ × Val) → ℕ → ℕ → Option Vals
heap_from items n zero = Some no_val
heap_from items n (suc k) = front_of (item items n) (heap_from items (suc n) k)

abbrev pub with_items : Vals → Last → Option Vals → Result Msg Departure
with_items vs q None = Err (TooDeep 0)
with_items vs q (Some heap) = Ok (record { values = vs; heap = heap; wires = q.here.wires })

-- the message whose values were read
abbrev pub message_of : Vals → Last → Result Msg Departure
message_of vs q = with_items vs q (heap_from q.items 0 (length q.here.met))

abbrev pub unless_off : Msg → Option Departure → Result Msg Departure
unless_off m None = Ok m
unless_off m (Some d) = Err d

abbrev pub compared : List Form → OpForm → Way → Option Msg → List Mark → Msg → Result Msg Departure
compared types op way asked marks m = unless_off m (compare_entries types (record { op = op; way = way; asked = asked; said = m }) enough (entries way op) m.values (record { off = None; left = marks })).off

unfoldable pub read_stub : List Form → OpForm → Way → Order → Option Msg → List ℕ → Result Msg Departure
read_stub types op way order asked octets =
    read_values types order octets enough (entries way op) >>= λ x. message_of x.0 x.1 >>= λ m. compared types op way asked x.1.marks m
