-- Reading where constructs and names may stand n deep.
use Rattle.std.specs.Prelude.{◌≡◌, ℕ, ◌≤◌, List, Option, None, Result}
use Rattle.rpc_base.specs.declared.identifiers.Order.{Order}
use Rattle.ndr_value.specs.Forms.{Form}
use Rattle.ndr_value.specs.Values.{Msg}
use Rattle.ndr_table.specs.Tables.{OpForm}
use Rattle.ndr_arrays.specs.Bind.{◌>>=◌}
use Rattle.ndr_model.specs.declared.departure.Departure.{Departure}
use Rattle.ndr_model.specs.declared.way.Way.{Way}
use Rattle.ndr_model.specs.declared.mark.Mark.{Mark}
use Rattle.ndr_model.specs.Stub.{entries}
use Rattle.ndr_model.specs.Build.{read_values}
use Rattle.ndr_model.specs.Compare.{compare_entries}
use Rattle.ndr_model.specs.Message.{enough, message_of, unless_off, read_stub}
use Rattle.ndr_laws.specs.Laws.{IsOp}

-- as `read_stub`, with n for the levels that are enough
abbrev pub compared_with : ℕ → List Form → OpForm → Way → Option Msg → List Mark → Msg → Result Msg Departure
compared_with n types op way asked marks m =
    unless_off m (compare_entries types (record { op = op; way = way; asked = asked; said = m }) n (entries way op) m.values (record { off = None; left = marks })).off

abbrev pub read_with : ℕ → List Form → OpForm → Way → Order → Option Msg → List ℕ → Result Msg Departure
read_with n types op way order asked octets =
    read_values types order octets n (entries way op) >>= λ x. message_of x.0 x.1 >>= λ m. compared_with n types op way asked x.1.marks m

-- whatever the octets, more levels read the same or depart alike
abbrev pub FuelSuffices : Type 0
FuelSuffices = (n : ℕ) (types : List Form) (op : OpForm) (way : Way) (order : Order) (asked : Option Msg) (octets : List ℕ)
    → IsOp types op → enough ≤ n → read_with n types op way order asked octets ≡ read_stub types op way order asked octets
