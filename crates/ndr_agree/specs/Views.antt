-- What is compared, as the definitions see it.
use Rattle.std.specs.Prelude.{ℕ, List, map, Option, Some, None}
use Rattle.ndr_value.specs.declared.shape.Shape.{Shape}
use Rattle.ndr_value.specs.declared.shape.Arm.{Arm}
use Rattle.ndr_value.specs.Forms.{Form, form, arms_of, OfUnion}
use Rattle.ndr_value.specs.Values.{Msg, val, vals, msg}
use Rattle.ndr_value.specs.declared.value.Message.{Message}
use Rattle.ndr_table.specs.Shown.{shown}
use Rattle.ndr_table.specs.declared.operation.Param.{Param}
use Rattle.ndr_table.specs.Tables.{param_form, result_form, op_form}
use Rattle.ndr_model.specs.declared.mark.Mark.{Mark}
use Rattle.ndr_model.specs.Stub.{Entry, entries_of}
use Rattle.ndr_model.specs.Named as names
use Rattle.ndr_model.specs.Compare as comparing
use Rattle.ndr_agree.specs.declared.call.Call.{Call}
use Rattle.ndr_agree.specs.declared.named.Known.{Known}
use Rattle.ndr_agree.specs.declared.check.Check.{Check}

abbrev pub types_in : Call → List Form
types_in c = (shown c.table.now).types

abbrev pub asked_of : {A : Type 0} → (A → Message) → Option A → Option Msg
asked_of seen None = None
asked_of seen (Some m) = Some (msg (seen m))

abbrev pub call_of : Call → names.Call
call_of c = record { op = op_form c.op.now; way = c.way; asked = asked_of (λ m. m.now) c.asked; said = msg c.said.now }

abbrev pub known_of : Known → names.Known
known_of k = record { value = val k.value.now; heap = vals k.heap.now }

abbrev pub check_of : Check → comparing.Check
check_of c = record { off = c.off; left = c.left.now }

-- before anything is compared
abbrev pub all_left : List Mark → comparing.Check
all_left marks = record { off = None; left = marks }

abbrev pub union_form : Shape → List Arm → Form
union_form kind arms = OfUnion (form kind) (arms_of arms)

-- a definition by types and call, for those of a call
abbrev pub within : {A : Type 0} → Call → (List Form → names.Call → A) → A
within c f = f (types_in c) (call_of c)

-- how values are compared, so many constructs and names deep at most, on so many levels of pointers
abbrev pub compare_in : Call → ℕ → ℕ → comparing.Compared
compare_in c fuel = within c comparing.compare fuel

-- what stands in a stub of the call for those parameters, which are its last ones, and for its result
abbrev pub entries_from : Call → List Param → List Entry
entries_from c params = entries_of c.way (map param_form params) (result_form c.op.now.result)
