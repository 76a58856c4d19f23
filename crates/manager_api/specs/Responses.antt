-- Responses that are made from values alone.
use Rattle.std.specs.Prelude.{ℕ, List, [], ◌∷◌, replicate}
use Rattle.rpc_base.specs.declared.identifiers.WireHandle.{WireHandle}
use Rattle.ndr_value.specs.Values.{VUint, VHandle, Vals, no_val, then_val, Msg}

abbrev pub null_handle : WireHandle
null_handle = record { attributes = 0; id = 0 }

-- no full pointer, and so many handles, each null
abbrev pub response : Vals → ℕ → Msg
response values handles = record { values = values; heap = no_val; wires = replicate handles null_handle }

-- one handle, and a status as the result
abbrev pub handle_and_status : ℕ → Msg
handle_and_status status = response (then_val (VHandle 0) (then_val (VUint status) no_val)) 1
