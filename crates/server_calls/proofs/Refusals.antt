-- Why a request is refused.
use Rattle.std.proofs.Common.{◌≡◌, ℕ, ◌≤◌, List, Option, Some, None, Result, Ok, Err, refl, sym, ap, subst, ◌∙◌}
use Rattle.std.specs.Prelude.{slice_get}
use Rattle.std.proofs.lemmas.Option.{slice_get_past}
use Rattle.rpc_base.specs.declared.identifiers.Order.{Order}
use Rattle.rpc_base.specs.declared.identifiers.Status.{Status}
use Rattle.handle_model.specs.declared.entry.Slot.{Slot}
use Rattle.ndr_value.specs.Forms.{Form}
use Rattle.ndr_value.specs.Values.{Msg}
use Rattle.ndr_table.specs.Tables.{OpForm, TableForm}
use Rattle.ndr_model.specs.declared.departure.Departure.{Departure}
use Rattle.ndr_model.specs.declared.departure.Departure.TheVariants as departures
use Rattle.ndr_model.specs.declared.way.Way.TheVariants.{Request}
use Rattle.ndr_model.specs.Message.{read_stub}
use Rattle.ndr_model.specs.declared.fault.NdrFault.{NdrFault}
use Rattle.ndr_model.specs.declared.fault.NdrFault.TheVariants.{Short, Bound, Tag, Pointer, Text, TooDeep, Trailing, Memory}
use Rattle.ndr_model.specs.Faults.{IsFault, fault_of, status_of}
use Rattle.conn_histories.specs.Requests.{types_in, op_in, IsRefused, no_operation, no_stub, no_room, full}

-- a refusal stays one, whichever groups are full
pub grows : (tables : List TableForm) (iface op : ℕ) (order : Order) (stub : List ℕ) (Few Full : List Slot → Type 0) (status : Status)
    → ((slots : List Slot) → Few slots → Full slots) → IsRefused tables iface op order stub Few status → IsRefused tables iface op order stub Full status
grows tables iface op order stub Few Full status more (no_operation e s) = no_operation e s
grows tables iface op order stub Few Full status more (no_stub o d e r s) = no_stub o d e r s
grows tables iface op order stub Few Full status more (no_room o e s) = no_room o e s
grows tables iface op order stub Few Full status more (full slots h f s) = full slots h (more slots f) s

module _ (tables : List TableForm) (iface op : ℕ) (order : Order) (stub : List ℕ) (Full : List Slot → Type 0) where
  pub none_served : slice_get tables iface ≡ None → IsRefused tables iface op order stub Full (record { 0 = 0x1C010002 })
  none_served e = no_operation (ap (λ (o : Option TableForm). op_in o op) e) refl

  module _ (t : TableForm) (at : slice_get tables iface ≡ Some t) where
    pub none_there : slice_get t.ops op ≡ None → IsRefused tables iface op order stub Full (record { 0 = 0x1C010002 })
    none_there e = no_operation (ap (λ (o : Option TableForm). op_in o op) at ∙ e) refl

    module _ (o : OpForm) (is : slice_get t.ops op ≡ Some o) where
      found : op_in (slice_get tables iface) op ≡ Some o
      found = ap (λ (x : Option TableForm). op_in x op) at ∙ is

      pub out_of_memory : IsRefused tables iface op order stub Full (record { 0 = 0x1C00001B })
      out_of_memory = no_room o found refl

      departs : (d : Departure) (status : Status) → read_stub t.types o Request order None stub ≡ Err d → status ≡ status_of (fault_of d)
          → IsRefused tables iface op order stub Full status
      departs d status e s =
          no_stub o d found (subst (λ (x : Option TableForm). read_stub (types_in x) o Request order None stub ≡ Err d) (sym at) e) s

      pub refused : (f : NdrFault) → IsFault f (read_stub t.types o Request order None stub) → IsRefused tables iface op order stub Full (status_of f)
      refused Memory e = out_of_memory
      refused (Short n) e = departs (departures.Short n) (status_of (Short n)) e refl
      refused (Bound n) e = departs (departures.Bound n) (status_of (Bound n)) e refl
      refused (Tag n) e = departs (departures.Tag n) (status_of (Tag n)) e refl
      refused (Pointer n) e = departs (departures.Pointer n) (status_of (Pointer n)) e refl
      refused (Text n) e = departs (departures.Text n) (status_of (Text n)) e refl
      refused (TooDeep n) e = departs (departures.TooDeep n) (status_of (TooDeep n)) e refl
      refused (Trailing n) e = departs (departures.Trailing n) (status_of (Trailing n)) e refl
