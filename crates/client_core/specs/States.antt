-- The states of a caller's connection (C706, "Connection-oriented RPC protocol machines", client): what was begun and is
-- not yet answered.
use Rattle.std.specs.Prelude.{ℕ, ◌+◌, ◌%◌, ◌^◌, ◌==◌, ◌&&◌, Bool, true, false, not, if◌then◌else◌, Option, Some, None, is_some, List, [], filter}
use Rattle.std.specs.List.{list_any}
use Rattle.rpc_base.specs.declared.identifiers.Status.{Status}
use Rattle.pdu_codec.specs.Constants.{least_fragment}
use Rattle.pdu_stream.specs.Fragments.{Joining}
use Rattle.ndr_value.specs.Values.{Msg, msg}
use Rattle.ndr_table.specs.Tables.{TableForm}
use Rattle.client_core.specs.declared.begun.Stage.{Stage}
use Rattle.client_core.specs.declared.begun.Stage.TheVariants.{Unbound, Binding, Bound}
use Rattle.client_core.specs.declared.begun.Out.{Out}
use Rattle.client_core.specs.declared.begun.Out.TheVariants as outs
use Rattle.client_core.specs.declared.begun.CallOut.{CallOut}
use Rattle.client_core.specs.declared.told.ClientFault.{ClientFault}
use Rattle.client_core.specs.declared.told.Told.{Told}
use Rattle.client_core.specs.declared.told.Told.TheVariants as variants

-- an outcome without where its parts lie in memory
pub data Outcome : Type 0 where
  TBound : ℕ → Outcome
  TNotBound : ℕ → Outcome
  TDone : Msg → Outcome
  TFault : Status → Bool → Outcome
  TBroken : ClientFault → Outcome

abbrev pub told : Told → Outcome
told (variants.Bound group) = TBound group
told (variants.NotBound reason) = TNotBound reason
told (variants.Done m) = TDone (msg m)
told (variants.Fault status not_run) = TFault status not_run
told (variants.Broken fault) = TBroken fault

-- A call that is out: its call id, its operation, what was asked, and the response as far as its fragments came.
pub record Calling : Type 0 where
  pub id : ℕ
  pub op : ℕ
  pub message : Msg
  pub joining : Joining

-- A state: the interface; the call id of what was begun last; how far the binding is; the most octets of a fragment that
-- is sent; the call ids of the alter_contexts that are out, the oldest first; and the call that is out.
pub record ClientState : Type 0 where
  pub interface : TableForm
  pub newest : ℕ
  pub stage : Stage
  pub most : ℕ
  pub alters : List ℕ
  pub call : Option Calling

-- nothing was begun
abbrev pub at_start : TableForm → ClientState
at_start interface = record { interface = interface; newest = 0; stage = Unbound; most = least_fragment; alters = []; call = None }

abbrev pub is_bound_at : Stage → Bool
is_bound_at Bound = true
is_bound_at _ = false

abbrev pub is_binding_at : Stage → Bool
is_binding_at Binding = true
is_binding_at _ = false

abbrev pub is_bound : ClientState → Bool
is_bound s = is_bound_at s.stage

-- a call is out
abbrev pub is_calling : ClientState → Bool
is_calling s = is_some s.call

-- the call id of what is begun next: they count up, modulo 2^32
abbrev pub next_id : ClientState → ℕ
next_id s = (s.newest + 1) % 2 ^ 32

-- ---- what has a call id

-- a bind has call id 1
abbrev pub bind_id : ℕ
bind_id = 1

abbrev pub has_id : ℕ → Option Calling → Bool
has_id id None = false
has_id id (Some c) = c.id == id

abbrev pub is_id : ℕ → ℕ → Bool
is_id id other = other == id

-- what is out with the call id
abbrev pub out_with : ClientState → ℕ → Option Out
out_with s id =
    if is_binding_at s.stage && (id == bind_id) then Some outs.Bind
    else (if has_id id s.call then Some outs.Call
    else (if list_any (is_id id) s.alters then Some outs.Alter else None))

abbrev pub is_other : ℕ → ℕ → Bool
is_other id other = not (other == id)

abbrev pub without : ℕ → List ℕ → List ℕ
without id ids = filter (is_other id) ids

-- it is out no more
abbrev pub without_out : ClientState → Out → ℕ → ClientState
without_out s outs.Bind id = record s { stage = Unbound }
without_out s outs.Alter id = record s { alters = without id s.alters }
without_out s outs.Call id = record s { call = None }

-- ---- what is kept

abbrev pub calling : CallOut → Calling
calling c = record { id = c.call_id; op = c.op; message = msg c.message; joining = c.joiner }
