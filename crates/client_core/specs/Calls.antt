-- What a caller begins: what it sends, and the state after it. Want of memory changes nothing.
use Rattle.std.specs.Prelude.{◌≡◌, ℕ, Bool, true, false, Option, Some, None, Result, Ok, Err, List, [], ◌∷◌, ◌++◌, length, slice_get, ⊤}
use Rattle.rpc_base.specs.declared.identifiers.Order.TheVariants.{Little}
use Rattle.pdu_codec.specs.Pdus.{pdu_octets}
use Rattle.ndr_value.specs.Values.{Msg}
use Rattle.ndr_model.specs.declared.way.Way.TheVariants.{Request}
use Rattle.ndr_model.specs.Written.{stub}
use Rattle.ndr_model.specs.Fits.{IsOfOp}
use Rattle.ndr_codec.specs.declared.written.EncodeFault.{EncodeFault}
use Rattle.ndr_codec.specs.Encoded.{Encodes}
use Rattle.rpc_base.specs.declared.fault.NoMemory.{NoMemory}
use Rattle.ndr_table.specs.Tables.{OpForm, TableForm}
use Rattle.client_core.specs.declared.begun.Stage.TheVariants.{Binding}
use Rattle.client_core.specs.States.{ClientState, Calling, at_start, bind_id, next_id, is_calling}
use Rattle.client_core.specs.Octets.{bind_pdu, alter_pdu, co_cancel, IsRequest}

-- ---- a bind, which begins anew

abbrev pub binding : ClientState → ClientState
binding s = record (at_start s.interface) { newest = bind_id; stage = Binding }

abbrev pub Binds : ClientState → ℕ → Result (List ℕ) NoMemory → ClientState → Type 0
Binds s group (Ok octets) n = (octets ≡ pdu_octets (bind_pdu s.interface.id group)) × (n ≡ binding s)
Binds s group (Err _) n = n ≡ s

-- ---- an alter_context

abbrev pub altering : ClientState → ClientState
altering s = record s { newest = next_id s; alters = s.alters ++ next_id s ∷ [] }

abbrev pub Alters : ClientState → ℕ → Result (List ℕ) NoMemory → ClientState → Type 0
Alters s context (Ok octets) n = (octets ≡ pdu_octets (alter_pdu (next_id s) s.interface.id context)) × (n ≡ altering s)
Alters s context (Err _) n = n ≡ s

-- ---- a call

-- the canonical octets of a request
abbrev pub asking : TableForm → OpForm → Msg → List ℕ
asking interface o m = stub interface.types o Request Little None m

-- the message is one of the operation of that number, as a request
abbrev pub IsMessage : TableForm → ℕ → Msg → Type 0
IsMessage interface op m = (o : OpForm) × (slice_get interface.ops op ≡ Some o) × IsOfOp interface.types o Request None m

-- A call is out until it is told, but for one that wants no answer.
abbrev pub out_call : ClientState → ℕ → Msg → Bool → Option Calling
out_call s op m true = None
out_call s op m false = Some (record { id = next_id s; op = op; message = m; joining = Ok None })

abbrev pub with_call : ClientState → ℕ → Msg → Bool → ClientState
with_call s op m maybe = record s { newest = next_id s; call = out_call s op m maybe }

-- The request has those octets as stub data, in fragments of the size that is agreed.
abbrev pub BeginsCall : ClientState → OpForm → ℕ → Msg → Result (List ℕ) EncodeFault → ClientState → Type 0
BeginsCall s o op m (Ok octets) n = IsRequest (next_id s) op o.maybe s.most (asking s.interface o m) octets × (n ≡ with_call s op m o.maybe)
BeginsCall s o op m (Err _) n = n ≡ s

-- Too many octets are refused.
abbrev pub CallsOp : ClientState → OpForm → ℕ → Msg → Result (List ℕ) EncodeFault → ClientState → Type 0
CallsOp s o op m result n = Encodes result (length (asking s.interface o m)) × BeginsCall s o op m result n

abbrev pub Calls : ClientState → ℕ → Msg → Result (List ℕ) EncodeFault → ClientState → Type 0
Calls s op m result n = (o : OpForm) × (slice_get s.interface.ops op ≡ Some o) × CallsOp s o op m result n

-- ---- a cancel of the call that is out, which changes nothing

abbrev pub CancelsCall : Option Calling → Result (List ℕ) NoMemory → Type 0
CancelsCall (Some c) (Ok octets) = octets ≡ pdu_octets (co_cancel c.id)
CancelsCall None (Ok octets) = ⊥
CancelsCall call (Err _) = ⊤

abbrev pub Cancels : ClientState → Result (List ℕ) NoMemory → ClientState → Type 0
Cancels s result n = CancelsCall s.call result × (n ≡ s)

-- ---- the connection is lost, and with it what was begun

abbrev pub Loses : ClientState → Bool → ClientState → Type 0
Loses s called n = (called ≡ is_calling s) × (n ≡ at_start s.interface)
