-- What is found of a call or a PDU in parts, before all of it is.
use Rattle.std.specs.Prelude.{◌≡◌, ◌≢◌, ℕ, ◌<◌, Option, Some, None, Result, Ok, Err, List, length, slice_get, IfSome, IfOk, ⊤}
use Rattle.std.specs.Option.{option_map}
use Rattle.rpc_base.specs.declared.fault.NoMemory.{NoMemory}
use Rattle.rpc_base.specs.declared.identifiers.Order.TheVariants.{Little}
use Rattle.pdu_stream.specs.declared.joined.Joined.{Joined}
use Rattle.pdu_stream.specs.declared.joined.JoinFault.{JoinFault}
use Rattle.pdu_stream.specs.Fragments.{Fragment, Joining, AddsFragment}
use Rattle.ndr_value.specs.Values.{Msg, msg}
use Rattle.ndr_value.specs.declared.value.Message.{Message}
use Rattle.ndr_table.specs.Tables.{OpForm, TableForm}
use Rattle.ndr_codec.specs.declared.written.EncodeFault.{EncodeFault}
use Rattle.ndr_codec.specs.Encoded.{Encodes}
use Rattle.ndr_model.specs.Faults.{IsFault}
use Rattle.ndr_model.specs.declared.way.Way.TheVariants.{Request, Response}
use Rattle.ndr_model.specs.Message.{IsStub, read_stub}
use Rattle.ndr_model.specs.declared.fault.NdrFault.{NdrFault}
use Rattle.ndr_model.specs.declared.fault.NdrFault.TheVariants as faults
use Rattle.client_core.specs.declared.begun.CallOut.{CallOut}
use Rattle.client_core.specs.declared.begun.Out.{Out}
use Rattle.client_core.specs.declared.begun.Out.TheVariants as outs
use Rattle.client_core.specs.declared.told.ClientFault.TheVariants.{Direction, Ndr}
use Rattle.client_core.specs.declared.told.Told.{Told}
use Rattle.client_core.specs.declared.told.Told.TheVariants as variants
use Rattle.client_core.specs.States.{told, Calling, calling, ClientState, next_id}
use Rattle.client_core.specs.Octets.{IsRequest}
use Rattle.client_core.specs.Calls.{asking, out_call, CallsOp}
use Rattle.client_core.specs.Hears.{AnswersCall, RunsShortAt, joined_so_far, IsAnswer, Departs}

-- ---- what is kept

-- the call that is out is of an operation of the interface
abbrev pub HasOp : TableForm → Option CallOut → Type 0
HasOp interface call = IfSome call (λ c. c.op < length interface.ops)

-- ---- calls

-- what is found of a call before it begins: its octets, and the call, if it is out then
abbrev pub FindsCall : ClientState → OpForm → ℕ → Msg → Result (List ℕ × Option CallOut) EncodeFault → Type 0
FindsCall s o op m (Ok begun) =
    IsRequest (next_id s) op o.maybe s.most (asking s.interface o m) begun.0 × (option_map calling begun.1 ≡ out_call s op m o.maybe) × HasOp s.interface begun.1
FindsCall s o op m (Err _) = ⊤

abbrev pub Finds : ClientState → ℕ → Msg → Result (List ℕ × Option CallOut) EncodeFault → Type 0
Finds s op m result =
    (o : OpForm) → slice_get s.interface.ops op ≡ Some o → Encodes result (length (asking s.interface o m)) × FindsCall s o op m result

-- the same of every operation that has the number
abbrev pub CallsEach : ClientState → ℕ → Msg → Result (List ℕ) EncodeFault → ClientState → Type 0
CallsEach s op m result n = (o : OpForm) → slice_get s.interface.ops op ≡ Some o → CallsOp s o op m result n

-- the message is read whose stub data these octets are, as a request of the operation
abbrev pub ReadsRequest : TableForm → ℕ → List ℕ → Result Message NoMemory → Type 0
ReadsRequest interface op stub result =
    (o : OpForm) (m : Msg) → slice_get interface.ops op ≡ Some o → IsStub interface.types o Request Little None m stub → IfOk result (λ asked. msg asked ≡ m)

-- ---- responses

abbrev pub joining_in : Option Calling → Joining
joining_in None = Ok None
joining_in (Some c) = c.joining

-- a fragment joins to the call, or doesn't
abbrev pub JoinsOut : Option Calling → Fragment → Result (Option Joined) JoinFault → Option Calling → Type 0
JoinsOut None f result new = ⊥
JoinsOut (Some c) f result new = AddsFragment c.joining f result (joining_in new) × (new ≡ Some (record c { joining = joining_in new }))

abbrev pub Joins : ClientState → Calling → Fragment → Result (Option Joined) JoinFault → ClientState → Type 0
Joins s c f result n = AddsFragment c.joining f result (joining_in n.call) × (n ≡ joined_so_far s c (joining_in n.call))

abbrev pub JoinsEach : ClientState → Fragment → Result (Option Joined) JoinFault → ClientState → Type 0
JoinsEach s f result n = (c : Calling) → s.call ≡ Some c → Joins s c f result n

-- what is told of a fragment of the response to the call that is out
abbrev pub FragmentTells : ClientState → Calling → Fragment → Result (Option Told) NoMemory → ClientState → Type 0
FragmentTells s c f (Ok t) n = AnswersCall s c f (option_map told t) n
FragmentTells s c f (Err _) n = RunsShortAt s c f n

abbrev pub FragmentTellsEach : ClientState → Fragment → Result (Option Told) NoMemory → ClientState → Type 0
FragmentTellsEach s f result n = (c : Calling) → s.call ≡ Some c → FragmentTells s c f result n

-- a fragment, by what is out with its call id
abbrev pub HearsOut : ClientState → Option Out → Fragment → Result (Option Told) NoMemory → ClientState → Type 0
HearsOut s None f result n = (result ≡ Ok None) × (n ≡ s)
HearsOut s (Some outs.Call) f result n = (c : Calling) × (s.call ≡ Some c) × FragmentTells s c f result n
HearsOut s (Some _) f result n = (result ≡ Ok (Some (variants.Broken Direction))) × (n ≡ s)

-- the response is whole
abbrev pub ReadsStub : TableForm → Calling → Joined → Result Message NdrFault → Type 0
ReadsStub t c j (Ok m) =
    (o : OpForm) × (slice_get t.ops c.op ≡ Some o) × IsStub t.types o Response j.order (Some c.message) (msg m) j.stub
ReadsStub t c j (Err fault) =
    (fault ≢ faults.Memory)
    → (o : OpForm) × (slice_get t.ops c.op ≡ Some o) × (fault ≢ faults.Memory)
    × IsFault fault (read_stub t.types o Response j.order (Some c.message) j.stub)

abbrev pub ReadsEach : ClientState → Joined → Result Message NdrFault → Type 0
ReadsEach s j result = (c : Calling) → s.call ≡ Some c → ReadsStub s.interface c j result

abbrev pub WholeTells : ClientState → Calling → Joined → Result (Option Told) NoMemory → ClientState → Type 0
WholeTells s c j (Ok (Some (variants.Done m))) n = IsAnswer s c j (msg m) × (n ≡ record s { call = None })
WholeTells s c j (Ok (Some (variants.Broken (Ndr fault)))) n = Departs s c j fault × (n ≡ s)
WholeTells s c j (Ok _) n = ⊥
WholeTells s c j (Err _) n = n ≡ s

abbrev pub TellsEach : ClientState → Joined → Result (Option Told) NoMemory → ClientState → Type 0
TellsEach s j result n = (c : Calling) → s.call ≡ Some c → WholeTells s c j result n
