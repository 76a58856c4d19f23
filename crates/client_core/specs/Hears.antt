-- What a server's PDU tells a caller, by what is out with its call id (C706, "Connection-oriented RPC protocol machines",
-- client).
use Rattle.std.specs.Prelude.{◌≡◌, ◌≢◌, ℕ, ◌+◌, ◌-◌, ◌^◌, ◌==◌, if◌then◌else◌, max, min, Option, Some, None, Result, Ok, Err, slice_get, ◌⊎◌}
use Rattle.std.specs.Option.{option_map}
use Rattle.rpc_base.specs.declared.fault.NoMemory.{NoMemory}
use Rattle.rpc_base.specs.declared.identifiers.Order.{Order}
use Rattle.rpc_base.specs.declared.identifiers.Status.{Status}
use Rattle.pdu_codec.specs.declared.pdu.Pdu.{Pdu}
use Rattle.pdu_codec.specs.declared.pdu.Body.{Body}
use Rattle.pdu_codec.specs.declared.pdu.Body.TheVariants as bodies
use Rattle.pdu_codec.specs.declared.pdu.ResponseBody.{ResponseBody}
use Rattle.pdu_codec.specs.declared.pdu.BindAckBody.{BindAckBody}
use Rattle.pdu_codec.specs.declared.pdu.BindNakBody.{BindNakBody}
use Rattle.pdu_codec.specs.declared.pdu.AlterRespBody.{AlterRespBody}
use Rattle.pdu_codec.specs.declared.pdu.ContextResult.{ContextResult}
use Rattle.pdu_codec.specs.Constants.{did_not_execute, least_fragment, most_fragment}
use Rattle.pdu_stream.specs.declared.joined.Joined.{Joined}
use Rattle.pdu_stream.specs.declared.joined.JoinFault.TheVariants as joins
use Rattle.pdu_stream.specs.Fragments.{Fragment, Joining, AddsFragment, has_flag}
use Rattle.presentation.specs.Offers.{acceptance}
use Rattle.ndr_value.specs.Values.{Msg}
use Rattle.ndr_table.specs.Tables.{OpForm}
use Rattle.ndr_model.specs.declared.way.Way.TheVariants.{Response}
use Rattle.ndr_model.specs.Message.{IsStub, read_stub}
use Rattle.ndr_model.specs.declared.fault.NdrFault.{NdrFault}
use Rattle.ndr_model.specs.declared.fault.NdrFault.TheVariants as faults
use Rattle.ndr_model.specs.Faults.{IsFault}
use Rattle.client_core.specs.declared.begun.Stage.TheVariants.{Unbound, Bound}
use Rattle.client_core.specs.declared.begun.Out.{Out}
use Rattle.client_core.specs.declared.begun.Out.TheVariants as outs
use Rattle.client_core.specs.declared.told.ClientFault.{ClientFault}
use Rattle.client_core.specs.declared.told.ClientFault.TheVariants.{Direction, Join, Ndr}
use Rattle.client_core.specs.declared.told.Told.{Told}
use Rattle.client_core.specs.States.{Outcome, told, Calling, ClientState, out_with, without_out}
use Rattle.client_core.specs.States.Outcome.{TBound, TNotBound, TDone, TFault, TBroken}

-- nothing is told, and nothing changes
abbrev pub Silent : ClientState → Option Outcome → ClientState → Type 0
Silent s t n = (t ≡ None) × (n ≡ s)

-- the protocol is broken, and nothing changes
abbrev pub Breaks : ClientState → ClientFault → Option Outcome → ClientState → Type 0
Breaks s fault t n = (t ≡ Some (TBroken fault)) × (n ≡ s)

-- ---- binds and alter_contexts

-- what the result of a presentation context tells
abbrev pub result_told : ContextResult → ℕ → Outcome
result_told r group = if r.result == acceptance then TBound group else TNotBound (min (r.reason + 16) (2 ^ 16 - 1))

-- fragments as long as this runtime sends and the server takes, though it takes the least fragment
abbrev pub sendable : ℕ → ℕ
sendable max_recv = max least_fragment (min most_fragment max_recv)

abbrev pub answered : ClientState → ContextResult → ℕ → ClientState
answered s r max_recv = if r.result == acceptance then record s { stage = Bound; most = sendable max_recv } else record s { stage = Unbound }

-- an ack of a bind, by its first result
abbrev pub AcksBind : ClientState → Option ContextResult → ℕ → ℕ → Option Outcome → ClientState → Type 0
AcksBind s None group max_recv t n = Breaks s Direction t n
AcksBind s (Some r) group max_recv t n = (t ≡ Some (result_told r group)) × (n ≡ answered s r max_recv)

-- an ack of an alter_context
abbrev pub AcksAlter : ClientState → ℕ → Option ContextResult → ℕ → Option Outcome → ClientState → Type 0
AcksAlter s id None group t n = Breaks s Direction t n
AcksAlter s id (Some r) group t n = (t ≡ Some (result_told r group)) × (n ≡ without_out s outs.Alter id)

abbrev pub HearsBindAck : ClientState → Option Out → BindAckBody → Option Outcome → ClientState → Type 0
HearsBindAck s None b t n = Silent s t n
HearsBindAck s (Some outs.Bind) b t n = AcksBind s (slice_get b.results 0) b.group b.max_recv t n
HearsBindAck s (Some _) b t n = Breaks s Direction t n

abbrev pub HearsBindNak : ClientState → Option Out → BindNakBody → Option Outcome → ClientState → Type 0
HearsBindNak s None b t n = Silent s t n
HearsBindNak s (Some outs.Bind) b t n = (t ≡ Some (TNotBound b.reason)) × (n ≡ record s { stage = Unbound })
HearsBindNak s (Some _) b t n = Breaks s Direction t n

abbrev pub HearsAlterResp : ClientState → Option Out → ℕ → AlterRespBody → Option Outcome → ClientState → Type 0
HearsAlterResp s None id b t n = Silent s t n
HearsAlterResp s (Some outs.Alter) id b t n = AcksAlter s id (slice_get b.results 0) b.group t n
HearsAlterResp s (Some _) id b t n = Breaks s Direction t n

-- ---- faults, which answer whatever is out

-- a fault with this call id, these flags and this status
abbrev pub FaultTells : ClientState → Option Out → ℕ → ℕ → Status → Option Outcome → ClientState → Type 0
FaultTells s None id flags status t n = Silent s t n
FaultTells s (Some out) id flags status t n = (t ≡ Some (TFault status (has_flag did_not_execute flags))) × (n ≡ without_out s out id)

-- ---- responses

-- Fragments of a response join as those of a request do, with operation 0 and no object.
abbrev pub fragment_of : Order → ℕ → ℕ → ResponseBody → Fragment
fragment_of order flags id b =
    record { order = order; flags = flags; call_id = id; part = record { alloc_hint = b.alloc_hint; context = b.context; op = 0; object = None; stub = b.stub } }

abbrev pub answer_fragment : Pdu → ResponseBody → Fragment
answer_fragment p b = fragment_of p.order p.flags p.call_id b

-- the response as far as it came
abbrev pub joined_so_far : ClientState → Calling → Joining → ClientState
joined_so_far s c joining = record s { call = Some (record c { joining = joining }) }

-- the whole response is that message
abbrev pub IsAnswer : ClientState → Calling → Joined → Msg → Type 0
IsAnswer s c j m =
    (o : OpForm) × (slice_get s.interface.ops c.op ≡ Some o) × IsStub s.interface.types o Response j.order (Some c.message) m j.stub

-- the whole response is no message, by its first departure
abbrev pub Departs : ClientState → Calling → Joined → NdrFault → Type 0
Departs s c j fault =
    (o : OpForm) × (slice_get s.interface.ops c.op ≡ Some o) × (fault ≢ faults.Memory)
    × IsFault fault (read_stub s.interface.types o Response j.order (Some c.message) j.stub)

-- A fragment of the response: it joins and isn't the last; it doesn't join; or with it the response is whole, and is a
-- message or isn't.
abbrev pub AnswersCall : ClientState → Calling → Fragment → Option Outcome → ClientState → Type 0
AnswersCall s c f None n =
    (joining : Joining) × AddsFragment c.joining f (Ok None) joining × (n ≡ joined_so_far s c joining)
AnswersCall s c f (Some (TBroken (Join fault))) n =
    (fault ≢ joins.Memory) × (joining : Joining) × AddsFragment c.joining f (Err fault) joining × (n ≡ joined_so_far s c joining)
AnswersCall s c f (Some (TBroken (Ndr fault))) n =
    (j : Joined) × (joining : Joining) × AddsFragment c.joining f (Ok (Some j)) joining × Departs s c j fault × (n ≡ joined_so_far s c joining)
AnswersCall s c f (Some (TDone m)) n =
    (j : Joined) × (joining : Joining) × AddsFragment c.joining f (Ok (Some j)) joining × IsAnswer s c j m × (n ≡ record s { call = None })
AnswersCall s c f (Some _) n = ⊥

abbrev pub HearsResponse : ClientState → Option Out → Fragment → Option Outcome → ClientState → Type 0
HearsResponse s None f t n = Silent s t n
HearsResponse s (Some outs.Call) f t n = (c : Calling) × (s.call ≡ Some c) × AnswersCall s c f t n
HearsResponse s (Some _) f t n = Breaks s Direction t n

-- ---- PDUs

-- A shutdown tells nothing. A PDU for a server breaks the protocol.
abbrev pub HearsBody : ClientState → Pdu → Body → Option Outcome → ClientState → Type 0
HearsBody s p (bodies.BindAck b) t n = HearsBindAck s (out_with s p.call_id) b t n
HearsBody s p (bodies.BindNak b) t n = HearsBindNak s (out_with s p.call_id) b t n
HearsBody s p (bodies.AlterResp b) t n = HearsAlterResp s (out_with s p.call_id) p.call_id b t n
HearsBody s p (bodies.Fault b) t n = FaultTells s (out_with s p.call_id) p.call_id p.flags b.status t n
HearsBody s p (bodies.Response b) t n = HearsResponse s (out_with s p.call_id) (answer_fragment p b) t n
HearsBody s p bodies.Shutdown t n = Silent s t n
HearsBody s p _ t n = Breaks s Direction t n

-- ---- want of memory

-- Memory runs out as a fragment joins, and then for good; or for the message of the whole response.
abbrev pub RunsShortAt : ClientState → Calling → Fragment → ClientState → Type 0
RunsShortAt s c f n =
    (joining : Joining)
    × (AddsFragment c.joining f (Err joins.Memory) joining ⊎ ((j : Joined) × AddsFragment c.joining f (Ok (Some j)) joining))
    × (n ≡ joined_so_far s c joining)

abbrev pub RunsShort : ClientState → Pdu → Body → ClientState → Type 0
RunsShort s p (bodies.Response b) n =
    (out_with s p.call_id ≡ Some outs.Call) × (c : Calling) × (s.call ≡ Some c) × RunsShortAt s c (answer_fragment p b) n
RunsShort s p _ n = ⊥

-- What a PDU tells, and the state after it.
abbrev pub Hears : ClientState → Pdu → Result (Option Told) NoMemory → ClientState → Type 0
Hears s p (Ok t) n = HearsBody s p p.body (option_map told t) n
Hears s p (Err _) n = RunsShort s p p.body n
