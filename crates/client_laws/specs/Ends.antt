-- Both ends meet: each reads what the other one wrote.
use Rattle.std.specs.Prelude.{◌≡◌, ℕ, ◌<◌, ◌≤◌, ◌^◌, Bool, true, false, not, Some, None, Ok, List, [], ◌∷◌, length, slice_get}
use Rattle.rpc_base.specs.declared.identifiers.Order.TheVariants.{Little}
use Rattle.rpc_base.specs.declared.identifiers.SyntaxId.{SyntaxId}
use Rattle.rpc_base.specs.Fields.{FitsSyntax}
use Rattle.pdu_stream.specs.declared.joined.Joined.{Joined}
use Rattle.pdu_stream.specs.declared.cut.Cut.{Cut}
use Rattle.pdu_stream.specs.Cuts.{IsCut}
use Rattle.pdu_stream.specs.Fragments.{most_stub}
use Rattle.presentation.specs.Serving.{serving}
use Rattle.presentation.specs.Offers.{interface_of}
use Rattle.handle_model.specs.declared.entry.Said.{Said}
use Rattle.handle_model.specs.declared.entry.Said.TheVariants.{Out, Fault}
use Rattle.ndr_value.specs.Values.{Msg}
use Rattle.ndr_table.specs.Tables.{OpForm, TableForm}
use Rattle.ndr_model.specs.declared.way.Way.TheVariants.{Request, Response}
use Rattle.ndr_model.specs.Message.{IsStub}
use Rattle.ndr_laws.specs.Laws.{IsOp}
use Rattle.ndr_model.specs.Written.{stub}
use Rattle.ndr_model.specs.Fits.{IsOfOp}
use Rattle.conn_asks.specs.declared.events.Caller.{Caller}
use Rattle.conn_asks.specs.declared.events.Waits.TheVariants.{Call}
use Rattle.conn_asks.specs.declared.events.Act.TheVariants as acts
use Rattle.conn_asks.specs.Answers.{Replies}
use Rattle.conn_asks.specs.States.{ConnState, at_start, accepted, caller_of}
use Rattle.conn_histories.specs.Histories.{Event, Lives, IsAtRest, AnswersDecision, stream, decisions, lasting}
use Rattle.conn_histories.specs.Histories.Event.{Did}
use Rattle.conn_histories.specs.Histories.Decision.{ToGroup, Reply}
use Rattle.client_core.specs.declared.begun.Out.TheVariants as outs
use Rattle.client_core.specs.States.{Outcome, ClientState, Calling, next_id, out_with}
use Rattle.client_core.specs.States.Outcome.{TBound, TDone, TFault}
use Rattle.client_core.specs.Calls.{Binds, CallsOp, asking}
use Rattle.client_laws.specs.Meeting.{IsLawful, IsReady, IsFree, whole_request, HearsAll}

-- ---- requests

-- The octets come, in whatever pieces, and nothing else: the server decides nothing, and does what it can.
pub record Comes (start : ConnState) (octets : List ℕ) (events : List Event) (end : ConnState) : Type 0 where
  pub lives : Lives start events end
  pub octets_are : stream events ≡ octets
  pub undecided : decisions events ≡ []
  pub at_rest : IsAtRest end

-- The server is given one call of that interface, and it is unanswered. Nothing else is done.
pub record IsGiven (j : Joined) (number : ℕ) (events : List Event) (end : ConnState) : Type 0 where
  pub acts : lasting events ≡ Did (acts.Call j number) ∷ []
  pub waits : end.waits ≡ Call (caller_of j) j.maybe

-- the stub data of the request are those of this message and of no other
pub record ReadsAs (interface : TableForm) (o : OpForm) (j : Joined) (m : Msg) : Type 0 where
  pub is : IsStub interface.types o Request j.order None m j.stub
  pub only : (other : Msg) → IsStub interface.types o Request j.order None other j.stub → other ≡ m

-- the call that the server is given
abbrev pub request_of : ClientState → ℕ → OpForm → Msg → Joined
request_of s op o m = whole_request (next_id s) op o.maybe (asking s.interface o m)

abbrev pub RequestsArrive : Type 0
RequestsArrive =
    (s n : ClientState) (op : ℕ) (o : OpForm) (m : Msg) (octets : List ℕ) (start end : ConnState) (number : ℕ) (events : List Event)
    → IsFree s → op < 2 ^ 16 → IsOp s.interface.types o → IsOfOp s.interface.types o Request None m → CallsOp s o op m (Ok octets) n
    → IsReady start → interface_of (accepted start) 0 ≡ Some number → Comes start octets events end
    → IsGiven (request_of s op o m) number events end × ReadsAs s.interface o (request_of s op o m) m

-- ---- answers

-- A call is out, and nothing of its response came.
pub record IsWaiting (s : ClientState) (c : Calling) : Type 0 where
  pub call : s.call ≡ Some c
  pub out : out_with s c.id ≡ Some outs.Call
  pub fresh : c.joining ≡ Ok None

-- what is told of what the server says: of a fault whether the call was executed, and the message whose stub data were said
abbrev pub TellsSaid : ClientState → Calling → OpForm → Caller → Bool → Said → Outcome → Type 0
TellsSaid s c o caller executed (Fault status) told = told ≡ TFault status (not executed)
TellsSaid s c o caller executed (Out stub) told = (m : Msg) → IsStub s.interface.types o Response caller.order (Some c.message) m stub → told ≡ TDone m

-- what fits a PDU's fields
abbrev pub FitsCaller : Caller → Type 0
FitsCaller caller = (caller.call_id < 2 ^ 32) × (caller.context < 2 ^ 16)

abbrev pub SaysSome : OpForm → ClientState → Calling → Caller → Said → Type 0
SaysSome o s c caller (Fault status) = status.0 < 2 ^ 32
SaysSome o s c caller (Out stub) = (length stub ≤ most_stub) × ((m : Msg) × IsStub s.interface.types o Response caller.order (Some c.message) m stub)

abbrev pub AnswersAreTold : Type 0
AnswersAreTold =
    (s n : ClientState) (c : Calling) (o : OpForm) (caller : Caller) (most : ℕ) (executed : Bool) (said : Said) (octets : List ℕ) (cut : Cut) (told : List Outcome)
    → IsWaiting s c → slice_get s.interface.ops c.op ≡ Some o → IsOp s.interface.types o → caller.call_id ≡ c.id → FitsCaller caller → IsLawful most
    → SaysSome o s c caller said → Replies caller most false executed (Some said) octets → IsCut octets cut → HearsAll s cut.pdus told n
    → (one : Outcome) × (told ≡ one ∷ []) × TellsSaid s c o caller executed said one × (n ≡ record s { call = None }) × (cut.rest ≡ []) × (cut.fault ≡ None)

-- ---- a call and its response

-- the response that the server says
abbrev pub answering : TableForm → OpForm → Msg → Msg → List ℕ
answering interface o m out = stub interface.types o Response Little (Some m) out

-- The server's answer is put, in whatever pieces it comes, and the caller hears it.
pub record Answers (at after : ConnState) (said : Said) (n : ClientState) (told : List Outcome) (t : ClientState) : Type 0 where
  pub octets : List ℕ
  pub decided : AnswersDecision at (Reply (Some said) true) octets after
  pub cut : Cut
  pub is_cut : IsCut octets cut
  pub hears : HearsAll n cut.pdus told t

pub record Meet (s : ClientState) (op : ℕ) (o : OpForm) (m out : Msg) (number : ℕ) (events : List Event) (at after : ConnState) (told : List Outcome) (t : ClientState) : Type 0 where
  pub given : IsGiven (request_of s op o m) number events at
  pub reads : ReadsAs s.interface o (request_of s op o m) m
  pub done : told ≡ TDone out ∷ []
  pub caller : t ≡ record s { newest = next_id s }
  pub ready : IsReady after
  pub goes_on : interface_of (accepted after) 0 ≡ Some number

abbrev pub CallsMeet : Type 0
CallsMeet =
    (s n t : ClientState) (op : ℕ) (o : OpForm) (m out : Msg) (octets : List ℕ) (start at after : ConnState) (number : ℕ) (events : List Event) (told : List Outcome)
    → IsFree s → op < 2 ^ 16 → slice_get s.interface.ops op ≡ Some o → o.maybe ≡ false → IsOp s.interface.types o
    → IsOfOp s.interface.types o Request None m → CallsOp s o op m (Ok octets) n
    → IsReady start → interface_of (accepted start) 0 ≡ Some number → Comes start octets events at
    → IsOfOp s.interface.types o Response (Some m) out → length (answering s.interface o m out) ≤ most_stub
    → Answers at after (Out (answering s.interface o m out)) n told t
    → Meet s op o m out number events at after told t

-- ---- a bind and its answer

pub record MeetBound (s : ClientState) (ids : List SyntaxId) (group id number : ℕ) (events : List Event) (after : ConnState) (told : List Outcome) (t : ClientState) : Type 0 where
  pub asks : lasting events ≡ Did (acts.Group group) ∷ []
  pub done : told ≡ TBound id ∷ []
  pub interface : t.interface ≡ s.interface
  pub free : IsFree t
  pub ready : IsReady after
  pub found : interface_of (accepted after) 0 ≡ Some number

-- The caller binds at a server that serves its interface, and the server joins it to a group.
abbrev pub BindsMeet : Type 0
BindsMeet =
    (s n t : ClientState) (group id number : ℕ) (octets answer : List ℕ) (ids : List SyntaxId) (at after : ConnState) (events : List Event) (cut : Cut) (told : List Outcome)
    → FitsSyntax s.interface.id → group < 2 ^ 32 → id < 2 ^ 32 → serving ids s.interface.id ≡ Some number → Binds s group (Ok octets) n
    → Comes (at_start ids) octets events at → AnswersDecision at (ToGroup id) answer after → IsCut answer cut → HearsAll n cut.pdus told t
    → MeetBound s ids group id number events after told t
