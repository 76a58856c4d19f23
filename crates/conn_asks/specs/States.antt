-- The states of a connection: which PDUs it takes, and what it does at what they ask.
use Rattle.std.specs.Prelude.{◌≡◌, ℕ, ◌≤◌, ◌==◌, ◌||◌, Bool, true, false, Option, Some, None, Result, Ok, Err, List, [], ◌∷◌, ◌++◌, length, reverse, ◌⊎◌, ⊤}
use Rattle.rpc_base.specs.declared.fault.NoMemory.{NoMemory}
use Rattle.rpc_base.specs.declared.identifiers.SyntaxId.{SyntaxId}
use Rattle.pdu_codec.specs.declared.pdu.Pdu.{Pdu}
use Rattle.pdu_codec.specs.declared.pdu.Body.{Body}
use Rattle.pdu_codec.specs.declared.pdu.Body.TheVariants as bodies
use Rattle.pdu_codec.specs.declared.pdu.BindAckBody.{BindAckBody}
use Rattle.pdu_codec.specs.declared.pdu.ContextResult.{ContextResult}
use Rattle.pdu_codec.specs.declared.fault.PduFault.{PduFault}
use Rattle.pdu_codec.specs.Pdus.{IsPdu, AreSpelled, pdu_octets}
use Rattle.pdu_codec.specs.Constants.{co_cancel_type, orphaned_type, only_frag, header_size, least_fragment}
use Rattle.pdu_codec.specs.Faults.{kind_at}
use Rattle.pdu_stream.specs.declared.joined.Joined.{Joined}
use Rattle.pdu_stream.specs.Cuts.{IsNext, IsStop, IsPartial}
use Rattle.presentation.specs.declared.verdict.Accepted.{Accepted}
use Rattle.presentation.specs.Offers.{contexts, results_after, interface_of}
use Rattle.handle_model.specs.declared.entry.Said.{Said}
use Rattle.conn_asks.specs.declared.events.Caller.{Caller}
use Rattle.conn_asks.specs.declared.events.Agreement.{Agreement}
use Rattle.conn_asks.specs.declared.events.Ask.{Ask}
use Rattle.conn_asks.specs.declared.events.Ask.TheVariants as asks
use Rattle.conn_asks.specs.declared.events.Act.{Act}
use Rattle.conn_asks.specs.declared.events.Act.TheVariants as acts
use Rattle.conn_asks.specs.declared.events.Waits.{Waits}
use Rattle.conn_asks.specs.declared.events.Waits.TheVariants.{Nothing, Group, Call, Over, Failed}
use Rattle.conn_asks.specs.Asks.{Asks, offered, caller_at, broken_by}
use Rattle.conn_asks.specs.Answers.{agreement_of, agreement_with, bind_ack, alter_resp, bind_nak, closing, refusal, Replies}

-- A state of a connection: the interfaces that are served; the PDUs that it took, the newest first; the octets that
-- came behind them; what it waits for; and what its bind_ack said, once there was one.
pub record ConnState : Type 0 where
  pub ids : List SyntaxId
  pub past : List Pdu
  pub rest : List ℕ
  pub waits : Waits
  pub agreement : Agreement

-- what is agreed before there is a bind_ack
abbrev pub no_agreement : Agreement
no_agreement = record { max_xmit = least_fragment; max_recv = least_fragment; group = 0 }

-- nothing came
abbrev pub at_start : List SyntaxId → ConnState
at_start ids = record { ids = ids; past = []; rest = []; waits = Nothing; agreement = no_agreement }

-- further octets came
abbrev pub with_octets : ConnState → List ℕ → ConnState
with_octets m piece = record m { rest = m.rest ++ piece }

-- the presentation contexts that are accepted
abbrev pub accepted : ConnState → List Accepted
accepted m = contexts m.ids (offered m.past)

-- WHAT IS DONE AT AN ASK

-- a bind_ack, ready but for the group
abbrev pub ready_ack : Agreement → List ContextResult → BindAckBody
ready_ack agreement results =
    record { max_xmit = agreement.max_xmit; max_recv = agreement.max_recv; group = agreement.group; address = []; results = results }

abbrev pub caller_of : Joined → Caller
caller_of j = record { order = j.order; call_id = j.call_id; context = j.context }

-- a call of an interface is left to the server; one whose context isn't accepted is refused
abbrev pub ActsOnCall : Option ℕ → Joined → Act → Waits → Type 0
ActsOnCall (Some k) j act waits = (act ≡ acts.Call j k) × (waits ≡ Call (caller_of j) j.maybe)
ActsOnCall None j act waits = (act ≡ acts.Answer (refusal (caller_of j) j.maybe)) × (waits ≡ Nothing)

-- a call is unanswered
abbrev pub IsCalling : Waits → Type 0
IsCalling waits = (c : Caller) × (maybe : Bool) × (waits ≡ Call c maybe)

-- a group is waited for
abbrev pub IsGrouping : Waits → Type 0
IsGrouping (Group c ack) = ⊤
IsGrouping _ = ⊥

-- What is done at an ask where these interfaces are served and these contexts accepted, and what is waited for then.
abbrev pub DoesWith : List SyntaxId → List Accepted → Agreement → Waits → Ask → Act → Waits → Type 0
DoesWith ids a agreement old (asks.Bind c flags b) act waits =
    (act ≡ acts.Group b.group) × (waits ≡ Group c (ready_ack (agreement_of b 0) (results_after ids a b.elements)))
DoesWith ids a agreement old (asks.Alter c b) act waits =
    (act ≡ acts.Answer (pdu_octets (alter_resp c agreement (results_after ids a b.elements)))) × (waits ≡ Nothing)
DoesWith ids a agreement old (asks.Call j) act waits = ActsOnCall (interface_of a j.context) j act waits
DoesWith ids a agreement old (asks.Cancel id) act waits = IsCalling old × (act ≡ acts.Cancel id) × (waits ≡ old)
DoesWith ids a agreement old (asks.Orphan id) act waits = IsCalling old × (act ≡ acts.Orphan id) × (waits ≡ old)
DoesWith ids a agreement old (asks.Broken c f) act waits = (act ≡ acts.Close (pdu_octets (closing c f)) f) × (waits ≡ Over)

abbrev pub Does : ConnState → Ask → Act → Waits → Type 0
Does m ask act waits = DoesWith m.ids (accepted m) m.agreement m.waits ask act waits

-- FROM ONE STATE TO ANOTHER

abbrev pub is_calling_off : Body → Bool
is_calling_off bodies.CoCancel = true
is_calling_off bodies.Orphaned = true
is_calling_off _ = false

-- the PTYPE of a co_cancel or an orphaned
abbrev pub calls_off_by : ℕ → Bool
calls_off_by kind = kind == co_cancel_type || kind == orphaned_type

-- Each PDU may be taken where nothing is waited for, and a co_cancel or an orphaned while a call is unanswered.
abbrev pub MayCome : Waits → Body → Type 0
MayCome Nothing body = ⊤
MayCome (Call c maybe) body = is_calling_off body ≡ true
MayCome _ body = ⊥

-- The next PDU is taken.
pub record TakesPdu (m : ConnState) (p : Pdu) (n : ConnState) : Type 0 where
  pub may : MayCome m.waits p.body
  pub next : IsNext m.rest p n.rest
  pub past : n.past ≡ p ∷ m.past
  pub ids : n.ids ≡ m.ids
  pub agreement : n.agreement ≡ m.agreement

-- A PDU asks nothing, or it calls off a call that isn't unanswered.
abbrev pub IsIdle : Waits → Option Ask → Type 0
IsIdle waits None = ⊤
IsIdle Nothing (Some (asks.Cancel id)) = ⊤
IsIdle Nothing (Some (asks.Orphan id)) = ⊤
IsIdle _ _ = ⊥

-- the PDU is taken, and nothing is done
pub record Skips (m : ConnState) (p : Pdu) (n : ConnState) : Type 0 where
  pub takes : TakesPdu m p n
  pub ask : Option Ask
  pub asks : Asks m.past p ask
  pub idle : IsIdle m.waits ask
  pub waits : n.waits ≡ m.waits

-- the same for one PDU after the other
abbrev pub SkipsAll : ConnState → List Pdu → ConnState → Type 0
SkipsAll m [] n = n ≡ m
SkipsAll m (p ∷ more) n = (between : ConnState) × Skips m p between × SkipsAll between more n

-- the PDU is taken, and what it asks is done
pub record ActsAt (m : ConnState) (p : Pdu) (act : Act) (n : ConnState) : Type 0 where
  pub takes : TakesPdu m p n
  pub ask : Ask
  pub asks : Asks m.past p (Some ask)
  pub does : Does m ask act n.waits

-- the octets that come next are no PDU
pub record StopsAt (m : ConnState) (fault : PduFault) (act : Act) (n : ConnState) : Type 0 where
  pub free : m.waits ≡ Nothing
  pub stops : IsStop m.rest fault
  pub act_is : act ≡ acts.Close (pdu_octets (closing (caller_at m.rest) (broken_by m.rest fault))) (broken_by m.rest fault)
  pub after : n ≡ record m { waits = Over }

abbrev pub Acts : ConnState → Act → ConnState → Type 0
Acts m act n = ((p : Pdu) × ActsAt m p act n) ⊎ ((fault : PduFault) × StopsAt m fault act n)

-- Nothing may be done: what comes next has to wait, or isn't whole.
abbrev pub IsStuck : Waits → List ℕ → Type 0
IsStuck Nothing rest = IsPartial rest
IsStuck (Group c ack) rest = ⊤
IsStuck (Call c maybe) rest = (p : Pdu) (others : List ℕ) → IsNext rest p others → is_calling_off p.body ≡ false
IsStuck Over rest = ⊤
IsStuck Failed rest = ⊥

-- Memory may run out where PDUs are taken, and what failed stays so.
abbrev pub MayFail : Waits → Type 0
MayFail (Group c ack) = ⊥
MayFail Over = ⊥
MayFail _ = ⊤

-- memory ran out, behind some further PDUs
pub record RunsShort (m n : ConnState) : Type 0 where
  pub may : MayFail m.waits
  pub pdus : List Pdu
  pub front : List ℕ
  pub spelled : AreSpelled IsPdu pdus front
  pub rest : m.rest ≡ front ++ n.rest
  pub past : n.past ≡ reverse pdus ++ m.past
  pub ids : n.ids ≡ m.ids
  pub agreement : n.agreement ≡ m.agreement
  pub waits : n.waits ≡ Failed

-- The next act, behind PDUs at which nothing is done.
abbrev pub Goes : ConnState → Result (Option Act) NoMemory → ConnState → Type 0
Goes m (Ok (Some act)) n = (skipped : List Pdu) × (between : ConnState) × SkipsAll m skipped between × Acts between act n
Goes m (Ok None) n = (skipped : List Pdu) × SkipsAll m skipped n × IsStuck n.waits n.rest
Goes m (Err _) n = RunsShort m n

-- what is waited for behind an act
abbrev pub WaitsBehind : Act → Waits → Type 0
WaitsBehind (acts.Answer octets) waits = waits ≡ Nothing
WaitsBehind (acts.Group id) waits = IsGrouping waits
WaitsBehind (acts.Call j number) waits = IsCalling waits
WaitsBehind (acts.Cancel id) waits = IsCalling waits
WaitsBehind (acts.Orphan id) waits = IsCalling waits
WaitsBehind (acts.Close octets why) waits = waits ≡ Over

-- What stands in front has to wait, until the group or the call is answered: each PDU for a group, and for a call one
-- whose header isn't that of a co_cancel or an orphaned.
abbrev pub MustWait : Waits → List ℕ → Type 0
MustWait (Group c ack) rest = ⊤
MustWait (Call c maybe) rest = (header_size ≤ length rest) × (calls_off_by (kind_at rest) ≡ false)
MustWait _ rest = ⊥

-- THE SERVER'S DECISIONS

-- The bind is answered by a bind_ack with the group's id, and PDUs are taken again.
abbrev pub BoundAt : Waits → ConnState → ℕ → List ℕ → ConnState → Type 0
BoundAt (Group c ack) m group octets n =
    (octets ≡ pdu_octets (bind_ack c only_frag (agreement_with ack group) ack.results)) × (n ≡ record m { waits = Nothing; agreement = agreement_with ack group })
BoundAt _ m group octets n = ⊥

-- The bind is refused for a reason, and the connection is closed.
abbrev pub RefusedAt : Waits → ConnState → ℕ → List ℕ → ConnState → Type 0
RefusedAt (Group c ack) m reason octets n = (octets ≡ pdu_octets (bind_nak c reason)) × (n ≡ record m { waits = Over })
RefusedAt _ m reason octets n = ⊥

-- The call is answered, and PDUs are taken again.
abbrev pub RepliedAt : Waits → ConnState → Option Said → Bool → List ℕ → ConnState → Type 0
RepliedAt (Call c maybe) m said executed octets n =
    Replies c m.agreement.max_xmit maybe executed said octets × (n ≡ record m { waits = Nothing })
RepliedAt _ m said executed octets n = ⊥

-- The same, where want of memory changes nothing.
abbrev pub Answered : (List ℕ → Type 0) → ConnState → Result (List ℕ) NoMemory → ConnState → Type 0
Answered P m (Ok octets) n = P octets
Answered P m (Err _) n = n ≡ m

abbrev pub Bound : ConnState → ℕ → Result (List ℕ) NoMemory → ConnState → Type 0
Bound m group result n = Answered (λ octets. BoundAt m.waits m group octets n) m result n

abbrev pub Refused : ConnState → ℕ → Result (List ℕ) NoMemory → ConnState → Type 0
Refused m reason result n = Answered (λ octets. RefusedAt m.waits m reason octets n) m result n

abbrev pub Replied : ConnState → Option Said → Bool → Result (List ℕ) NoMemory → ConnState → Type 0
Replied m said executed result n = Answered (λ octets. RepliedAt m.waits m said executed octets n) m result n
