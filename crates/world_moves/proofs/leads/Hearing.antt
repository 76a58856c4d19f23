-- Each PDU of a server tells a caller something, or nothing.
use Rattle.std.proofs.Common.{◌≡◌, ◌≢◌, ℕ, inl, inr, Bool, true, false, eqb, Option, Some, None, Result, Ok, Err, length, refl, sym, subst}
use Rattle.std.proofs.lemmas.Bool.{cases_lt}
use Rattle.std.specs.Prelude.{◌&&◌, if◌then◌else◌, slice_get}
use Rattle.std.specs.List.{list_any}
use Rattle.rpc_base.specs.declared.identifiers.Order.{Order}
use Rattle.rpc_base.specs.declared.identifiers.Order.TheVariants.{Big, Little}
use Rattle.rpc_base.specs.declared.identifiers.Status.{Status}
use Rattle.pdu_codec.specs.declared.pdu.Pdu.{Pdu}
use Rattle.pdu_codec.specs.declared.pdu.Body.{Body}
use Rattle.pdu_codec.specs.declared.pdu.Body.TheVariants as bodies
use Rattle.pdu_codec.specs.declared.pdu.ResponseBody.{ResponseBody}
use Rattle.pdu_codec.specs.declared.pdu.ContextResult.{ContextResult}
use Rattle.pdu_stream.specs.declared.joined.Joined.{Joined}
use Rattle.pdu_stream.specs.declared.joined.JoinFault.{JoinFault}
use Rattle.pdu_stream.specs.declared.joined.JoinFault.TheVariants as joins
use Rattle.pdu_stream.specs.Fragments.{Fragment, Joining, has_flag, is_last, is_in_order, with_fragment, HasOrder, HasOtherOrder, IsTaken, AddsFragment, most_stub}
use Rattle.ndr_value.specs.Values.{Msg}
use Rattle.ndr_table.specs.Tables.{OpForm}
use Rattle.ndr_model.specs.declared.way.Way.TheVariants.{Response}
use Rattle.ndr_model.specs.Message.{read_stub}
use Rattle.ndr_model.specs.declared.departure.Departure.{Departure}
use Rattle.ndr_model.specs.declared.departure.Departure.TheVariants as departures
use Rattle.ndr_model.specs.declared.fault.NdrFault.TheVariants as faults
use Rattle.ndr_model.specs.Faults.{fault_of, IsFault}
use Rattle.ndr_laws.specs.Laws.{ReadIsStub}
use Rattle.client_core.specs.declared.begun.Out.{Out}
use Rattle.client_core.specs.declared.begun.Out.TheVariants as outs
use Rattle.client_core.specs.declared.told.ClientFault.{ClientFault}
use Rattle.client_core.specs.declared.told.ClientFault.TheVariants.{Direction, Join, Ndr}
use Rattle.client_core.specs.States.{Outcome, ClientState, Calling, is_binding_at, bind_id, has_id, is_id, out_with, without_out}
use Rattle.client_core.specs.States.Outcome.{TNotBound, TDone, TFault, TBroken}
use Rattle.client_core.specs.Hears.{Silent, Breaks, AcksBind, AcksAlter, HearsBindAck, HearsBindNak, HearsAlterResp, FaultTells, HearsResponse, AnswersCall, HearsBody, answer_fragment, answered, result_told, joined_so_far}
use Rattle.client_core.specs.declared.begun.Stage.TheVariants.{Unbound}
use Rattle.pdu_codec.specs.Constants.{did_not_execute}
use Rattle.pdu_codec.specs.declared.pdu.BindAckBody.{BindAckBody}
use Rattle.pdu_codec.specs.declared.pdu.BindNakBody.{BindNakBody}
use Rattle.pdu_codec.specs.declared.pdu.AlterRespBody.{AlterRespBody}

-- something is told, or nothing
abbrev pub Telling : (Option Outcome → ClientState → Type 0) → Type 0
Telling P = (t : Option Outcome) × (n : ClientState) × P t n

silent : (s : ClientState) → Telling (λ t n. Silent s t n)
silent s = (None, s, (refl, refl))

breaks_it : (s : ClientState) (why : ClientFault) → Telling (λ t n. Breaks s why t n)
breaks_it s why = (Some (TBroken why), s, (refl, refl))

-- ---- binds, alter_contexts and faults

acks_bind : (s : ClientState) (r : Option ContextResult) (group max_recv : ℕ) → Telling (λ t n. AcksBind s r group max_recv t n)
acks_bind s None group max_recv = breaks_it s Direction
acks_bind s (Some r) group max_recv = (Some (result_told r group), answered s r max_recv, (refl, refl))

acks_alter : (s : ClientState) (id : ℕ) (r : Option ContextResult) (group : ℕ) → Telling (λ t n. AcksAlter s id r group t n)
acks_alter s id None group = breaks_it s Direction
acks_alter s id (Some r) group = (Some (result_told r group), without_out s outs.Alter id, (refl, refl))

bind_ack : (s : ClientState) (out : Option Out) (b : BindAckBody) → Telling (λ t n. HearsBindAck s out b t n)
bind_ack s None b = silent s
bind_ack s (Some outs.Bind) b = acks_bind s (slice_get b.results 0) b.group b.max_recv
bind_ack s (Some outs.Alter) b = breaks_it s Direction
bind_ack s (Some outs.Call) b = breaks_it s Direction

bind_nak : (s : ClientState) (out : Option Out) (b : BindNakBody) → Telling (λ t n. HearsBindNak s out b t n)
bind_nak s None b = silent s
bind_nak s (Some outs.Bind) b = (Some (TNotBound b.reason), record s { stage = Unbound }, (refl, refl))
bind_nak s (Some outs.Alter) b = breaks_it s Direction
bind_nak s (Some outs.Call) b = breaks_it s Direction

alter_resp : (s : ClientState) (out : Option Out) (id : ℕ) (b : AlterRespBody) → Telling (λ t n. HearsAlterResp s out id b t n)
alter_resp s None id b = silent s
alter_resp s (Some outs.Bind) id b = breaks_it s Direction
alter_resp s (Some outs.Alter) id b = acks_alter s id (slice_get b.results 0) b.group
alter_resp s (Some outs.Call) id b = breaks_it s Direction

fault_tells : (s : ClientState) (out : Option Out) (id flags : ℕ) (status : Status) → Telling (λ t n. FaultTells s out id flags status t n)
fault_tells s None id flags status = silent s
fault_tells s (Some out) id flags status = (Some (TFault status (has_flag did_not_execute flags)), without_out s out id, (refl, refl))

-- ---- a fragment comes

data Adding (run : Option Joined) (f : Fragment) : Type 0 where
  partly : (joining : Joining) → AddsFragment (Ok run) f (Ok None) joining → Adding run f
  wholly : (j : Joined) (joining : Joining) → AddsFragment (Ok run) f (Ok (Some j)) joining → Adding run f
  fails : (fault : JoinFault) → fault ≢ joins.Memory → (joining : Joining) → AddsFragment (Ok run) f (Err fault) joining → Adding run f

data Ordered (run : Option Joined) (f : Fragment) : Type 0 where
  so : HasOrder run f → Ordered run f
  other : HasOtherOrder run f → Ordered run f

by_orders : (a b : Order) → (P : Type 0) → (a ≡ b → P) → (a ≢ b → P) → P
by_orders Big Big P same differs = same refl
by_orders Little Little P same differs = same refl
by_orders Big Little P same differs = differs (λ e. absurd (cc (e)))
by_orders Little Big P same differs = differs (λ e. absurd (cc (e)))

ordered : (run : Option Joined) (f : Fragment) → Ordered run f
ordered None f = so tt
ordered (Some j) f = by_orders f.order j.order (Ordered (Some j) f) (λ e. so e) (λ e. other e)

taken_adds : (run : Option Joined) (f : Fragment) → IsTaken run f → (last : Bool) → is_last f ≡ last → Adding run f
taken_adds run f taken false e = partly (Ok (Some (with_fragment run f))) (taken, e, refl)
taken_adds run f taken true e = wholly (with_fragment run f) (Ok None) (taken, e, refl, refl)

order_adds : (run : Option Joined) (f : Fragment) → is_in_order run f ≡ true → Ordered run f → Adding run f
order_adds run f place (other differs) = fails joins.FragDrep (λ e. absurd (cc (e))) (Err joins.FragDrep) ((place, differs), refl)
order_adds run f place (so same) = elim (cases_lt most_stub (length (with_fragment run f).stub)) [
  | inl long ↦ fails joins.TooLong (λ e. absurd (cc (e))) (Err joins.TooLong) ((place, same, long), refl)
  | inr short ↦ taken_adds run f (place, same, short) (is_last f) refl
]

adds : (run : Option Joined) (f : Fragment) → Adding run f
adds run f = by (is_in_order run f) refl
  where
    by : (place : Bool) → is_in_order run f ≡ place → Adding run f
    by true e = order_adds run f e (ordered run f)
    by false e = fails joins.FragOrder (λ x. absurd (cc (x))) (Err joins.FragOrder) (e, refl)

-- ---- a response

-- of the call that is out some fragments have joined, and its operation is one of the interface
pub record IsReady (s : ClientState) (c : Calling) : Type 0 where
  pub run : Option Joined
  pub joining : c.joining ≡ Ok run
  pub operation : OpForm
  pub found : slice_get s.interface.ops c.op ≡ Some operation

is_fault : (d : Departure) (read : Result Msg Departure) → read ≡ Err d → IsFault (fault_of d) read
is_fault (departures.Short n) read e = e
is_fault (departures.Bound i) read e = e
is_fault (departures.Tag i) read e = e
is_fault (departures.Pointer i) read e = e
is_fault (departures.Text i) read e = e
is_fault (departures.TooDeep i) read e = e
is_fault (departures.Trailing n) read e = e

not_memory : (d : Departure) → fault_of d ≢ faults.Memory
not_memory (departures.Short n) e = absurd (cc (e))
not_memory (departures.Bound i) e = absurd (cc (e))
not_memory (departures.Tag i) e = absurd (cc (e))
not_memory (departures.Pointer i) e = absurd (cc (e))
not_memory (departures.Text i) e = absurd (cc (e))
not_memory (departures.TooDeep i) e = absurd (cc (e))
not_memory (departures.Trailing n) e = absurd (cc (e))

whole_tells : (s : ClientState) (c : Calling) (f : Fragment) (r : IsReady s c) (j : Joined) (joining : Joining) → ReadIsStub → AddsFragment c.joining f (Ok (Some j)) joining
    → (read : Result Msg Departure) → read_stub s.interface.types r.operation Response j.order (Some c.message) j.stub ≡ read → Telling (λ t n. AnswersCall s c f t n)
whole_tells s c f r j joining law added (Ok m) e =
    (Some (TDone m), record s { call = None }, (j, joining, added, (r.operation, r.found, law s.interface.types r.operation Response j.order (Some c.message) j.stub m e), refl))
whole_tells s c f r j joining law added (Err d) e =
    (Some (TBroken (Ndr (fault_of d))), joined_so_far s c joining, (j, joining, added, (r.operation, r.found, not_memory d, is_fault d _ e), refl))

added_tells : (s : ClientState) (c : Calling) (f : Fragment) (r : IsReady s c) → ReadIsStub → Adding r.run f → Telling (λ t n. AnswersCall s c f t n)
added_tells s c f r law (partly joining a) = (None, joined_so_far s c joining, (joining, subst (λ (x : Joining). AddsFragment x f (Ok None) joining) (sym r.joining) a, refl))
added_tells s c f r law (wholly j joining a) = whole_tells s c f r j joining law (subst (λ (x : Joining). AddsFragment x f (Ok (Some j)) joining) (sym r.joining) a) _ refl
added_tells s c f r law (fails fault cause joining a) =
    (Some (TBroken (Join fault)), joined_so_far s c joining, (cause, joining, subst (λ (x : Joining). AddsFragment x f (Err fault) joining) (sym r.joining) a, refl))

-- what is out with the call id of a call is a call
out_called : (binding calls alters : Bool) → (if binding then Some outs.Bind else (if calls then Some outs.Call else (if alters then Some outs.Alter else None))) ≡ Some outs.Call → calls ≡ true
out_called true calls alters e = absurd (cc (e))
out_called false true alters e = refl
out_called false false true e = absurd (cc (e))
out_called false false false e = absurd (cc (e))

called : (id : ℕ) (call : Option Calling) → has_id id call ≡ true → (c : Calling) × (call ≡ Some c)
called id None h = absurd (cc (h))
called id (Some c) h = (c, refl)

abbrev pub AllReady : ClientState → Body → Type 0
AllReady s body = (b : ResponseBody) → body ≡ bodies.Response b → (c : Calling) → s.call ≡ Some c → IsReady s c

response : (s : ClientState) (id : ℕ) (out : Option Out) (f : Fragment) → ReadIsStub → out_with s id ≡ out → ((c : Calling) → s.call ≡ Some c → IsReady s c) → Telling (λ t n. HearsResponse s out f t n)
response s id None f law e ready = silent s
response s id (Some outs.Bind) f law e ready = breaks_it s Direction
response s id (Some outs.Alter) f law e ready = breaks_it s Direction
response s id (Some outs.Call) f law e ready =
    let (c, is) = called id s.call (out_called (is_binding_at s.stage && eqb id bind_id) (has_id id s.call) (list_any (is_id id) s.alters) e) in
    let r = ready c is in
    let (t, n, answers) = added_tells s c f r law (adds r.run f) in
    (t, n, (c, is, answers))

-- ---- PDUs

hears_body : (s : ClientState) (p : Pdu) (body : Body) → ReadIsStub → AllReady s body → Telling (λ t n. HearsBody s p body t n)
hears_body s p (bodies.BindAck b) law ready = bind_ack s (out_with s p.call_id) b
hears_body s p (bodies.BindNak b) law ready = bind_nak s (out_with s p.call_id) b
hears_body s p (bodies.AlterResp b) law ready = alter_resp s (out_with s p.call_id) p.call_id b
hears_body s p (bodies.Fault b) law ready = fault_tells s (out_with s p.call_id) p.call_id p.flags b.status
hears_body s p (bodies.Response b) law ready = response s p.call_id (out_with s p.call_id) (answer_fragment p b) law refl (ready b refl)
hears_body s p bodies.Shutdown law ready = silent s
hears_body s p (bodies.Request b) law ready = breaks_it s Direction
hears_body s p (bodies.Bind b) law ready = breaks_it s Direction
hears_body s p (bodies.Alter b) law ready = breaks_it s Direction
hears_body s p bodies.CoCancel law ready = breaks_it s Direction
hears_body s p bodies.Orphaned law ready = breaks_it s Direction

pub hears_any : (s : ClientState) (p : Pdu) → ReadIsStub → AllReady s p.body → Telling (λ t n. HearsBody s p p.body t n)
hears_any s p law ready = hears_body s p p.body law ready
