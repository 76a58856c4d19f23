-- What is told of a call is a message of its operation.
use Rattle.std.proofs.Common.{◌≡◌, ℕ, ◌<◌, Bool, true, false, length, Option, Some, None, Ok, Err, sym, subst}
use Rattle.std.specs.Prelude.{Result, if◌then◌else◌, slice_get, IfOk}
use Rattle.std.specs.Option.{option_map}
use Rattle.rpc_base.specs.declared.fault.NoMemory.{NoMemory}
use Rattle.rpc_base.specs.declared.identifiers.Status.{Status}
use Rattle.pdu_codec.specs.declared.pdu.BindAckBody.{BindAckBody}
use Rattle.pdu_codec.specs.declared.pdu.BindNakBody.{BindNakBody}
use Rattle.pdu_codec.specs.declared.pdu.AlterRespBody.{AlterRespBody}
use Rattle.pdu_codec.specs.declared.pdu.ContextResult.{ContextResult}
use Rattle.pdu_stream.specs.declared.joined.Joined.{Joined}
use Rattle.pdu_stream.specs.declared.joined.JoinFault.{JoinFault}
use Rattle.pdu_stream.specs.Fragments.{Fragment, Joining}
use Rattle.ndr_value.specs.Values.{msg}
use Rattle.ndr_value.specs.declared.value.Message.{Message}
use Rattle.ndr_table.specs.Tables.{OpForm, TableForm}
use Rattle.ndr_model.specs.declared.way.Way.TheVariants.{Response}
use Rattle.ndr_model.specs.declared.fault.NdrFault.{NdrFault}
use Rattle.ndr_model.specs.Fits.{IsOfOp}
use Rattle.client_core.specs.declared.begun.Out.{Out}
use Rattle.client_core.specs.declared.begun.Out.TheVariants as outs
use Rattle.client_core.specs.declared.told.ClientFault.TheVariants.{Direction}
use Rattle.client_core.specs.declared.told.Told.{Told}
use Rattle.client_core.specs.States.{Outcome, told, Calling, ClientState, is_calling}
use Rattle.client_core.specs.States.Outcome.{TBound, TNotBound, TDone, TFault, TBroken}
use Rattle.client_core.specs.Hears.{Silent, Breaks, result_told, AcksBind, AcksAlter, HearsBindAck, HearsBindNak, HearsAlterResp, FaultTells, joined_so_far}
use Rattle.client_core.specs.Parts.{joining_in, JoinsEach}
use Rattle.client_core.specs.Answers.{IsOfCall, AnswersOut}
use Rattle.client_core.proofs.Heard.{by_call, found_op}

-- ---- a response

pub of_op : (t : TableForm) (c : Calling) (result : Result Message NdrFault) → c.op < length t.ops
    → IfOk result (λ (m : Message). (o : OpForm) → slice_get t.ops c.op ≡ Some o → IsOfOp t.types o Response (Some c.message) (msg m)) → IfOk result (λ (m : Message). IsOfCall t c (msg m))
of_op t c (Ok m) lt each = let o = found_op t.ops c.op lt in (o.0, o.1, each o.0 o.1)
of_op t c (Err why) lt each = tt

pub of_out : (s : ClientState) (c : Calling) (result : Result Message NdrFault) → s.call ≡ Some c → IfOk result (λ (m : Message). IsOfCall s.interface c (msg m)) → IfOk result (λ (m : Message). AnswersOut s (Some (TDone (msg m))))
of_out s c (Ok m) at h = (c, at, h)
of_out s c (Err why) at h = tt

one_call : (c d : Calling) → Some c ≡ Some d → c ≡ d
one_call c d e = cc (e)

-- the fragments that joined don't matter
unjoined : (s mid : ClientState) (c : Calling) (joining : Joining) (t : Option Outcome) → s.call ≡ Some c → mid ≡ joined_so_far s c joining → AnswersOut mid t → AnswersOut s t
unjoined s mid c joining None at is h = tt
unjoined s mid c joining (Some (TBound group)) at is h = tt
unjoined s mid c joining (Some (TNotBound reason)) at is h = tt
unjoined s mid c joining (Some (TFault status not_run)) at is h = tt
unjoined s mid c joining (Some (TBroken fault)) at is h = tt
unjoined s mid c joining (Some (TDone m)) at is h =
    let k : AnswersOut (joined_so_far s c joining) (Some (TDone m)) = subst (λ (x : ClientState). AnswersOut x (Some (TDone m))) is h in
    (c, at, subst (λ (d : Calling). IsOfCall s.interface d m) (sym (one_call (record c { joining = joining }) k.0 k.1)) k.2)

pub of_whole : (s mid : ClientState) (f : Fragment) (joins : Result (Option Joined) JoinFault) (result : Result (Option Told) NoMemory) → is_calling s ≡ true → JoinsEach s f joins mid
    → IfOk result (λ (t : Option Told). AnswersOut mid (option_map told t)) → IfOk result (λ (t : Option Told). AnswersOut s (option_map told t))
of_whole s mid f joins (Ok t) calls each h = let c = by_call s.call calls in unjoined s mid c.0 (joining_in mid.call) (option_map told t) c.1 (each c.0 c.1).1 h
of_whole s mid f joins (Err e) calls each h = tt

-- ---- other PDUs tell no message

silent : (s n : ClientState) (t : Option Outcome) → Silent s t n → AnswersOut s t
silent s n t h = subst (AnswersOut s) (sym h.0) tt

breaks : (s n : ClientState) (t : Option Outcome) → Breaks s Direction t n → AnswersOut s t
breaks s n t h = subst (AnswersOut s) (sym h.0) tt

by_result : (s : ClientState) (b : Bool) (group reason : ℕ) → AnswersOut s (Some (if b then TBound group else TNotBound reason))
by_result s true group reason = tt
by_result s false group reason = tt

of_result : (s : ClientState) (r : ContextResult) (group : ℕ) → AnswersOut s (Some (result_told r group))
of_result s r group = by_result s _ group _

acks_bind : (s n : ClientState) (first : Option ContextResult) (group max_recv : ℕ) (t : Option Outcome) → AcksBind s first group max_recv t n → AnswersOut s t
acks_bind s n None group max_recv t h = breaks s n t h
acks_bind s n (Some r) group max_recv t h = subst (AnswersOut s) (sym h.0) (of_result s r group)

acks_alter : (s n : ClientState) (id : ℕ) (first : Option ContextResult) (group : ℕ) (t : Option Outcome) → AcksAlter s id first group t n → AnswersOut s t
acks_alter s n id None group t h = breaks s n t h
acks_alter s n id (Some r) group t h = subst (AnswersOut s) (sym h.0) (of_result s r group)

pub of_bind_ack : (s n : ClientState) (out : Option Out) (b : BindAckBody) (t : Option Outcome) → HearsBindAck s out b t n → AnswersOut s t
of_bind_ack s n None b t h = silent s n t h
of_bind_ack s n (Some outs.Bind) b t h = acks_bind s n (slice_get b.results 0) b.group b.max_recv t h
of_bind_ack s n (Some outs.Alter) b t h = breaks s n t h
of_bind_ack s n (Some outs.Call) b t h = breaks s n t h

pub of_bind_nak : (s n : ClientState) (out : Option Out) (b : BindNakBody) (t : Option Outcome) → HearsBindNak s out b t n → AnswersOut s t
of_bind_nak s n None b t h = silent s n t h
of_bind_nak s n (Some outs.Bind) b t h = subst (AnswersOut s) (sym h.0) tt
of_bind_nak s n (Some outs.Alter) b t h = breaks s n t h
of_bind_nak s n (Some outs.Call) b t h = breaks s n t h

pub of_alter_resp : (s n : ClientState) (out : Option Out) (id : ℕ) (b : AlterRespBody) (t : Option Outcome) → HearsAlterResp s out id b t n → AnswersOut s t
of_alter_resp s n None id b t h = silent s n t h
of_alter_resp s n (Some outs.Alter) id b t h = acks_alter s n id (slice_get b.results 0) b.group t h
of_alter_resp s n (Some outs.Bind) id b t h = breaks s n t h
of_alter_resp s n (Some outs.Call) id b t h = breaks s n t h

pub of_fault : (s n : ClientState) (out : Option Out) (id flags : ℕ) (status : Status) (t : Option Outcome) → FaultTells s out id flags status t n → AnswersOut s t
of_fault s n None id flags status t h = silent s n t h
of_fault s n (Some out) id flags status t h = subst (AnswersOut s) (sym h.0) tt
