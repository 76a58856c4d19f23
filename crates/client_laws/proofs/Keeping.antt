-- What a PDU that a caller receives leaves as it was.
use Rattle.std.proofs.Common.{◌≡◌, ℕ, Bool, true, false, cond, eqb, Option, Some, None, refl, sym, ap, subst, arith}
use Rattle.std.specs.Prelude.{slice_get}
use Rattle.pdu_codec.specs.declared.pdu.Pdu.{Pdu}
use Rattle.pdu_codec.specs.declared.pdu.Body.{Body}
use Rattle.pdu_codec.specs.declared.pdu.Body.TheVariants as bodies
use Rattle.pdu_codec.specs.declared.pdu.BindAckBody.{BindAckBody}
use Rattle.pdu_codec.specs.declared.pdu.BindNakBody.{BindNakBody}
use Rattle.pdu_codec.specs.declared.pdu.AlterRespBody.{AlterRespBody}
use Rattle.pdu_codec.specs.declared.pdu.ContextResult.{ContextResult}
use Rattle.presentation.specs.Offers.{acceptance}
use Rattle.pdu_stream.specs.Fragments.{Fragment, Joining}
use Rattle.rpc_base.specs.declared.identifiers.Status.{Status}
use Rattle.client_core.specs.declared.begun.Stage.TheVariants.{Unbound, Bound}
use Rattle.client_core.specs.declared.begun.Out.{Out}
use Rattle.client_core.specs.declared.begun.Out.TheVariants as outs
use Rattle.client_core.specs.declared.told.ClientFault.TheVariants.{Direction, Join, Ndr}
use Rattle.client_core.specs.States.{Outcome, ClientState, Calling, out_with, without_out}
use Rattle.client_core.specs.States.Outcome.{TBound, TNotBound, TDone, TFault, TBroken}
use Rattle.client_core.specs.Hears.{sendable, joined_so_far, answer_fragment, AcksBind, AcksAlter, HearsBindAck, HearsBindNak, HearsAlterResp, FaultTells, AnswersCall, HearsResponse, HearsBody}
use Rattle.client_laws.specs.Meeting.{IsLawful}

-- The interface stays, fragments stay lawful, and no other call is out than before.
pub record Keeps (s n : ClientState) : Type 0 where
  pub interface : n.interface ≡ s.interface
  pub lawful : IsLawful s.most → IsLawful n.most
  pub call : (c : Calling) → n.call ≡ Some c → (d : Calling) × (s.call ≡ Some d) × (d.id ≡ c.id)

same : (s : ClientState) → Keeps s s
same s = record { interface = refl; lawful = λ h. h; call = λ c is. (c, is, refl) }

as_is : (s n x : ClientState) → n ≡ x → Keeps s x → Keeps s n
as_is s n x e k = subst (λ (y : ClientState). Keeps s y) (sym e) k

none_some : (c : Calling) → (let o : Option Calling = None in o) ≡ Some c → ⊥
none_some c e = absurd (cc (e))

some_is : (c d : Calling) → Some d ≡ Some c → d ≡ c
some_is c d e = cc

-- ---- binds

sendable_lawful : (n : ℕ) → IsLawful (sendable n)
sendable_lawful n = (omega arith, omega arith)

acked : (s : ClientState) (b : Bool) (n : ℕ) → Keeps s (cond b (record s { stage = Bound; most = sendable n }) (record s { stage = Unbound }))
acked s true n = record { interface = refl; lawful = λ h. sendable_lawful n; call = λ c is. (c, is, refl) }
acked s false n = record { interface = refl; lawful = λ h. h; call = λ c is. (c, is, refl) }

acks : (s n : ClientState) (r : Option ContextResult) (group most : ℕ) (t : Option Outcome) → AcksBind s r group most t n → Keeps s n
acks s n None group most t h = as_is s n s h.1 (same s)
acks s n (Some r) group most t h = as_is s n _ h.1 (acked s (eqb r.result acceptance) most)

bind_ack : (s n : ClientState) (o : Option Out) (b : BindAckBody) (t : Option Outcome) → HearsBindAck s o b t n → Keeps s n
bind_ack s n None b t h = as_is s n s h.1 (same s)
bind_ack s n (Some outs.Bind) b t h = acks s n (slice_get b.results 0) b.group b.max_recv t h
bind_ack s n (Some outs.Alter) b t h = as_is s n s h.1 (same s)
bind_ack s n (Some outs.Call) b t h = as_is s n s h.1 (same s)

unbound : (s : ClientState) → Keeps s (record s { stage = Unbound })
unbound s = record { interface = refl; lawful = λ h. h; call = λ c is. (c, is, refl) }

bind_nak : (s n : ClientState) (o : Option Out) (b : BindNakBody) (t : Option Outcome) → HearsBindNak s o b t n → Keeps s n
bind_nak s n None b t h = as_is s n s h.1 (same s)
bind_nak s n (Some outs.Bind) b t h = as_is s n _ h.1 (unbound s)
bind_nak s n (Some outs.Alter) b t h = as_is s n s h.1 (same s)
bind_nak s n (Some outs.Call) b t h = as_is s n s h.1 (same s)

-- ---- what is out no more

gone : (s : ClientState) → Keeps s (record s { call = None })
gone s = record { interface = refl; lawful = λ h. h; call = λ c is. absurd (none_some c is) }

out_no_more : (s : ClientState) (o : Out) (id : ℕ) → Keeps s (without_out s o id)
out_no_more s outs.Bind id = unbound s
out_no_more s outs.Alter id = record { interface = refl; lawful = λ h. h; call = λ c is. (c, is, refl) }
out_no_more s outs.Call id = gone s

acks_alter : (s n : ClientState) (id : ℕ) (r : Option ContextResult) (group : ℕ) (t : Option Outcome) → AcksAlter s id r group t n → Keeps s n
acks_alter s n id None group t h = as_is s n s h.1 (same s)
acks_alter s n id (Some r) group t h = as_is s n _ h.1 (out_no_more s outs.Alter id)

alter_resp : (s n : ClientState) (o : Option Out) (id : ℕ) (b : AlterRespBody) (t : Option Outcome) → HearsAlterResp s o id b t n → Keeps s n
alter_resp s n None id b t h = as_is s n s h.1 (same s)
alter_resp s n (Some outs.Alter) id b t h = acks_alter s n id (slice_get b.results 0) b.group t h
alter_resp s n (Some outs.Bind) id b t h = as_is s n s h.1 (same s)
alter_resp s n (Some outs.Call) id b t h = as_is s n s h.1 (same s)

fault : (s n : ClientState) (o : Option Out) (id flags : ℕ) (status : Status) (t : Option Outcome) → FaultTells s o id flags status t n → Keeps s n
fault s n None id flags status t h = as_is s n s h.1 (same s)
fault s n (Some o) id flags status t h = as_is s n _ h.1 (out_no_more s o id)

-- ---- responses

so_far : (s : ClientState) (c : Calling) (joining : Joining) → s.call ≡ Some c → Keeps s (joined_so_far s c joining)
so_far s c joining out = record { interface = refl; lawful = λ h. h; call = λ d is. (c, out, ap (λ (x : Calling). x.id) (some_is d (record c { joining = joining }) is)) }

answers : (s n : ClientState) (c : Calling) (f : Fragment) (t : Option Outcome) → s.call ≡ Some c → AnswersCall s c f t n → Keeps s n
answers s n c f None out (joining, adds, is) = as_is s n _ is (so_far s c joining out)
answers s n c f (Some (TBroken (Join why))) out (known, joining, adds, is) = as_is s n _ is (so_far s c joining out)
answers s n c f (Some (TBroken (Ndr why))) out (j, joining, adds, departs, is) = as_is s n _ is (so_far s c joining out)
answers s n c f (Some (TBroken Direction)) out h = absurd h
answers s n c f (Some (TDone m)) out (j, joining, adds, answer, is) = as_is s n _ is (gone s)
answers s n c f (Some (TBound group)) out h = absurd h
answers s n c f (Some (TNotBound reason)) out h = absurd h
answers s n c f (Some (TFault status not_run)) out h = absurd h

response : (s n : ClientState) (o : Option Out) (f : Fragment) (t : Option Outcome) → HearsResponse s o f t n → Keeps s n
response s n None f t h = as_is s n s h.1 (same s)
response s n (Some outs.Call) f t (c, out, h) = answers s n c f t out h
response s n (Some outs.Bind) f t h = as_is s n s h.1 (same s)
response s n (Some outs.Alter) f t h = as_is s n s h.1 (same s)

-- ---- every PDU

pub keeps : (s n : ClientState) (p : Pdu) (body : Body) (t : Option Outcome) → HearsBody s p body t n → Keeps s n
keeps s n p (bodies.BindAck b) t h = bind_ack s n (out_with s p.call_id) b t h
keeps s n p (bodies.BindNak b) t h = bind_nak s n (out_with s p.call_id) b t h
keeps s n p (bodies.AlterResp b) t h = alter_resp s n (out_with s p.call_id) p.call_id b t h
keeps s n p (bodies.Fault b) t h = fault s n (out_with s p.call_id) p.call_id p.flags b.status t h
keeps s n p (bodies.Response b) t h = response s n (out_with s p.call_id) (answer_fragment p b) t h
keeps s n p bodies.Shutdown t h = as_is s n s h.1 (same s)
keeps s n p (bodies.Request b) t h = as_is s n s h.1 (same s)
keeps s n p (bodies.Bind b) t h = as_is s n s h.1 (same s)
keeps s n p (bodies.Alter b) t h = as_is s n s h.1 (same s)
keeps s n p bodies.CoCancel t h = as_is s n s h.1 (same s)
keeps s n p bodies.Orphaned t h = as_is s n s h.1 (same s)
