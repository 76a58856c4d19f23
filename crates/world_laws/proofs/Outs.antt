-- While a call is out no bind and no alter_context is: what a caller is told then is told of the call.
use Rattle.std.proofs.Common.{◌≡◌, ℕ, Bool, true, false, ◌&&◌, cond, eqb, Option, Some, None, List, [], refl, sym, ap, subst, ◌∙◌}
use Rattle.std.specs.Prelude.{is_some, slice_get}
use Rattle.std.specs.List.{list_any}
use Rattle.rpc_base.specs.declared.identifiers.Status.{Status}
use Rattle.pdu_codec.specs.declared.pdu.Pdu.{Pdu}
use Rattle.pdu_codec.specs.declared.pdu.Body.{Body}
use Rattle.pdu_codec.specs.declared.pdu.Body.TheVariants as bodies
use Rattle.pdu_codec.specs.declared.pdu.BindAckBody.{BindAckBody}
use Rattle.pdu_codec.specs.declared.pdu.BindNakBody.{BindNakBody}
use Rattle.pdu_codec.specs.declared.pdu.AlterRespBody.{AlterRespBody}
use Rattle.pdu_codec.specs.declared.pdu.ContextResult.{ContextResult}
use Rattle.presentation.specs.Offers.{acceptance}
use Rattle.pdu_stream.specs.Fragments.{Fragment, Joining}
use Rattle.client_core.specs.declared.begun.Stage.TheVariants.{Unbound, Bound}
use Rattle.client_core.specs.declared.begun.Out.{Out}
use Rattle.client_core.specs.declared.begun.Out.TheVariants as outs
use Rattle.client_core.specs.declared.told.ClientFault.TheVariants.{Direction, Join, Ndr}
use Rattle.client_core.specs.States.{Outcome, ClientState, Calling, is_binding_at, is_calling, bind_id, has_id, is_id, out_with}
use Rattle.client_core.specs.States.Outcome.{TBound, TNotBound, TDone, TFault, TBroken}
use Rattle.client_core.specs.Hears.{sendable, joined_so_far, answer_fragment, AcksBind, HearsBindAck, HearsBindNak, HearsAlterResp, FaultTells, AnswersCall, HearsResponse, HearsBody}

-- an outcome of a call
abbrev pub tells_call : Option Outcome → Bool
tells_call (Some (TDone m)) = true
tells_call (Some (TFault status not_run)) = true
tells_call _ = false

pub record OnlyCalls (s : ClientState) : Type 0 where
  pub alters : s.alters ≡ []
  pub unbound : is_calling s ≡ true → is_binding_at s.stage ≡ false

-- With an outcome the call is out no more; else it is out as it was.
pub record HearsOn (s n : ClientState) (t : Option Outcome) : Type 0 where
  pub only : OnlyCalls n
  pub quiet : tells_call t ≡ false → is_calling n ≡ is_calling s
  pub told : tells_call t ≡ true → is_calling n ≡ false

true_false : {A : Type 0} (b : Bool) → b ≡ true → b ≡ false → A
true_false b t f = absurd (cc (t, f))

quietly : (s n : ClientState) (t : Option Outcome) → tells_call t ≡ false → OnlyCalls n → is_calling n ≡ is_calling s → HearsOn s n t
quietly s n t none only same = record { only = only; quiet = λ e. same; told = λ e. true_false (tells_call t) e none }

as_was : (s n : ClientState) (t : Option Outcome) (u : Option Outcome) → OnlyCalls s → tells_call u ≡ false → t ≡ u → n ≡ s → HearsOn s n t
as_was s n t u only none is same =
    quietly s n t (ap tells_call is ∙ none) (subst (λ (x : ClientState). OnlyCalls x) (sym same) only) (ap (λ (x : ClientState). is_calling x) same)

-- ---- what is out

by_alter : (a b c : Bool) → c ≡ false → cond a (Some outs.Bind) (cond b (Some outs.Call) (cond c (Some outs.Alter) None)) ≡ Some outs.Alter → ⊥
by_alter true b c none h = absurd (cc (h))
by_alter false true c none h = absurd (cc (h))
by_alter false false true none h = absurd (cc (none))
by_alter false false false none h = absurd (cc (h))

no_alter : {A : Type 0} (s : ClientState) (id : ℕ) → OnlyCalls s → out_with s id ≡ Some outs.Alter → A
no_alter s id only h = absurd (by_alter (is_binding_at s.stage && eqb id bind_id) (has_id id s.call) (list_any (is_id id) s.alters) (ap (λ (x : List ℕ). list_any (is_id id) x) only.alters) h)

and_first : (a b : Bool) → (a && b) ≡ true → a ≡ true
and_first true b h = refl
and_first false b h = absurd (cc (h))

by_bind : (a b c : Bool) → cond a (Some outs.Bind) (cond b (Some outs.Call) (cond c (Some outs.Alter) None)) ≡ Some outs.Bind → a ≡ true
by_bind true b c h = refl
by_bind false true c h = absurd (cc (h))
by_bind false false true h = absurd (cc (h))
by_bind false false false h = absurd (cc (h))

is_binding : (s : ClientState) (id : ℕ) → out_with s id ≡ Some outs.Bind → is_binding_at s.stage ≡ true
is_binding s id h = and_first (is_binding_at s.stage) (eqb id bind_id) (by_bind (is_binding_at s.stage && eqb id bind_id) (has_id id s.call) (list_any (is_id id) s.alters) h)

not_calling : (s : ClientState) (b : Bool) → is_calling s ≡ b → OnlyCalls s → is_binding_at s.stage ≡ true → is_calling s ≡ false
not_calling s true e only h = true_false (is_binding_at s.stage) h (only.unbound e)
not_calling s false e only h = e

-- ---- binds

result_quiet : (b : Bool) (group n : ℕ) → tells_call (Some (cond b (TBound group) (TNotBound n))) ≡ false
result_quiet true group n = refl
result_quiet false group n = refl

acked : (s : ClientState) (b : Bool) (most : ℕ) → OnlyCalls s → OnlyCalls (cond b (record s { stage = Bound; most = most }) (record s { stage = Unbound }))
acked s true most only = record { alters = only.alters; unbound = λ e. refl }
acked s false most only = record { alters = only.alters; unbound = λ e. refl }

acked_calls : (s : ClientState) (b : Bool) (most : ℕ) → is_calling (cond b (record s { stage = Bound; most = most }) (record s { stage = Unbound })) ≡ is_calling s
acked_calls s true most = refl
acked_calls s false most = refl

acks : (s n : ClientState) (r : Option ContextResult) (group most : ℕ) (t : Option Outcome) → OnlyCalls s → AcksBind s r group most t n → HearsOn s n t
acks s n None group most t only h = as_was s n t (Some (TBroken Direction)) only refl h.0 h.1
acks s n (Some r) group most t only h =
    quietly s n t (ap tells_call h.0 ∙ result_quiet (eqb r.result acceptance) group _)
    (subst (λ (x : ClientState). OnlyCalls x) (sym h.1) (acked s (eqb r.result acceptance) (sendable most) only))
    (ap (λ (x : ClientState). is_calling x) h.1 ∙ acked_calls s (eqb r.result acceptance) (sendable most))

bind_ack : (s n : ClientState) (o : Option Out) (b : BindAckBody) (t : Option Outcome) → OnlyCalls s → HearsBindAck s o b t n → HearsOn s n t
bind_ack s n None b t only h = as_was s n t None only refl h.0 h.1
bind_ack s n (Some outs.Bind) b t only h = acks s n (slice_get b.results 0) b.group b.max_recv t only h
bind_ack s n (Some outs.Alter) b t only h = as_was s n t (Some (TBroken Direction)) only refl h.0 h.1
bind_ack s n (Some outs.Call) b t only h = as_was s n t (Some (TBroken Direction)) only refl h.0 h.1

unbinds : (s n : ClientState) → OnlyCalls s → n ≡ record s { stage = Unbound } → OnlyCalls n
unbinds s n only is = subst (λ (x : ClientState). OnlyCalls x) (sym is) (record { alters = only.alters; unbound = λ e. refl })

bind_nak : (s n : ClientState) (o : Option Out) (b : BindNakBody) (t : Option Outcome) → OnlyCalls s → HearsBindNak s o b t n → HearsOn s n t
bind_nak s n None b t only h = as_was s n t None only refl h.0 h.1
bind_nak s n (Some outs.Bind) b t only h = quietly s n t (ap tells_call h.0) (unbinds s n only h.1) (ap (λ (x : ClientState). is_calling x) h.1)
bind_nak s n (Some outs.Alter) b t only h = as_was s n t (Some (TBroken Direction)) only refl h.0 h.1
bind_nak s n (Some outs.Call) b t only h = as_was s n t (Some (TBroken Direction)) only refl h.0 h.1

alter_resp : (s n : ClientState) (o : Option Out) (id : ℕ) (b : AlterRespBody) (t : Option Outcome) → out_with s id ≡ o → OnlyCalls s → HearsAlterResp s o id b t n → HearsOn s n t
alter_resp s n None id b t out only h = as_was s n t None only refl h.0 h.1
alter_resp s n (Some outs.Alter) id b t out only h = no_alter s id only out
alter_resp s n (Some outs.Bind) id b t out only h = as_was s n t (Some (TBroken Direction)) only refl h.0 h.1
alter_resp s n (Some outs.Call) id b t out only h = as_was s n t (Some (TBroken Direction)) only refl h.0 h.1

-- ---- calls

over : (s n : ClientState) → OnlyCalls s → n ≡ record s { call = None } → OnlyCalls n
over s n only is = subst (λ (x : ClientState). OnlyCalls x) (sym is) (record { alters = only.alters; unbound = λ e. absurd (cc (e)) })

told_over : (s n : ClientState) (t u : Option Outcome) → OnlyCalls s → tells_call u ≡ true → t ≡ u → n ≡ record s { call = None } → HearsOn s n t
told_over s n t u only some is after = record {
  only = over s n only after;
  quiet = λ e. true_false (tells_call t) (ap tells_call is ∙ some) e;
  told = λ e. ap (λ (x : ClientState). is_calling x) after;
}

fault : (s n : ClientState) (o : Option Out) (id flags : ℕ) (status : Status) (t : Option Outcome) → out_with s id ≡ o → OnlyCalls s → FaultTells s o id flags status t n → HearsOn s n t
fault s n None id flags status t out only h = as_was s n t None only refl h.0 h.1
fault s n (Some outs.Bind) id flags status t out only h = record {
  only = unbinds s n only h.1;
  quiet = λ e. ap (λ (x : ClientState). is_calling x) h.1;
  told = λ e. ap (λ (x : ClientState). is_calling x) h.1 ∙ not_calling s (is_calling s) refl only (is_binding s id out);
}
fault s n (Some outs.Alter) id flags status t out only h = no_alter s id only out
fault s n (Some outs.Call) id flags status t out only h = told_over s n t _ only refl h.0 h.1

so_far : (s n : ClientState) (c : Calling) (joining : Joining) (t : Option Outcome) → OnlyCalls s → s.call ≡ Some c → tells_call t ≡ false → n ≡ joined_so_far s c joining → HearsOn s n t
so_far s n c joining t only out none is =
    let calls : is_calling s ≡ true = ap (λ (x : Option Calling). is_some x) out in
    quietly s n t none (subst (λ (x : ClientState). OnlyCalls x) (sym is) (record { alters = only.alters; unbound = λ e. only.unbound calls }))
    (ap (λ (x : ClientState). is_calling x) is ∙ sym calls)

answers : (s n : ClientState) (c : Calling) (f : Fragment) (t : Option Outcome) → OnlyCalls s → s.call ≡ Some c → AnswersCall s c f t n → HearsOn s n t
answers s n c f None only out (joining, adds, is) = so_far s n c joining None only out refl is
answers s n c f (Some (TBroken (Join why))) only out (known, joining, adds, is) = so_far s n c joining (Some (TBroken (Join why))) only out refl is
answers s n c f (Some (TBroken (Ndr why))) only out (j, joining, adds, departs, is) = so_far s n c joining (Some (TBroken (Ndr why))) only out refl is
answers s n c f (Some (TBroken Direction)) only out h = absurd h
answers s n c f (Some (TDone m)) only out (j, joining, adds, answer, is) = told_over s n (Some (TDone m)) (Some (TDone m)) only refl refl is
answers s n c f (Some (TBound group)) only out h = absurd h
answers s n c f (Some (TNotBound reason)) only out h = absurd h
answers s n c f (Some (TFault status not_run)) only out h = absurd h

response : (s n : ClientState) (o : Option Out) (f : Fragment) (t : Option Outcome) → OnlyCalls s → HearsResponse s o f t n → HearsOn s n t
response s n None f t only h = as_was s n t None only refl h.0 h.1
response s n (Some outs.Call) f t only (c, out, h) = answers s n c f t only out h
response s n (Some outs.Bind) f t only h = as_was s n t (Some (TBroken Direction)) only refl h.0 h.1
response s n (Some outs.Alter) f t only h = as_was s n t (Some (TBroken Direction)) only refl h.0 h.1

-- ---- every PDU

pub hears_on : (s n : ClientState) (p : Pdu) (body : Body) (t : Option Outcome) → OnlyCalls s → HearsBody s p body t n → HearsOn s n t
hears_on s n p (bodies.BindAck b) t only h = bind_ack s n (out_with s p.call_id) b t only h
hears_on s n p (bodies.BindNak b) t only h = bind_nak s n (out_with s p.call_id) b t only h
hears_on s n p (bodies.AlterResp b) t only h = alter_resp s n (out_with s p.call_id) p.call_id b t refl only h
hears_on s n p (bodies.Fault b) t only h = fault s n (out_with s p.call_id) p.call_id p.flags b.status t refl only h
hears_on s n p (bodies.Response b) t only h = response s n (out_with s p.call_id) (answer_fragment p b) t only h
hears_on s n p bodies.Shutdown t only h = as_was s n t None only refl h.0 h.1
hears_on s n p (bodies.Request b) t only h = as_was s n t (Some (TBroken Direction)) only refl h.0 h.1
hears_on s n p (bodies.Bind b) t only h = as_was s n t (Some (TBroken Direction)) only refl h.0 h.1
hears_on s n p (bodies.Alter b) t only h = as_was s n t (Some (TBroken Direction)) only refl h.0 h.1
hears_on s n p bodies.CoCancel t only h = as_was s n t (Some (TBroken Direction)) only refl h.0 h.1
hears_on s n p bodies.Orphaned t only h = as_was s n t (Some (TBroken Direction)) only refl h.0 h.1
