-- Both ends of a call and its answer.
use Rattle.std.proofs.Common.{◌≡◌, ℕ, ◌+◌, ◌^◌, ◌<◌, ◌≤◌, Bool, true, false, eqb, List, [], ◌∷◌, length, Option, Some, None, Ok, refl, sym, ap, subst, ◌∙◌, append-nil, arith}
use Rattle.std.specs.Prelude.{◌&&◌, not}
use Rattle.pdu_codec.specs.Constants.{stub_offset}
use Rattle.pdu_codec.specs.Pdus.{pdu_octets, IsPdu, AreSpelled}
use Rattle.pdu_stream.specs.declared.cut.Cut.{Cut}
use Rattle.pdu_stream.specs.declared.joined.Joined.{Joined}
use Rattle.pdu_stream.specs.Cuts.{IsCut}
use Rattle.pdu_stream.specs.Pieces.{piece_size}
use Rattle.pdu_stream.specs.Fragments.{most_stub}
use Rattle.pdu_stream.proofs.CutLaws.{one_cut}
use Rattle.presentation.specs.declared.verdict.Accepted.{Accepted}
use Rattle.presentation.specs.Offers.{interface_of}
use Rattle.rpc_base.specs.declared.identifiers.Status.{Status}
use Rattle.rpc_base.specs.declared.identifiers.Order.TheVariants.{Little}
use Rattle.handle_model.specs.declared.entry.Said.{Said}
use Rattle.handle_model.specs.declared.entry.Said.TheVariants.{Out, Fault}
use Rattle.ndr_value.specs.Values.{Msg}
use Rattle.ndr_table.specs.Tables.{OpForm}
use Rattle.ndr_model.specs.declared.way.Way.TheVariants.{Request, Response}
use Rattle.ndr_model.specs.Message.{IsStub}
use Rattle.ndr_laws.specs.Laws.{IsOp, OneMessage, StubIsRead}
use Rattle.ndr_laws.specs.WrittenLaws.{WrittenIsStub}
use Rattle.ndr_model.specs.Fits.{IsOfOp}
use Rattle.conn_asks.specs.declared.events.Agreement.{Agreement}
use Rattle.conn_asks.specs.declared.events.Caller.{Caller}
use Rattle.conn_asks.specs.declared.events.Waits.{Waits}
use Rattle.conn_asks.specs.declared.events.Waits.TheVariants.{Nothing, Call}
use Rattle.conn_asks.specs.Answers.{fault, Replies, IsResponse}
use Rattle.conn_asks.specs.States.{ConnState, accepted, caller_of, RepliedAt}
use Rattle.conn_histories.specs.Histories.{Event}
use Rattle.client_core.specs.declared.begun.Stage.{Stage}
use Rattle.client_core.specs.declared.begun.Stage.TheVariants as stages
use Rattle.client_core.specs.declared.begun.Out as begun
use Rattle.client_core.specs.declared.begun.Out.TheVariants as outs
use Rattle.client_core.specs.States.{Outcome, ClientState, Calling, is_bound_at, is_binding_at, bind_id, next_id, out_with}
use Rattle.client_core.specs.States.Outcome.{TDone, TFault}
use Rattle.client_core.specs.Calls.{asking, out_call}
use Rattle.client_core.specs.Hears.{FaultTells}
use Rattle.client_core.specs.Histories.{with_outcome}
use Rattle.client_laws.specs.Meeting.{IsLawful, IsReady, HearsAll}
use Rattle.client_laws.specs.Ends.{ReadsAs, request_of, RequestsArrive, FitsCaller, AnswersAreTold, answering, CallsMeet}
use Rattle.client_laws.proofs.Arriving.{Behind, request_arrives}
use Rattle.client_laws.proofs.Responses.{says_not_run, response_pdus, fault_is, response_spelled, all_cut}
use Rattle.client_laws.proofs.Telling.{IsOut, is_out, out_is, IsResponseTo, heard}

-- ---- requests

id_small : (s : ClientState) → next_id s < 2 ^ 32
id_small s = omega arith

reads : (s : ClientState) (op : ℕ) (o : OpForm) (m : Msg) → WrittenIsStub → OneMessage → IsOp s.interface.types o → IsOfOp s.interface.types o Request None m
    → length (asking s.interface o m) ≤ most_stub → ReadsAs s.interface o (request_of s op o m) m
reads s op o m written one is_op of short =
    let is : IsStub s.interface.types o Request Little None m (asking s.interface o m) = written s.interface.types o Request Little None m is_op of (omega (arith, short)) in
    record { is = is; only = λ other that. one s.interface.types o Request Little None (asking s.interface o m) other m is_op that is }

pub requests_arrive : WrittenIsStub → OneMessage → RequestsArrive
requests_arrive written one s n op o m octets start end number events free few is_op of calls ready found comes = (
  (request_arrives start end (next_id s) op number s.most o.maybe (asking s.interface o m) octets events (id_small s) few free.sends calls.0 calls.1.0 ready found comes).given,
  reads s op o m written one is_op of calls.0,
)

-- ---- answers

-- What is told by the cut of an answer.
pub record IsTold (s n : ClientState) (cut : Cut) (told : List Outcome) (one : Outcome) : Type 0 where
  pub one_is : told ≡ one ∷ []
  pub after : n ≡ record s { call = None }
  pub rest : cut.rest ≡ []
  pub sound : cut.fault ≡ None

fault_told : (s n : ClientState) (c : Calling) (caller : Caller) (executed : Bool) (status : Status) (octets : List ℕ) (cut : Cut) (told : List Outcome) → IsOut s c → caller.call_id ≡ c.id → FitsCaller caller
    → status.0 < 2 ^ 32 → octets ≡ pdu_octets (fault caller executed status) → IsCut octets cut → HearsAll s cut.pdus told n → IsTold s n cut told (TFault status (not executed))
fault_told s n c caller executed status octets cut told out id fits small put is_cut hears =
    let p = fault caller executed status in
    let spelled : AreSpelled IsPdu (p ∷ []) octets = (pdu_octets p, [], put ∙ sym (append-nil (pdu_octets p)), fault_is caller executed status fits small, refl) in
    let same : cut ≡ record { pdus = p ∷ []; rest = []; fault = None } = one_cut octets cut (record { pdus = p ∷ []; rest = []; fault = None }) is_cut (all_cut (p ∷ []) octets spelled) in
    let (t, between, others, heard_it, told_is, end) = subst (λ (x : Cut). HearsAll s x.pdus told n) same hears in
    let tells : FaultTells s (Some outs.Call) caller.call_id p.flags status t between =
    subst (λ (x : Option begun.Out). FaultTells s x caller.call_id p.flags status t between) (ap (out_with s) id ∙ out_is s c out) heard_it in
    record {
      one_is = told_is ∙ ((λ i. with_outcome (tells.0 i) (end.0 i)) ∙ ap (λ (b : Bool). TFault status b ∷ []) (says_not_run executed));
      after = end.1 ∙ tells.1;
      rest = ap (λ (x : Cut). x.rest) same;
      sound = ap (λ (x : Cut). x.fault) same;
    }

response_told : (s n : ClientState) (c : Calling) (o : OpForm) (caller : Caller) (m : Msg) (most : ℕ) (stub octets : List ℕ) (cut : Cut) (told : List Outcome) → IsOut s c → c.joining ≡ Ok None → caller.call_id ≡ c.id
    → FitsCaller caller → IsLawful most → IsResponseTo s c o → length stub ≤ most_stub → IsStub s.interface.types o Response caller.order (Some c.message) m stub → IsResponse caller most stub octets
    → IsCut octets cut → HearsAll s cut.pdus told n → IsTold s n cut told (TDone m)
response_told s n c o caller m most stub octets cut told out fresh id fits lawful r short is (pieces, are, put) is_cut hears =
    let wide : stub_offset + piece_size most stub_offset < 2 ^ 16 = omega (arith, lawful.0, lawful.1) in
    let pdus = response_pdus caller true pieces in
    let spelled : AreSpelled IsPdu pdus octets = subst (λ (x : List ℕ). AreSpelled IsPdu pdus x) (sym put) (response_spelled pieces caller (piece_size most stub_offset) true stub fits short wide are) in
    let same : cut ≡ record { pdus = pdus; rest = []; fault = None } = one_cut octets cut (record { pdus = pdus; rest = []; fault = None }) is_cut (all_cut pdus octets spelled) in
    let hears_all : HearsAll s pdus told n = subst (λ (x : Cut). HearsAll s x.pdus told n) same hears in
    let done = heard pieces s n c o caller m (piece_size most stub_offset) true [] stub told out fresh id r are refl (omega (arith, short)) is hears_all in
    record { one_is = done.0; after = done.1; rest = ap (λ (x : Cut). x.rest) same; sound = ap (λ (x : Cut). x.fault) same }

pub answers_are_told : OneMessage → StubIsRead → AnswersAreTold
answers_are_told one read s n c o caller most executed (Fault status) octets cut told waiting op is_op id fits lawful says replies is_cut hears =
    let t = fault_told s n c caller executed status octets cut told (is_out s c waiting) id fits says replies is_cut hears in
    (TFault status (not executed), t.one_is, refl, t.after, t.rest, t.sound)
answers_are_told one read s n c o caller most executed (Out stub) octets cut told waiting op is_op id fits lawful (short, says) replies is_cut hears =
    let r : IsResponseTo s c o = record { op = op; is_op = is_op; one = one; read = read } in
    let t = response_told s n c o caller says.0 most stub octets cut told (is_out s c waiting) waiting.fresh id fits lawful r short says.1 replies is_cut hears in
    (TDone says.0, t.one_is, λ other that. ap (λ (x : Msg). TDone x) (one s.interface.types o Response caller.order (Some c.message) stub says.0 other is_op says.1 that), t.after, t.rest, t.sound)

-- ---- a call and its response

not_binding : (stage : Stage) (b : Bool) → is_bound_at stage ≡ true → (is_binding_at stage && b) ≡ false
not_binding stages.Unbound b h = refl
not_binding stages.Binding b h = absurd (cc (h))
not_binding stages.Bound b h = refl

-- the call that is out
abbrev out_of : ClientState → ℕ → Msg → Calling
out_of s op m = record { id = next_id s; op = op; message = m; joining = Ok None }

abbrev with_out : ClientState → ℕ → Msg → ClientState
with_out s op m = record s { newest = next_id s; call = Some (out_of s op m) }

replied : (at after : ConnState) (c : Caller) (maybe : Bool) (said : Said) (octets : List ℕ) → at.waits ≡ Call c maybe → maybe ≡ false → RepliedAt at.waits at (Some said) true octets after
    → Replies c at.agreement.max_xmit false true (Some said) octets × (after ≡ record at { waits = Nothing })
replied at after c maybe said octets waits wanted h =
    let by_call : RepliedAt (Call c maybe) at (Some said) true octets after = subst (λ (w : Waits). RepliedAt w at (Some said) true octets after) waits h in
    (subst (λ (b : Bool). Replies c at.agreement.max_xmit b true (Some said) octets) wanted by_call.0, by_call.1)

ready_again : (start at after : ConnState) (j : Joined) (number : ℕ) (events : List Event) → IsReady start → Behind start j number events at → after ≡ record at { waits = Nothing } → IsReady after
ready_again start at after j number events ready b is =
    subst (λ (x : ConnState). IsReady x) (sym is)
    (record { waits = refl; rest = b.rest; bound = b.bound; joining = b.joining; sends = subst (λ (a : Agreement). IsLawful a.max_xmit) (sym b.agreement) ready.sends })

pub calls_meet : WrittenIsStub → OneMessage → StubIsRead → CallsMeet
calls_meet written one read s n t op o m out octets start at after number events told free few op_is wanted is_op of calls ready found comes of_out short a =
    let b = request_arrives start at (next_id s) op number s.most o.maybe (asking s.interface o m) octets events (id_small s) few free.sends calls.0 calls.1.0 ready found comes in
    let c = out_of s op m in
    let n_is : n ≡ with_out s op m = calls.1.1 ∙ ap (λ (x : Bool). record s { newest = next_id s; call = out_call s op m x }) wanted in
    let caller : Caller = caller_of (request_of s op o m) in
    let r = replied at after caller o.maybe (Out (answering s.interface o m out)) a.octets b.given.waits wanted a.decided in
    let stub = answering s.interface o m out in
    let is : IsStub s.interface.types o Response Little (Some m) out stub = written s.interface.types o Response Little (Some m) out is_op of_out (omega (arith, short)) in
    let lawful : IsLawful at.agreement.max_xmit = subst (λ (x : Agreement). IsLawful x.max_xmit) (sym b.agreement) ready.sends in
    let hears : HearsAll (with_out s op m) a.cut.pdus told t = subst (λ (x : ClientState). HearsAll x a.cut.pdus told t) n_is a.hears in
    let told_it = response_told (with_out s op m) t c o caller out at.agreement.max_xmit stub a.octets a.cut told
    (record { call = refl; no_bind = not_binding s.stage (eqb (next_id s) bind_id) free.bound }) refl refl (id_small s, omega arith) lawful
    (record { op = op_is; is_op = is_op; one = one; read = read }) short is r.0 a.is_cut hears in
    record {
      given = b.given;
      reads = reads s op o m written one is_op of calls.0;
      done = told_it.one_is;
      caller = told_it.after ∙ ap (λ (x : Option Calling). record s { newest = next_id s; call = x }) (sym free.call);
      ready = ready_again start at after (request_of s op o m) number events ready b r.1;
      goes_on = ap (λ (x : ConnState). interface_of (accepted x) 0) r.1 ∙ (ap (λ (x : List Accepted). interface_of x 0) b.accepted_is ∙ found);
    }
