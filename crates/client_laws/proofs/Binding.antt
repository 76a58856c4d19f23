-- A bind and its answer.
use Rattle.std.proofs.Common.{◌≡◌, ℕ, ◌^◌, ◌<◌, inl, List, [], ◌∷◌, length, Some, None, Ok, refl, sym, ap, subst, ◌∙◌, append-nil, arith, length-append}
use Rattle.rpc_base.specs.declared.identifiers.SyntaxId.{SyntaxId}
use Rattle.rpc_base.specs.Fields.{FitsSyntax}
use Rattle.pdu_codec.specs.Constants.{only_frag, most_fragment}
use Rattle.pdu_codec.specs.Pdus.{pdu_octets, IsPdu, AreSpelled}
use Rattle.pdu_codec.specs.declared.pdu.Pdu.{Pdu}
use Rattle.pdu_codec.specs.declared.pdu.BindBody.{BindBody}
use Rattle.pdu_codec.specs.declared.pdu.BindAckBody.{BindAckBody}
use Rattle.pdu_codec.specs.declared.pdu.ContextResult.{ContextResult}
use Rattle.pdu_codec.proofs.SizeLaws.{bind_ack_writable}
use Rattle.pdu_codec.proofs.AnswerLaws.{pdu_written}
use Rattle.pdu_stream.specs.declared.cut.Cut.{Cut}
use Rattle.pdu_stream.specs.Cuts.{IsCut}
use Rattle.pdu_stream.specs.Fragments.{Fragment}
use Rattle.pdu_stream.specs.Runs.{IsOpen}
use Rattle.pdu_stream.proofs.CutLaws.{one_cut}
use Rattle.pdu_stream.proofs.RunLaws.{runs_go_on}
use Rattle.presentation.specs.declared.verdict.Accepted.{Accepted}
use Rattle.presentation.specs.Serving.{ndr, serving}
use Rattle.presentation.specs.Offers.{acceptance, verdict, contexts, contexts_after, results_after, interface_of}
use Rattle.conn_asks.specs.declared.events.Caller.{Caller}
use Rattle.conn_asks.specs.declared.events.Ask.TheVariants as asks
use Rattle.conn_asks.specs.declared.events.Act.TheVariants as acts
use Rattle.conn_asks.specs.declared.events.Waits.TheVariants.{Group}
use Rattle.conn_asks.specs.Asks.{offered, caller}
use Rattle.conn_asks.specs.Answers.{agreement_of, bind_ack}
use Rattle.conn_asks.specs.States.{ConnState, at_start, with_octets, accepted, ready_ack, ActsAt, Goes, BoundAt}
use Rattle.conn_histories.specs.Histories.{Event, Lives}
use Rattle.conn_histories.specs.Histories.Event.{Came, Did}
use Rattle.conn_histories.proofs.Late.{same_answers}
use Rattle.client_core.specs.declared.begun.Stage.TheVariants.{Bound}
use Rattle.client_core.specs.States.{Outcome, ClientState}
use Rattle.client_core.specs.States.Outcome.{TBound}
use Rattle.client_core.specs.Octets.{offer, bind_pdu}
use Rattle.client_core.specs.Calls.{binding}
use Rattle.client_core.specs.Hears.{sendable}
use Rattle.client_core.specs.Histories.{with_outcome}
use Rattle.client_core.proofs.Writable.{bind_writable, fits_ndr}
use Rattle.client_laws.specs.Meeting.{IsReady, IsFree, HearsAll}
use Rattle.client_laws.specs.Ends.{BindsMeet}
use Rattle.client_laws.proofs.Responses.{all_cut}

abbrev bind_body : SyntaxId → ℕ → BindBody
bind_body syntax group = record { max_xmit = most_fragment; max_recv = most_fragment; group = group; elements = offer syntax 0 }

pub is_bind : (syntax : SyntaxId) (group : ℕ) → FitsSyntax syntax → group < 2 ^ 32 → IsPdu (bind_pdu syntax group) (pdu_octets (bind_pdu syntax group))
is_bind syntax group fits small =
    pdu_written (bind_pdu syntax group) (record {
      flags = omega arith;
      call_id = omega arith;
      body = record {
        max_xmit = omega arith;
        max_recv = omega arith;
        group = small;
        elements = (record { context = omega arith; syntax = fits; transfers = (fits_ndr, tt) }, tt);
      };
    }) (bind_writable syntax group fits)

-- nothing is being joined before the first PDU
pub none_open : (first : Fragment) (behind : List Pdu) → IsOpen [] first behind → ⊥
none_open first behind o = omega (arith, ap length o.whole, length-append o.before (o.opener ∷ behind))

-- what the interface is answered
abbrev accepting : ContextResult
accepting = record { result = acceptance; reason = 0; transfer = ndr }

pub results_are : (ids : List SyntaxId) (syntax : SyntaxId) (number : ℕ) → serving ids syntax ≡ Some number → results_after ids [] (offer syntax 0) ≡ accepting ∷ []
unfolding results_after verdict
results_are ids syntax number served = rw served refl

pub accepted_are : (ids : List SyntaxId) (syntax : SyntaxId) (number : ℕ) → serving ids syntax ≡ Some number → contexts ids (offer syntax 0) ≡ record { context = 0; interface = number } ∷ []
unfolding contexts_after verdict
accepted_are ids syntax number served = rw served refl

abbrev ack_with : List SyntaxId → SyntaxId → ℕ → BindAckBody
ack_with ids syntax group = ready_ack (agreement_of (bind_body syntax group) 0) (results_after ids [] (offer syntax 0))

abbrev binder_of : SyntaxId → ℕ → Caller
binder_of syntax group = caller (bind_pdu syntax group) 0

-- the state in which a group is waited for
abbrev grouping : List SyntaxId → SyntaxId → ℕ → ConnState
grouping ids syntax group = record (at_start ids) { past = bind_pdu syntax group ∷ []; waits = Group (binder_of syntax group) (ack_with ids syntax group) }

goes : (ids : List SyntaxId) (syntax : SyntaxId) (group : ℕ) → FitsSyntax syntax → group < 2 ^ 32
    → Goes (with_octets (at_start ids) (pdu_octets (bind_pdu syntax group))) (Ok (Some (acts.Group group))) (grouping ids syntax group)
unfolding contexts_after offered
goes ids syntax group fits small =
    let p = bind_pdu syntax group in
    let m = with_octets (at_start ids) (pdu_octets p) in
    let at : ActsAt m p (acts.Group group) (grouping ids syntax group) =
    record {
      takes = record { may = tt; next = (pdu_octets p, is_bind syntax group fits small, sym (append-nil (pdu_octets p))); past = refl; ids = refl; agreement = refl };
      ask = asks.Bind (binder_of syntax group) only_frag (bind_body syntax group);
      asks = record { run = None; joining = none_open; asks = refl };
      does = (refl, refl);
    } in
    ([], m, refl, inl (p, at))

-- ---- the answer

abbrev ack_pdu : SyntaxId → ℕ → ℕ → List ContextResult → Pdu
ack_pdu syntax group id results = bind_ack (binder_of syntax group) only_frag (record { max_xmit = most_fragment; max_recv = most_fragment; group = id }) results

pub is_ack : (syntax : SyntaxId) (group id : ℕ) → id < 2 ^ 32 → IsPdu (ack_pdu syntax group id (accepting ∷ [])) (pdu_octets (ack_pdu syntax group id (accepting ∷ [])))
is_ack syntax group id small =
    let p = ack_pdu syntax group id (accepting ∷ []) in
    pdu_written p (record {
      flags = omega arith;
      call_id = omega arith;
      body = record {
        max_xmit = omega arith;
        max_recv = omega arith;
        group = small;
        results = (record { result = omega arith; reason = omega arith; transfer = fits_ndr }, tt);
      };
    }) (bind_ack_writable p (record { max_xmit = most_fragment; max_recv = most_fragment; group = id; address = []; results = accepting ∷ [] }) (omega arith) refl (omega arith) (fits_ndr, tt) (omega arith))

-- what the caller is told of it
hears : (s t : ClientState) (syntax : SyntaxId) (group id : ℕ) (answer : List ℕ) (cut : Cut) (told : List Outcome) → id < 2 ^ 32 → answer ≡ pdu_octets (ack_pdu syntax group id (accepting ∷ [])) → IsCut answer cut
    → HearsAll (binding s) cut.pdus told t → (told ≡ TBound id ∷ []) × (t ≡ record (binding s) { stage = Bound; most = sendable most_fragment })
hears s t syntax group id answer cut told small put is_cut h =
    let p = ack_pdu syntax group id (accepting ∷ []) in
    let spelled : AreSpelled IsPdu (p ∷ []) answer = (pdu_octets p, [], put ∙ sym (append-nil (pdu_octets p)), is_ack syntax group id small, refl) in
    let same : cut ≡ record { pdus = p ∷ []; rest = []; fault = None } = one_cut answer cut (record { pdus = p ∷ []; rest = []; fault = None }) is_cut (all_cut (p ∷ []) answer spelled) in
    let (first, between, others, heard, told_is, end) = subst (λ (x : Cut). HearsAll (binding s) x.pdus told t) same h in
    (told_is ∙ (λ i. with_outcome (heard.0 i) (end.0 i)), end.1 ∙ heard.1)

pub binds_meet : BindsMeet
unfolding contexts_after offered
binds_meet s n t group id number octets answer ids at after events cut told fits small few served binds comes decided is_cut hears_it =
    let syntax = s.interface.id in
    let p = bind_pdu syntax group in
    let start = at_start ids in
    let m = with_octets start (pdu_octets p) in
    let act = acts.Group group in
    let once : List Event = Came (pdu_octets p) ∷ Did act ∷ [] in
    let lives : Lives start once (grouping ids syntax group) = (m, refl, (grouping ids syntax group, goes ids syntax group fits small, refl)) in
    let same = same_answers start at (grouping ids syntax group) events once comes.lives lives (comes.octets_are ∙ (binds.0 ∙ sym (append-nil (pdu_octets p)))) comes.undecided comes.at_rest tt in
    let bound : BoundAt (Group (binder_of syntax group) (ack_with ids syntax group)) (grouping ids syntax group) id answer after =
    subst (λ (x : ConnState). BoundAt x.waits x id answer after) same.1 decided in
    let put : answer ≡ pdu_octets (ack_pdu syntax group id (accepting ∷ [])) = bound.0 ∙ ap (λ (rs : List ContextResult). pdu_octets (ack_pdu syntax group id rs)) (results_are ids syntax number served) in
    let told_it = hears s t syntax group id answer cut told few put is_cut (subst (λ (x : ClientState). HearsAll x cut.pdus told t) binds.1 hears_it) in
    record {
      asks = same.0;
      done = told_it.0;
      interface = ap (λ (x : ClientState). x.interface) told_it.1;
      free = subst (λ (x : ClientState). IsFree x) (sym told_it.1) (record { bound = refl; call = refl; alters = refl; sends = (omega arith, omega arith) });
      ready = subst (λ (x : ConnState). IsReady x) (sym bound.1)
          (record { waits = refl; rest = refl; bound = refl; joining = runs_go_on [] p None None none_open refl; sends = (omega arith, omega arith) });
      found = ap (λ (x : ConnState). interface_of (accepted x) 0) bound.1 ∙ ap (λ (xs : List Accepted). interface_of xs 0) (accepted_are ids syntax number served);
    }
