-- What is answered are PDUs, and a connection's numbers go on fitting their fields.
use Rattle.std.proofs.Common.{◌≡◌, ℕ, ◌+◌, ◌-◌, ◌^◌, ◌<◌, ◌≤◌, inl, inr, Bool, true, false, Option, Some, None, Ok, List, [], ◌∷◌, ◌++◌, length, take, drop, get_or, refl, sym, ap, subst, ◌∙◌, arith}
use Rattle.std.specs.Prelude.{⊤, min, max}
use Rattle.std.specs.Int.{w32}
use Rattle.std.proofs.lemmas.List.{length-append, drop_at, get_or-take, take_at, get_or-append_right}
use Rattle.std.proofs.lemmas.Bool.{cases_lt}
use Rattle.rpc_base.specs.declared.identifiers.SyntaxId.{SyntaxId}
use Rattle.rpc_base.specs.Fields.{IsOctets}
use Rattle.rpc_base.proofs.FieldLaws.{IsOctets-drop, IsOctets-take, wide32}
use Rattle.pdu_codec.specs.declared.pdu.Pdu.{Pdu}
use Rattle.pdu_codec.specs.declared.fault.PduFault.{PduFault}
use Rattle.pdu_codec.specs.Faults.{length_order, raw_head_of}
use Rattle.pdu_codec.specs.Pdus.{IsPdu}
use Rattle.pdu_stream.specs.declared.joined.Joined.{Joined}
use Rattle.pdu_stream.specs.Cuts.{IsNext}
use Rattle.presentation.specs.declared.verdict.Accepted.{Accepted}
use Rattle.presentation.specs.Offers.{interface_of, results_after}
use Rattle.handle_model.specs.declared.entry.Said.{Said}
use Rattle.conn_asks.specs.declared.events.Caller.{Caller}
use Rattle.conn_asks.specs.declared.events.Agreement.{Agreement}
use Rattle.conn_asks.specs.declared.events.Ask.{Ask}
use Rattle.conn_asks.specs.declared.events.Ask.TheVariants as asks
use Rattle.conn_asks.specs.declared.events.Act.{Act}
use Rattle.conn_asks.specs.declared.events.Act.TheVariants as acts
use Rattle.conn_asks.specs.declared.events.Waits.{Waits}
use Rattle.conn_asks.specs.declared.events.Waits.TheVariants.{Nothing, Group, Call, Over, Failed}
use Rattle.conn_asks.specs.Asks.{caller_at, broken_by}
use Rattle.conn_asks.specs.Answers.{agreement_of, agreement_with, FitsStub}
use Rattle.conn_asks.specs.States.{ConnState, at_start, accepted, caller_of, with_octets, ActsOnCall, DoesWith, TakesPdu, SkipsAll, Acts, Goes, BoundAt, RefusedAt, RepliedAt}
use Rattle.conn_core.proofs.Fits.{results_fit}
use Rattle.conn_histories.specs.Histories.{act_octets}
use Rattle.server_counts.specs.Pieces.{ArePdus}
use Rattle.server_counts.proofs.Pieces.{none_are_pdus}
use Rattle.replay_events.specs.Numbered.{FitsCaller, FitsAgreement, FitsAck, FitsWaits, IsNumbered, FitsStatus}
use Rattle.replay_events.specs.Answers.{act_octets_of}
use Rattle.replay_events.proofs.Writing.{results_fit_fields, bind_ack_pdus, alter_resp_pdus, bind_nak_pdus, closing_pdus, refusal_pdus, replies_pdus}
use Rattle.replay_events.proofs.Asking.{FitsAsk, ask_fits, broken_fits}

-- ---- octets

octets_both : (a b : List ℕ) → IsOctets a → IsOctets b → IsOctets (a ++ b)
octets_both a b fits more i =
    elim (cases_lt i (length a)) [
      | inl low ↦ rw (sym (get_or-take (length a) (a ++ b) i 0 low) ∙ ap (λ (t : List ℕ). get_or t i 0) (take_at a b (length a) refl)) (fits i)
      | inr high ↦ rw (get_or-append_right a b (length a) i 0 refl high) (more (i - length a))
    ]

next_octets : (s others : List ℕ) (p : Pdu) → IsNext s p others → IsOctets s → IsOctets others
next_octets s others p next fits =
    subst IsOctets (ap (drop (length next.0)) next.2 ∙ drop_at next.0 others (length next.0) refl) (IsOctets-drop (length next.0) s fits)

-- ---- where it begins, and octets come

pub starts_numbered : (ids : List SyntaxId) → IsNumbered (at_start ids)
starts_numbered ids = record { rest = λ i. omega arith; agreement = record { max_xmit = omega arith; max_recv = omega arith; group = omega arith }; waits = tt }

pub came_numbered : (m : ConnState) (piece : List ℕ) → IsOctets piece → IsNumbered m → IsNumbered (with_octets m piece)
came_numbered m piece fits is = record { rest = octets_both m.rest piece is.rest fits; agreement = is.agreement; waits = is.waits }

-- ---- what is done at an ask

pdus_along : (act other : Act) → act ≡ other → ArePdus (act_octets other) → ArePdus (act_octets act)
pdus_along act other e are = subst (λ (x : Act). ArePdus (act_octets x)) (sym e) are

waits_along : (v w : Waits) → w ≡ v → FitsWaits v → FitsWaits w
waits_along v w e fits = subst FitsWaits (sym e) fits

call_fits : (number : Option ℕ) (j : Joined) (act : Act) (w : Waits) → FitsCaller (caller_of j) → ActsOnCall number j act w → ArePdus (act_octets act) × FitsWaits w
call_fits (Some k) j act w fits d = (pdus_along act (acts.Call j k) d.0 none_are_pdus, waits_along (Call (caller_of j) j.maybe) w d.1 fits)
call_fits None j act w fits d = (pdus_along act (acts.Answer _) d.0 (refusal_pdus (caller_of j) j.maybe fits), waits_along Nothing w d.1 tt)

does_fit : (ids : List SyntaxId) (a : List Accepted) (agreement : Agreement) (old : Waits) (ask : Ask) (act : Act) (w : Waits) → FitsAgreement agreement → FitsWaits old → FitsAsk ask
    → DoesWith ids a agreement old ask act w → ArePdus (act_octets act) × FitsWaits w
does_fit ids a agreement old (asks.Bind c flags b) act w sizes fits is d =
    let r = results_after ids a b.elements in (
      pdus_along act (acts.Group b.group) d.0 none_are_pdus,
      waits_along (Group c _) w d.1 (is.0, record { max_xmit = omega arith; max_recv = omega arith; address = refl; few = results_fit ids a b.elements is.1; results = results_fit_fields ids a b.elements }),
    )
does_fit ids a agreement old (asks.Alter c b) act w sizes fits is d = (
  pdus_along act (acts.Answer _) d.0 (alter_resp_pdus c agreement (results_after ids a b.elements) is.0 sizes (results_fit ids a b.elements is.1) (results_fit_fields ids a b.elements)),
  waits_along Nothing w d.1 tt,
)
does_fit ids a agreement old (asks.Call j) act w sizes fits is d = call_fits (interface_of a j.context) j act w is d
does_fit ids a agreement old (asks.Cancel id) act w sizes fits is d = (pdus_along act (acts.Cancel id) d.1 none_are_pdus, waits_along old w d.2 fits)
does_fit ids a agreement old (asks.Orphan id) act w sizes fits is d = (pdus_along act (acts.Orphan id) d.1 none_are_pdus, waits_along old w d.2 fits)
does_fit ids a agreement old (asks.Broken c f) act w sizes fits is d = (pdus_along act (acts.Close _ f) d.0 (closing_pdus c f is.0 is.1), waits_along Over w d.1 tt)

-- ---- acts

taken_numbered : (m n : ConnState) (p : Pdu) → TakesPdu m p n → FitsWaits n.waits → IsNumbered m → IsNumbered n
taken_numbered m n p takes waits is = record {
  rest = next_octets m.rest n.rest p takes.next is.rest;
  agreement = subst FitsAgreement (sym takes.agreement) is.agreement;
  waits = waits;
}

skips_numbered : (m : ConnState) (ps : List Pdu) (n : ConnState) → SkipsAll m ps n → IsNumbered m → IsNumbered n
skips_numbered m [] n e is = subst IsNumbered (sym e) is
skips_numbered m (p ∷ ps) n (between, skips, more) is =
    skips_numbered between ps n more (taken_numbered m between p skips.takes (waits_along m.waits between.waits skips.waits is.waits) is)

caller_fits : (octets : List ℕ) → IsOctets octets → FitsCaller (caller_at octets)
caller_fits octets fits = record { call_id = wide32.below (length_order (get_or octets 4 0)) (take 4 (drop 12 octets)) (IsOctets-take 4 (drop 12 octets) (IsOctets-drop 12 octets fits)); context = omega arith }

acts_fit : (m n : ConnState) (act : Act) → IsNumbered m → Acts m act n → ArePdus (act_octets act) × IsNumbered n
acts_fit m n act is (inl (p, a)) =
    let d = does_fit m.ids (accepted m) m.agreement m.waits a.ask act n.waits is.agreement is.waits (ask_fits m.past p a.takes.next.0 a.ask a.takes.next.1 a.asks) a.does in
    (d.0, taken_numbered m n p a.takes d.1 is)
acts_fit m n act is (inr (fault, s)) = (
  pdus_along act (acts.Close _ (broken_by m.rest fault)) s.act_is (closing_pdus (caller_at m.rest) (broken_by m.rest fault) (caller_fits m.rest is.rest) (broken_fits m.rest fault)),
  subst IsNumbered (sym s.after) (record { rest = is.rest; agreement = is.agreement; waits = tt }),
)

pub goes_fit : (m n : ConnState) (done : Option Act) → IsNumbered m → Goes m (Ok done) n → ArePdus (act_octets_of done) × IsNumbered n
goes_fit m n None is (skipped, skips, stuck) = (none_are_pdus, skips_numbered m skipped n skips is)
goes_fit m n (Some act) is (skipped, between, skips, acts_) = acts_fit between n act (skips_numbered m skipped between skips is) acts_

-- ---- decisions

pub bound_fits : (v : Waits) (m n : ConnState) (group : ℕ) (octets : List ℕ) → FitsWaits v → IsNumbered m → group < 2 ^ 32 → BoundAt v m group octets n → ArePdus octets × IsNumbered n
bound_fits (Group c ack) m n group octets fits is small h =
    let sizes : FitsAgreement (agreement_with ack group) = record { max_xmit = fits.1.max_xmit; max_recv = fits.1.max_recv; group = small } in (
      subst ArePdus (sym h.0) (bind_ack_pdus c (agreement_with ack group) ack.results fits.0 sizes fits.1.few fits.1.results),
      subst IsNumbered (sym h.1) (record { rest = is.rest; agreement = sizes; waits = tt }),
    )
bound_fits Nothing m n group octets fits is small h = absurd h
bound_fits (Call c maybe) m n group octets fits is small h = absurd h
bound_fits Over m n group octets fits is small h = absurd h
bound_fits Failed m n group octets fits is small h = absurd h

pub refused_fits : (v : Waits) (m n : ConnState) (reason : ℕ) (octets : List ℕ) → FitsWaits v → IsNumbered m → reason < 2 ^ 16 → RefusedAt v m reason octets n → ArePdus octets × IsNumbered n
refused_fits (Group c ack) m n reason octets fits is small h =
    (subst ArePdus (sym h.0) (bind_nak_pdus c reason fits.0 small), subst IsNumbered (sym h.1) (record { rest = is.rest; agreement = is.agreement; waits = tt }))
refused_fits Nothing m n reason octets fits is small h = absurd h
refused_fits (Call c maybe) m n reason octets fits is small h = absurd h
refused_fits Over m n reason octets fits is small h = absurd h
refused_fits Failed m n reason octets fits is small h = absurd h

pub replied_fits : (v : Waits) (m n : ConnState) (said : Option Said) (executed : Bool) (octets : List ℕ) → FitsWaits v → IsNumbered m → FitsStub said → FitsStatus said → RepliedAt v m said executed octets n
    → ArePdus octets × IsNumbered n
replied_fits (Call c maybe) m n said executed octets fits is stub status h = (
  replies_pdus c m.agreement.max_xmit maybe executed said octets fits is.agreement.max_xmit stub status h.0,
  subst IsNumbered (sym h.1) (record { rest = is.rest; agreement = is.agreement; waits = tt }),
)
replied_fits Nothing m n said executed octets fits is stub status h = absurd h
replied_fits (Group c ack) m n said executed octets fits is stub status h = absurd h
replied_fits Over m n said executed octets fits is stub status h = absurd h
replied_fits Failed m n said executed octets fits is stub status h = absurd h
