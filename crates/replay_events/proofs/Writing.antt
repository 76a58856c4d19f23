-- The octets of each answer are PDUs.
use Rattle.std.proofs.Common.{◌≡◌, ℕ, ◌+◌, ◌*◌, ◌/◌, ◌-◌, ◌^◌, ◌<◌, ◌≤◌, Bool, true, false, Option, Some, None, List, [], ◌∷◌, ◌++◌, length, refl, sym, ap, subst, ◌∙◌, arith}
use Rattle.std.specs.Prelude.{⊤, ◌==◌}
use Rattle.std.specs.List.{AllByRecursion}
use Rattle.std.proofs.lemmas.List.{length-append}
use Rattle.rpc_base.specs.declared.identifiers.Status.{Status}
use Rattle.rpc_base.specs.declared.identifiers.SyntaxId.{SyntaxId}
use Rattle.pdu_codec.specs.declared.pdu.Pdu.{Pdu}
use Rattle.pdu_codec.specs.declared.pdu.Element.{Element}
use Rattle.pdu_codec.specs.declared.pdu.ContextResult.{ContextResult}
use Rattle.pdu_codec.specs.Constants.{only_frag, stub_offset, most_fragment}
use Rattle.pdu_codec.specs.Pdus.{FitsPdu, FitsResult, IsWritable, pdu_octets}
use Rattle.pdu_codec.proofs.AnswerLaws.{pdu_written}
use Rattle.pdu_codec.proofs.WritingLaws.{length-pdu_octets}
use Rattle.pdu_codec.proofs.SizeLaws.{length-response, fault_writable, bind_ack_writable, bind_nak_writable, alter_resp_writable}
use Rattle.pdu_stream.specs.Fragments.{most_stub}
use Rattle.pdu_stream.specs.Pieces.{piece_size, ArePieces}
use Rattle.presentation.specs.declared.verdict.Accepted.{Accepted}
use Rattle.presentation.specs.declared.verdict.Verdict.{Verdict}
use Rattle.presentation.specs.declared.verdict.Verdict.TheVariants.{Accept, Reject}
use Rattle.presentation.specs.declared.verdict.Reason.{Reason}
use Rattle.presentation.specs.declared.verdict.Reason.TheVariants.{NotSpecified, AbstractSyntax, TransferSyntaxes, LocalLimit}
use Rattle.presentation.specs.Offers.{number_of, verdict, result_of, after, results_after}
use Rattle.handle_model.specs.declared.entry.Said.{Said}
use Rattle.handle_model.specs.declared.entry.Said.TheVariants.{Out, Fault}
use Rattle.conn_asks.specs.declared.events.Caller.{Caller}
use Rattle.conn_asks.specs.declared.events.Agreement.{Agreement}
use Rattle.conn_asks.specs.declared.events.ConnFault.{ConnFault}
use Rattle.conn_asks.specs.declared.events.ConnFault.TheVariants as why
use Rattle.conn_asks.specs.Answers.{AreResults, bind_ack, alter_resp, bind_nak, fault, closing, refusal, flags_of, response_fragment, octets_in, response_octets, IsResponse, FitsStub, Replies, proto_error, invalid_context}
use Rattle.server_counts.specs.Pieces.{ArePdus}
use Rattle.server_counts.proofs.Pieces.{pdus_go_on, pdu_is_pdus, none_are_pdus}
use Rattle.replay_events.specs.Numbered.{FitsCaller, FitsAgreement, FitsStatus, FitsFault}

written : (p : Pdu) → FitsPdu p → IsWritable p → ArePdus (pdu_octets p)
written p fits writable = pdu_is_pdus p (pdu_octets p) (pdu_written p fits writable)

both : (a b : List ℕ) → ArePdus a → ArePdus b → ArePdus (a ++ b)
both a b h k = (h.0 ++ k.0, pdus_go_on h.0 k.0 a b h.1 k.1)

-- ---- binds

result_fits : (v : Verdict) → FitsResult (result_of v)
result_fits (Accept k) = record { result = omega arith; reason = omega arith; transfer = record { id = refl; major = omega arith; minor = omega arith } }
result_fits (Reject NotSpecified) = record { result = omega arith; reason = omega arith; transfer = record { id = refl; major = omega arith; minor = omega arith } }
result_fits (Reject AbstractSyntax) = record { result = omega arith; reason = omega arith; transfer = record { id = refl; major = omega arith; minor = omega arith } }
result_fits (Reject TransferSyntaxes) = record { result = omega arith; reason = omega arith; transfer = record { id = refl; major = omega arith; minor = omega arith } }
result_fits (Reject LocalLimit) = record { result = omega arith; reason = omega arith; transfer = record { id = refl; major = omega arith; minor = omega arith } }

pub results_fit_fields : (ids : List SyntaxId) (a : List Accepted) (es : List Element) → AllByRecursion FitsResult (results_after ids a es)
unfolding results_after
results_fit_fields ids a [] = tt
results_fit_fields ids a (e ∷ es) = (result_fits (verdict ids a e), results_fit_fields ids (after ids a e) es)

pub bind_ack_pdus : (c : Caller) (agreement : Agreement) (results : List ContextResult) → FitsCaller c → FitsAgreement agreement → AreResults results → AllByRecursion FitsResult results
    → ArePdus (pdu_octets (bind_ack c only_frag agreement results))
bind_ack_pdus c agreement results caller sizes few fits =
    written (bind_ack c only_frag agreement results)
    (record {
      flags = omega arith;
      call_id = caller.call_id;
      body = record { max_xmit = omega (arith, sizes.max_xmit); max_recv = sizes.max_recv; group = sizes.group; results = fits };
    })
    (bind_ack_writable (bind_ack c only_frag agreement results) _ (omega arith) refl few.0 few.1 (omega (arith, few.0)))

pub alter_resp_pdus : (c : Caller) (agreement : Agreement) (results : List ContextResult) → FitsCaller c → FitsAgreement agreement → AreResults results → AllByRecursion FitsResult results
    → ArePdus (pdu_octets (alter_resp c agreement results))
alter_resp_pdus c agreement results caller sizes few fits =
    written (alter_resp c agreement results)
    (record {
      flags = omega arith;
      call_id = caller.call_id;
      body = record { max_xmit = omega (arith, sizes.max_xmit); max_recv = sizes.max_recv; group = sizes.group; results = fits };
    })
    (alter_resp_writable (alter_resp c agreement results) _ (omega arith) refl few.0 few.1 (omega (arith, few.0)))

pub bind_nak_pdus : (c : Caller) (reason : ℕ) → FitsCaller c → reason < 2 ^ 16 → ArePdus (pdu_octets (bind_nak c reason))
bind_nak_pdus c reason caller small =
    written (bind_nak c reason)
    (record { flags = omega arith; call_id = caller.call_id; body = record { reason = small; versions = (record { major = omega arith; minor = omega arith }, tt) } })
    (bind_nak_writable (bind_nak c reason) _ (omega arith) refl (omega arith))

-- ---- faults

pub fault_pdus : (c : Caller) (executed : Bool) (status : Status) → FitsCaller c → status.0 < 2 ^ 32 → ArePdus (pdu_octets (fault c executed status))
fault_pdus c true status caller small =
    written (fault c true status)
    (record { flags = omega arith; call_id = caller.call_id; body = record { alloc_hint = omega arith; context = caller.context; cancel_count = omega arith; status = small } })
    (fault_writable (fault c true status) _ (omega arith) refl)
fault_pdus c false status caller small =
    written (fault c false status)
    (record { flags = omega arith; call_id = caller.call_id; body = record { alloc_hint = omega arith; context = caller.context; cancel_count = omega arith; status = small } })
    (fault_writable (fault c false status) _ (omega arith) refl)

pub closing_pdus : (c : Caller) (f : ConnFault) → FitsCaller c → FitsFault f → ArePdus (pdu_octets (closing c f))
closing_pdus c (why.Nak reason) caller small = bind_nak_pdus c reason caller small
closing_pdus c (why.Pdu f) caller small = fault_pdus c false proto_error caller (omega arith)
closing_pdus c (why.Join f) caller small = fault_pdus c false proto_error caller (omega arith)
closing_pdus c why.Direction caller small = fault_pdus c false proto_error caller (omega arith)
closing_pdus c why.Unbound caller small = fault_pdus c false proto_error caller (omega arith)
closing_pdus c why.Rebound caller small = fault_pdus c false proto_error caller (omega arith)

pub refusal_pdus : (c : Caller) (maybe : Bool) → FitsCaller c → ArePdus (refusal c maybe)
refusal_pdus c true caller = none_are_pdus
refusal_pdus c false caller = fault_pdus c false invalid_context caller (omega arith)

-- ---- responses

abbrev IsShort : ℕ → List ℕ → Type 0
IsShort most piece = length piece ≤ most

pieces_short : (size : ℕ) (stub : List ℕ) (pieces : List (List ℕ)) → ArePieces size stub pieces → AllByRecursion (IsShort size) pieces × (octets_in pieces ≡ length stub)
pieces_short size stub [] are = absurd are
pieces_short size stub (piece ∷ []) are = ((are.1, tt), omega (arith, ap length are.0))
pieces_short size stub (piece ∷ next ∷ others) (later, whole, len, some, are) =
    let more = pieces_short size later (next ∷ others) are in
    ((omega (arith, len), more.0), omega (arith, more.1, ap length whole, length-append piece later))

flags_small : (first last : Bool) → flags_of first last < 2 ^ 8
flags_small true true = omega arith
flags_small true false = omega arith
flags_small false true = omega arith
flags_small false false = omega arith

fragment_pdus : (c : Caller) (first : Bool) (piece : List ℕ) (later : ℕ) → FitsCaller c → length piece ≤ most_fragment → length piece + later ≤ most_stub
    → ArePdus (pdu_octets (response_fragment c first piece later))
fragment_pdus c first piece later caller short few =
    let p : Pdu = response_fragment c first piece later in
    written p
    (record {
      flags = flags_small first (later == 0);
      call_id = caller.call_id;
      body = record { alloc_hint = omega (arith, few); context = caller.context; cancel_count = omega arith };
    })
    (record {
      minor = omega arith;
      body = tt;
      size = omega (arith, length-pdu_octets p, length-response c.order 0 (record { alloc_hint = length piece + later; context = c.context; cancel_count = 0; stub = piece }), short);
    })

response_pdus : (c : Caller) (first : Bool) (size : ℕ) (pieces : List (List ℕ)) → FitsCaller c → size ≤ most_fragment → AllByRecursion (IsShort size) pieces → octets_in pieces ≤ most_stub
    → ArePdus (response_octets c first pieces)
unfolding response_octets
response_pdus c first size [] caller low short few = none_are_pdus
response_pdus c first size (piece ∷ later) caller low short few =
    both (pdu_octets (response_fragment c first piece (octets_in later))) (response_octets c false later)
    (fragment_pdus c first piece (octets_in later) caller (omega (arith, short.0)) few)
    (response_pdus c false size later caller low short.1 (omega (arith, few)))

size_low : (most : ℕ) → most ≤ most_fragment → piece_size most stub_offset ≤ most_fragment
size_low most low = omega (arith, low)

pub replies_pdus : (c : Caller) (most : ℕ) (maybe executed : Bool) (said : Option Said) (octets : List ℕ) → FitsCaller c → most ≤ most_fragment → FitsStub said → FitsStatus said
    → Replies c most maybe executed said octets → ArePdus octets
replies_pdus c most true executed said octets caller low stub status is = subst ArePdus (sym is) none_are_pdus
replies_pdus c most false executed None octets caller low stub status is = subst ArePdus (sym is) none_are_pdus
replies_pdus c most false executed (Some (Fault s)) octets caller low stub status is = subst ArePdus (sym is) (fault_pdus c executed s caller status)
replies_pdus c most false executed (Some (Out text)) octets caller low stub status (pieces, are, is) =
    let short = pieces_short (piece_size most stub_offset) text pieces are in
    subst ArePdus (sym is) (response_pdus c true (piece_size most stub_offset) pieces caller (size_low most low) short.0 (omega (arith, short.1, stub)))
