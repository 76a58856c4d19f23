-- The PDUs of an answer, and what their fragments join to.
use Rattle.std.proofs.Common.{◌≡◌, ℕ, ◌+◌, ◌^◌, ◌<◌, ◌≤◌, inl, Bool, true, false, eqb, List, [], ◌∷◌, ◌++◌, length, Option, Some, None, refl, sym, ap, ◌∙◌, append-nil, arith, length-append}
use Rattle.std.proofs.lemmas.Bool.{eq-eqb}
use Rattle.std.specs.Prelude.{◌||◌, not, ⊤}
use Rattle.rpc_base.specs.declared.identifiers.Status.{Status}
use Rattle.pdu_codec.specs.Constants.{stub_offset, first_frag, last_frag, pending_cancel, maybe_flag, did_not_execute}
use Rattle.pdu_codec.specs.Pdus.{pdu_octets, IsPdu, AreSpelled}
use Rattle.pdu_codec.specs.declared.pdu.Pdu.{Pdu}
use Rattle.pdu_codec.specs.declared.pdu.FaultBody.{FaultBody}
use Rattle.pdu_codec.specs.declared.pdu.ResponseBody.{ResponseBody}
use Rattle.pdu_codec.proofs.SizeLaws.{response_writable, fault_writable}
use Rattle.pdu_codec.proofs.AnswerLaws.{pdu_written}
use Rattle.pdu_stream.specs.declared.joined.Joined.{Joined}
use Rattle.pdu_stream.specs.Cuts.{IsCut}
use Rattle.pdu_stream.specs.Pieces.{ArePieces}
use Rattle.pdu_stream.specs.Fragments.{Fragment, has_flag, with_fragment, joined_of, IsTaken, most_stub}
use Rattle.conn_asks.specs.declared.events.Caller.{Caller}
use Rattle.conn_asks.specs.Answers.{flags_of, octets_in, response_fragment, response_octets, fault, fault_flags}
use Rattle.client_core.specs.Hears.{fragment_of}
use Rattle.client_core.proofs.Putting.{octets_in-pieces}
use Rattle.client_laws.specs.Ends.{FitsCaller}

-- ---- flags

says_first : (first last : Bool) → has_flag first_frag (flags_of first last) ≡ first
says_first true true = refl
says_first true false = refl
says_first false true = refl
says_first false false = refl

pub says_last : (first last : Bool) → has_flag last_frag (flags_of first last) ≡ last
says_last true true = refl
says_last true false = refl
says_last false true = refl
says_last false false = refl

not_maybe : (first last : Bool) → has_flag maybe_flag (flags_of first last) ≡ false
not_maybe true true = refl
not_maybe true false = refl
not_maybe false true = refl
not_maybe false false = refl

not_cancelled : (first last : Bool) → has_flag pending_cancel (flags_of first last) ≡ false
not_cancelled true true = refl
not_cancelled true false = refl
not_cancelled false true = refl
not_cancelled false false = refl

flags_small : (first last : Bool) → flags_of first last < 2 ^ 8
flags_small true true = omega arith
flags_small true false = omega arith
flags_small false true = omega arith
flags_small false false = omega arith

pub says_not_run : (executed : Bool) → has_flag did_not_execute (fault_flags executed) ≡ not executed
says_not_run true = refl
says_not_run false = refl

fault_small : (executed : Bool) → fault_flags executed < 2 ^ 8
fault_small true = omega arith
fault_small false = omega arith

-- ---- PDUs

abbrev pub response_pdus : Caller → Bool → List (List ℕ) → List Pdu
response_pdus c first [] = []
response_pdus c first (piece ∷ later) = response_fragment c first piece (octets_in later) ∷ response_pdus c false later

abbrev pub body_of : Caller → List ℕ → ℕ → ResponseBody
body_of c piece later = record { alloc_hint = length piece + later; context = c.context; cancel_count = 0; stub = piece }

fragment_is : (c : Caller) (first : Bool) (piece : List ℕ) (later : ℕ) → FitsCaller c → length piece + later ≤ most_stub → stub_offset + length piece < 2 ^ 16
    → IsPdu (response_fragment c first piece later) (pdu_octets (response_fragment c first piece later))
fragment_is c first piece later fits short long =
    let p = response_fragment c first piece later in
    pdu_written p (record {
      flags = flags_small first (eqb later 0);
      call_id = fits.0;
      body = record { alloc_hint = omega (arith, short); context = fits.1; cancel_count = omega arith };
    }) (response_writable p (body_of c piece later) (omega arith) refl (omega (arith, long)))

abbrev fault_body : Caller → Status → FaultBody
fault_body c status = record { alloc_hint = 0; context = c.context; cancel_count = 0; status = status }

pub fault_is : (c : Caller) (executed : Bool) (status : Status) → FitsCaller c → status.0 < 2 ^ 32 → IsPdu (fault c executed status) (pdu_octets (fault c executed status))
fault_is c executed status fits small =
    let p = fault c executed status in
    pdu_written p (record {
      flags = fault_small executed;
      call_id = fits.0;
      body = record { alloc_hint = omega arith; context = fits.1; cancel_count = omega arith; status = small };
    }) (fault_writable p (fault_body c status) (omega arith) refl)

-- the octets of a response spell its fragments
pub response_spelled : (pieces : List (List ℕ)) (c : Caller) (size : ℕ) (first : Bool) (stub : List ℕ) → FitsCaller c → length stub ≤ most_stub → stub_offset + size < 2 ^ 16
    → ArePieces size stub pieces → AreSpelled IsPdu (response_pdus c first pieces) (response_octets c first pieces)
unfolding response_octets
response_spelled [] c size first stub fits short wide are = absurd are
response_spelled (piece ∷ []) c size first stub fits short wide (whole, long) =
    let p = response_fragment c first piece 0 in
    (pdu_octets p, [], refl, fragment_is c first piece 0 fits (omega (arith, short, ap length whole)) (omega (arith, wide, long)), refl)
response_spelled (piece ∷ next ∷ others) c size first stub fits short wide (behind, whole, long, more, are) =
    let later = octets_in (next ∷ others) in
    let count : later ≡ length behind = octets_in-pieces size behind (next ∷ others) are in
    let total : length stub ≡ length piece + length behind = ap length whole ∙ length-append piece behind in
    let p = response_fragment c first piece later in (
      pdu_octets p,
      response_octets c false (next ∷ others),
      refl,
      fragment_is c first piece later fits (omega (arith, short, total, count)) (omega (arith, wide, long)),
      response_spelled (next ∷ others) c size false behind fits (omega (arith, short, total)) wide are,
    )

-- octets that spell PDUs are cut into them, and nothing is left
pub all_cut : (pdus : List Pdu) (octets : List ℕ) → AreSpelled IsPdu pdus octets → IsCut octets (record { pdus = pdus; rest = []; fault = None })
all_cut pdus octets spelled = record { front = octets; whole = sym (append-nil octets); pdus = spelled; remains = inl (omega arith) }

-- ---- what fragments join to

abbrev pub whole_answer : Caller → List ℕ → Joined
whole_answer c stub = record { call_id = c.call_id; order = c.order; context = c.context; op = 0; maybe = false; cancel = false; stub = stub }

-- nothing before the first fragment, and then the response so far
abbrev pub run_at : Caller → Bool → List ℕ → Option Joined
run_at c true so_far = None
run_at c false so_far = Some (whole_answer c so_far)

abbrev pub Begins : Bool → List ℕ → Type 0
Begins true so_far = so_far ≡ []
Begins false so_far = ⊤

-- a fragment as the caller joins it
abbrev pub fragment_at : Caller → Bool → List ℕ → ℕ → Fragment
fragment_at c first piece later = fragment_of c.order (flags_of first (eqb later 0)) c.call_id (body_of c piece later)

pub joins : (c : Caller) (first : Bool) (so_far piece : List ℕ) (later : ℕ) → Begins first so_far
    → with_fragment (run_at c first so_far) (fragment_at c first piece later) ≡ whole_answer c (so_far ++ piece)
unfolding joined_of
joins c true so_far piece later none =
    let last = eqb later 0 in
    let stub : piece ++ [] ≡ so_far ++ piece = append-nil piece ∙ ap (λ (x : List ℕ). x ++ piece) (sym none) in
    (λ i. record { call_id = c.call_id; order = c.order; context = c.context; op = 0; maybe = not_maybe true last i; cancel = (not_cancelled true last i || false); stub = stub i })
joins c false so_far piece later none =
    let last = eqb later 0 in
    (λ i. record { call_id = c.call_id; order = c.order; context = c.context; op = 0; maybe = false; cancel = not_cancelled false last i; stub = so_far ++ piece })

pub taken : (c : Caller) (first : Bool) (so_far piece : List ℕ) (later : ℕ) → Begins first so_far → length so_far + length piece ≤ most_stub
    → IsTaken (run_at c first so_far) (fragment_at c first piece later)
taken c true so_far piece later none short =
    (says_first true (eqb later 0), tt, omega (arith, ap length (ap (λ (j : Joined). j.stub) (joins c true so_far piece later none)), length-append so_far piece, short))
taken c false so_far piece later none short =
    (rw (says_first false (eqb later 0), eq-eqb c.call_id c.call_id refl, eq-eqb c.context c.context refl) refl, refl, omega (arith, length-append so_far piece, short))
