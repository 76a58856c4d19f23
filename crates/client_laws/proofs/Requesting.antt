-- The fragments of a request ask one call, whatever stands behind them.
use Rattle.std.proofs.Common.{◌≡◌, ℕ, ◌+◌, ◌^◌, ◌<◌, ◌≤◌, Bool, true, false, cond, eqb, List, [], ◌∷◌, ◌++◌, length, reverse, Option, Some, None, refl, sym, ap, subst, ◌∙◌, append_assoc, arith, length-append}
use Rattle.std.specs.List.{flat_map}
use Rattle.pdu_codec.specs.Constants.{stub_offset}
use Rattle.pdu_codec.specs.Pdus.{pdu_octets, IsPdu, AreSpelled}
use Rattle.pdu_codec.specs.declared.pdu.Pdu.{Pdu}
use Rattle.pdu_stream.specs.declared.joined.Joined.{Joined}
use Rattle.pdu_stream.specs.Pieces.{ArePieces}
use Rattle.pdu_stream.specs.Fragments.{is_last, with_fragment, IsTaken, most_stub}
use Rattle.pdu_stream.specs.Runs.{IsJoining}
use Rattle.conn_asks.specs.Asks.{is_bound, called, Asks, AreAsks, JoinsToAsk, OfRequest}
use Rattle.conn_asks.specs.declared.events.Ask.{Ask}
use Rattle.conn_asks.specs.declared.events.Ask.TheVariants as asks
use Rattle.conn_asks.specs.Answers.{octets_in}
use Rattle.client_core.specs.Octets.{request_fragment, request_fragments}
use Rattle.client_core.proofs.Putting.{octets_in-pieces}
use Rattle.client_core.proofs.Flags.{says_last}
use Rattle.client_laws.specs.Meeting.{whole_request}
use Rattle.client_laws.proofs.Fragments.{fragment_with, is_pdu}
use Rattle.client_laws.proofs.Joining.{run_at, Begins, joins, taken, joining_on, positive}

-- The PDUs ask that call behind these, and nothing is being joined behind them.
pub record Requests (past pdus : List Pdu) (j : Joined) : Type 0 where
  pub behind : List Pdu
  pub bound : is_bound behind ≡ true
  pub joining : IsJoining (reverse behind) None
  pub called_is : called behind ≡ Some j.call_id
  pub asks : (more : List Pdu) (later : List Ask) → AreAsks behind more [] later → AreAsks past (pdus ++ more) [] (asks.Call j ∷ later)

asks_at : (past : List Pdu) (id op : ℕ) (maybe first : Bool) (so_far piece : List ℕ) (later : ℕ) (ask : Option Ask) → is_bound past ≡ true → IsJoining (reverse past) (run_at id op maybe first so_far)
    → JoinsToAsk (run_at id op maybe first so_far) (fragment_with id op maybe first piece later) ask → Asks past (request_fragment id op maybe first piece later) ask
asks_at past id op maybe first so_far piece later ask bound runs joins = record {
  run = run_at id op maybe first so_far;
  joining = runs;
  asks = subst (λ (b : Bool). OfRequest b (run_at id op maybe first so_far) (fragment_with id op maybe first piece later) ask) (sym bound) joins;
}

last_one : (past : List Pdu) (id op size : ℕ) (maybe first : Bool) (so_far stub piece : List ℕ) → Begins first so_far → length so_far + length stub ≤ most_stub → stub ≡ piece
    → is_bound past ≡ true → IsJoining (reverse past) (run_at id op maybe first so_far)
    → Requests past (request_fragments id op maybe first (piece ∷ [])) (whole_request id op maybe (so_far ++ stub))
unfolding request_fragments called
last_one past id op size maybe first so_far stub piece none short whole bound runs =
    let p = request_fragment id op maybe first piece 0 in
    let run = run_at id op maybe first so_far in
    let f = fragment_with id op maybe first piece 0 in
    let j = whole_request id op maybe (so_far ++ stub) in
    let takes : IsTaken run f = taken id op maybe first so_far piece 0 none (omega (arith, short, ap length whole)) in
    let is : j ≡ with_fragment run f =
    ap (λ (x : List ℕ). whole_request id op maybe (so_far ++ x)) whole ∙ sym (joins id op maybe first so_far piece 0 none) in
    record {
      behind = p ∷ past;
      bound = bound;
      joining = joining_on past p run None runs (Some (with_fragment run f), (takes, says_last maybe first true, refl, refl));
      called_is = ap (λ (b : Bool). cond b (Some id) (called past)) (says_last maybe first true);
      asks = λ more later are. (Some (asks.Call j), asks_at past id op maybe first so_far piece 0 (Some (asks.Call j)) bound runs (takes, says_last maybe first true, is), (later, refl, are));
    }

pub requests : (pieces : List (List ℕ)) (past : List Pdu) (id op size : ℕ) (maybe first : Bool) (so_far stub : List ℕ) → Begins first so_far → length so_far + length stub ≤ most_stub
    → ArePieces size stub pieces → is_bound past ≡ true → IsJoining (reverse past) (run_at id op maybe first so_far)
    → Requests past (request_fragments id op maybe first pieces) (whole_request id op maybe (so_far ++ stub))
unfolding request_fragments
requests [] past id op size maybe first so_far stub none short are bound runs = absurd are
requests (piece ∷ []) past id op size maybe first so_far stub none short (whole, fits) bound runs = last_one past id op size maybe first so_far stub piece none short whole bound runs
requests (piece ∷ next ∷ others) past id op size maybe first so_far stub none short (behind, whole, long, more, are) bound runs =
    let later = octets_in (next ∷ others) in
    let count : later ≡ length behind = octets_in-pieces size behind (next ∷ others) are in
    let total : length stub ≡ length piece + length behind = ap length whole ∙ length-append piece behind in
    let p = request_fragment id op maybe first piece later in
    let run = run_at id op maybe first so_far in
    let f = fragment_with id op maybe first piece later in
    let takes : IsTaken run f = taken id op maybe first so_far piece later none (omega (arith, short, total)) in
    let unended : is_last f ≡ false = says_last maybe first (eqb later 0) ∙ positive later (omega (arith, count, more)) in
    let on : IsJoining (reverse (p ∷ past)) (Some (with_fragment run f)) = joining_on past p run (Some (with_fragment run f)) runs (None, (takes, unended, refl)) in
    let r : Requests (p ∷ past) (request_fragments id op maybe false (next ∷ others)) (whole_request id op maybe ((so_far ++ piece) ++ behind)) =
    requests (next ∷ others) (p ∷ past) id op size maybe false (so_far ++ piece) behind tt (omega (arith, short, total, length-append so_far piece)) are bound
    (subst (λ (j : Joined). IsJoining (reverse (p ∷ past)) (Some j)) (joins id op maybe first so_far piece later none) on) in
    let same : (so_far ++ piece) ++ behind ≡ so_far ++ stub = append_assoc so_far piece behind ∙ ap (λ (x : List ℕ). so_far ++ x) (sym whole) in
    subst (λ (x : List ℕ). Requests past (request_fragments id op maybe first (piece ∷ next ∷ others)) (whole_request id op maybe x)) same
    (record {
      behind = r.behind;
      bound = r.bound;
      joining = r.joining;
      called_is = r.called_is;
      asks = λ more_pdus later_asks are_asks. (None, asks_at past id op maybe first so_far piece later None bound runs (takes, unended), r.asks more_pdus later_asks are_asks);
    })

-- the octets of a request spell its fragments
pub request_spelled : (pieces : List (List ℕ)) (id op size : ℕ) (maybe first : Bool) (stub : List ℕ) → id < 2 ^ 32 → op < 2 ^ 16 → length stub ≤ most_stub → stub_offset + size < 2 ^ 16
    → ArePieces size stub pieces → AreSpelled IsPdu (request_fragments id op maybe first pieces) (flat_map pdu_octets (request_fragments id op maybe first pieces))
unfolding request_fragments
request_spelled [] id op size maybe first stub small few short wide are = absurd are
request_spelled (piece ∷ []) id op size maybe first stub small few short wide (whole, long) =
    let p = request_fragment id op maybe first piece 0 in
    (pdu_octets p, [], refl, is_pdu id op maybe first piece 0 small few (omega (arith, short, ap length whole)) (omega (arith, wide, long)), refl)
request_spelled (piece ∷ next ∷ others) id op size maybe first stub small few short wide (behind, whole, long, more, are) =
    let later = octets_in (next ∷ others) in
    let count : later ≡ length behind = octets_in-pieces size behind (next ∷ others) are in
    let total : length stub ≡ length piece + length behind = ap length whole ∙ length-append piece behind in
    let p = request_fragment id op maybe first piece later in (
      pdu_octets p,
      flat_map pdu_octets (request_fragments id op maybe false (next ∷ others)),
      refl,
      is_pdu id op maybe first piece later small few (omega (arith, short, total, count)) (omega (arith, wide, long)),
      request_spelled (next ∷ others) id op size maybe false behind small few (omega (arith, short, total)) wide are,
    )
