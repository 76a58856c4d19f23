-- A server's connection takes the fragments of a request, one after the other.
use Rattle.std.proofs.Common.{◌≡◌, ℕ, zero, suc, ◌+◌, ◌^◌, ◌<◌, ◌≤◌, Bool, true, false, eqb, List, [], ◌∷◌, ◌++◌, length, reverse, Option, Some, None, refl, sym, ap, subst, ◌∙◌, append_assoc, append-nil, arith, length-append}
use Rattle.std.proofs.lemmas.Bool.{eq-eqb}
use Rattle.std.proofs.Math.Dec.{eqb-suc-zero}
use Rattle.std.specs.Prelude.{◌||◌, ⊤}
use Rattle.std.specs.List.{flat_map}
use Rattle.handle_model.proofs.Reversed.{reverse-cons}
use Rattle.rpc_base.specs.declared.identifiers.Order.TheVariants.{Little}
use Rattle.pdu_codec.specs.Constants.{stub_offset}
use Rattle.pdu_codec.specs.Pdus.{pdu_octets}
use Rattle.pdu_codec.specs.declared.pdu.Pdu.{Pdu}
use Rattle.pdu_stream.specs.declared.joined.Joined.{Joined}
use Rattle.pdu_stream.specs.Pieces.{ArePieces}
use Rattle.pdu_stream.specs.Fragments.{is_last, with_fragment, joined_of, IsTaken, most_stub}
use Rattle.pdu_stream.specs.Cuts.{IsNext}
use Rattle.pdu_stream.specs.Runs.{IsJoining, Changes}
use Rattle.pdu_stream.proofs.RunLaws.{runs_go_on}
use Rattle.conn_asks.specs.Asks.{is_bound, offered, Asks, JoinsToAsk, OfRequest}
use Rattle.conn_asks.specs.declared.events.Ask.{Ask}
use Rattle.conn_asks.specs.declared.events.Ask.TheVariants as asks
use Rattle.conn_asks.specs.declared.events.Waits.{Waits}
use Rattle.conn_asks.specs.declared.events.Waits.TheVariants.{Nothing}
use Rattle.conn_asks.specs.Answers.{octets_in}
use Rattle.conn_asks.specs.States.{ConnState, MayCome, IsIdle, Skips, SkipsAll}
use Rattle.client_core.specs.Octets.{request_fragment, request_fragments}
use Rattle.client_core.proofs.Putting.{octets_in-pieces}
use Rattle.client_laws.specs.Meeting.{whole_request}
use Rattle.client_core.proofs.Flags.{says_first, says_last, says_maybe, not_cancelled}
use Rattle.client_laws.proofs.Fragments.{fragment_with, is_pdu}

-- ---- what is joined so far

-- nothing before the first fragment, and then the request with the stub so far
abbrev pub run_at : ℕ → ℕ → Bool → Bool → List ℕ → Option Joined
run_at id op maybe true so_far = None
run_at id op maybe false so_far = Some (whole_request id op maybe so_far)

-- before the first fragment there is no stub
abbrev pub Begins : Bool → List ℕ → Type 0
Begins true so_far = so_far ≡ []
Begins false so_far = ⊤

pub joins : (id op : ℕ) (maybe first : Bool) (so_far piece : List ℕ) (later : ℕ) → Begins first so_far
    → with_fragment (run_at id op maybe first so_far) (fragment_with id op maybe first piece later) ≡ whole_request id op maybe (so_far ++ piece)
unfolding joined_of
joins id op maybe true so_far piece later none =
    let last = eqb later 0 in
    let stub : piece ++ [] ≡ so_far ++ piece = append-nil piece ∙ ap (λ (x : List ℕ). x ++ piece) (sym none) in
    (λ i. record { call_id = id; order = Little; context = 0; op = op; maybe = says_maybe maybe true last i; cancel = (not_cancelled maybe true last i || false); stub = stub i })
joins id op maybe false so_far piece later none =
    let last = eqb later 0 in
    (λ i. record { call_id = id; order = Little; context = 0; op = op; maybe = maybe; cancel = not_cancelled maybe false last i; stub = so_far ++ piece })

pub taken : (id op : ℕ) (maybe first : Bool) (so_far piece : List ℕ) (later : ℕ) → Begins first so_far → length so_far + length piece ≤ most_stub
    → IsTaken (run_at id op maybe first so_far) (fragment_with id op maybe first piece later)
taken id op maybe true so_far piece later none short =
    (says_first maybe true (eqb later 0), tt, omega (arith, ap length (ap (λ (j : Joined). j.stub) (joins id op maybe true so_far piece later none)), length-append so_far piece, short))
taken id op maybe false so_far piece later none short =
    (rw (says_first maybe false (eqb later 0), eq-eqb id id refl, eq-eqb op op refl) refl, refl, omega (arith, length-append so_far piece, short))

-- ---- the fragments, one after the other

-- These fragments are left, behind what is joined so far.
pub record IsBehind (id op : ℕ) (maybe first : Bool) (so_far : List ℕ) (pieces : List (List ℕ)) (m : ConnState) : Type 0 where
  pub waits : m.waits ≡ Nothing
  pub bound : is_bound m.past ≡ true
  pub runs : IsJoining (reverse m.past) (run_at id op maybe first so_far)
  pub rest : m.rest ≡ flat_map pdu_octets (request_fragments id op maybe first pieces)

-- Behind PDUs at which nothing is done there is one more, at which the call is asked; nothing is left, and nothing is joined.
pub record AsksCall (m : ConnState) (j : Joined) : Type 0 where
  pub skipped : List Pdu
  pub between : ConnState
  pub skips : SkipsAll m skipped between
  pub last : Pdu
  pub next : IsNext between.rest last []
  pub waits : between.waits ≡ Nothing
  pub asks : Asks between.past last (Some (asks.Call j))
  pub ids : between.ids ≡ m.ids
  pub agreement : between.agreement ≡ m.agreement
  pub offered_before : offered between.past ≡ offered m.past
  pub offered_is : offered (last ∷ between.past) ≡ offered m.past
  pub bound : is_bound (last ∷ between.past) ≡ true
  pub joining : IsJoining (reverse (last ∷ between.past)) None

pub joining_on : (past : List Pdu) (p : Pdu) (run new : Option Joined) → IsJoining (reverse past) run → Changes run p p.body new → IsJoining (reverse (p ∷ past)) new
joining_on past p run new h c = subst (λ (ps : List Pdu). IsJoining ps new) (sym (reverse-cons p past)) (runs_go_on (reverse past) p run new h c)

pub positive : (n : ℕ) → 0 < n → eqb n 0 ≡ false
positive zero lt = absurd (omega (arith, lt))
positive (suc n) lt = eqb-suc-zero n

request_is_next : (id op : ℕ) (maybe first : Bool) (piece : List ℕ) (later : ℕ) (more rest : List ℕ) → id < 2 ^ 32 → op < 2 ^ 16 → length piece + later ≤ most_stub → stub_offset + length piece < 2 ^ 16
    → rest ≡ pdu_octets (request_fragment id op maybe first piece later) ++ more → IsNext rest (request_fragment id op maybe first piece later) more
request_is_next id op maybe first piece later more rest small few short long whole =
    (pdu_octets (request_fragment id op maybe first piece later), is_pdu id op maybe first piece later small few short long, whole)

-- a fragment in front of which this is joined
asks_at : (m : ConnState) (id op : ℕ) (maybe first : Bool) (so_far piece : List ℕ) (later : ℕ) (ask : Option Ask) → is_bound m.past ≡ true → IsJoining (reverse m.past) (run_at id op maybe first so_far)
    → JoinsToAsk (run_at id op maybe first so_far) (fragment_with id op maybe first piece later) ask → Asks m.past (request_fragment id op maybe first piece later) ask
asks_at m id op maybe first so_far piece later ask bound runs joins = record {
  run = run_at id op maybe first so_far;
  joining = runs;
  asks = subst (λ (b : Bool). OfRequest b (run_at id op maybe first so_far) (fragment_with id op maybe first piece later) ask) (sym bound) joins;
}

last_one : (m : ConnState) (id op size : ℕ) (maybe first : Bool) (so_far stub piece : List ℕ) → id < 2 ^ 32 → op < 2 ^ 16 → stub_offset + size < 2 ^ 16
    → Begins first so_far → length so_far + length stub ≤ most_stub → stub ≡ piece → length piece ≤ size → IsBehind id op maybe first so_far (piece ∷ []) m
    → AsksCall m (whole_request id op maybe (so_far ++ stub))
unfolding request_fragments offered
last_one m id op size maybe first so_far stub piece small few wide none short whole fits b =
    let p = request_fragment id op maybe first piece 0 in
    let run = run_at id op maybe first so_far in
    let f = fragment_with id op maybe first piece 0 in
    let takes : IsTaken run f = taken id op maybe first so_far piece 0 none (omega (arith, short, ap length whole)) in
    let is : whole_request id op maybe (so_far ++ stub) ≡ with_fragment run f =
    ap (λ (x : List ℕ). whole_request id op maybe (so_far ++ x)) whole ∙ sym (joins id op maybe first so_far piece 0 none) in
    record {
      skipped = [];
      between = m;
      skips = refl;
      last = p;
      next = request_is_next id op maybe first piece 0 [] m.rest small few (omega (arith, short, ap length whole)) (omega (arith, wide, fits)) b.rest;
      waits = b.waits;
      asks = asks_at m id op maybe first so_far piece 0 (Some (asks.Call (whole_request id op maybe (so_far ++ stub)))) b.bound b.runs (takes, says_last maybe first true, is);
      ids = refl;
      agreement = refl;
      offered_before = refl;
      offered_is = append-nil (offered m.past);
      bound = b.bound;
      joining = joining_on m.past p run None b.runs (Some (with_fragment run f), (takes, says_last maybe first true, refl, refl));
    }

-- one fragment is skipped, and then
then_asks : (m n : ConnState) (p : Pdu) (j : Joined) → Skips m p n → offered n.past ≡ offered m.past → AsksCall n j → AsksCall m j
then_asks m n p j s same a = record {
  skipped = p ∷ a.skipped;
  between = a.between;
  skips = (n, s, a.skips);
  last = a.last;
  next = a.next;
  waits = a.waits;
  asks = a.asks;
  ids = a.ids ∙ s.takes.ids;
  agreement = a.agreement ∙ s.takes.agreement;
  offered_before = a.offered_before ∙ same;
  offered_is = a.offered_is ∙ same;
  bound = a.bound;
  joining = a.joining;
}

pub arrives : (pieces : List (List ℕ)) (m : ConnState) (id op size : ℕ) (maybe first : Bool) (so_far stub : List ℕ) → id < 2 ^ 32 → op < 2 ^ 16 → stub_offset + size < 2 ^ 16
    → Begins first so_far → length so_far + length stub ≤ most_stub → ArePieces size stub pieces → IsBehind id op maybe first so_far pieces m
    → AsksCall m (whole_request id op maybe (so_far ++ stub))
unfolding request_fragments offered
arrives [] m id op size maybe first so_far stub small few wide none short are b = absurd are
arrives (piece ∷ []) m id op size maybe first so_far stub small few wide none short (whole, fits) b =
    last_one m id op size maybe first so_far stub piece small few wide none short whole fits b
arrives (piece ∷ next ∷ others) m id op size maybe first so_far stub small few wide none short (behind, whole, long, more, are) b =
    let later = octets_in (next ∷ others) in
    let count : later ≡ length behind = octets_in-pieces size behind (next ∷ others) are in
    let total : length stub ≡ length piece + length behind = ap length whole ∙ length-append piece behind in
    let p = request_fragment id op maybe first piece later in
    let run = run_at id op maybe first so_far in
    let f = fragment_with id op maybe first piece later in
    let takes : IsTaken run f = taken id op maybe first so_far piece later none (omega (arith, short, total)) in
    let unended : is_last f ≡ false = says_last maybe first (eqb later 0) ∙ positive later (omega (arith, count, more)) in
    let n : ConnState = record m { past = p ∷ m.past; rest = flat_map pdu_octets (request_fragments id op maybe false (next ∷ others)) } in
    let skip : Skips m p n =
    record {
      takes = record {
        may = subst (λ (w : Waits). MayCome w p.body) (sym b.waits) tt;
        next = request_is_next id op maybe first piece later n.rest m.rest small few (omega (arith, short, total, count)) (omega (arith, wide, long)) b.rest;
        past = refl;
        ids = refl;
        agreement = refl;
      };
      ask = None;
      asks = asks_at m id op maybe first so_far piece later None b.bound b.runs (takes, unended);
      idle = subst (λ (w : Waits). IsIdle w None) (sym b.waits) tt;
      waits = refl;
    } in
    let runs : IsJoining (reverse n.past) (Some (with_fragment run f)) = joining_on m.past p run (Some (with_fragment run f)) b.runs (None, (takes, unended, refl)) in
    let on : AsksCall n (whole_request id op maybe ((so_far ++ piece) ++ behind)) =
    arrives (next ∷ others) n id op size maybe false (so_far ++ piece) behind small few wide tt (omega (arith, short, total, length-append so_far piece)) are
    (record { waits = b.waits; bound = b.bound; runs = subst (λ (j : Joined). IsJoining (reverse n.past) (Some j)) (joins id op maybe first so_far piece later none) runs; rest = refl }) in
    let same : (so_far ++ piece) ++ behind ≡ so_far ++ stub = append_assoc so_far piece behind ∙ ap (λ (x : List ℕ). so_far ++ x) (sym whole) in
    subst (λ (x : List ℕ). AsksCall m (whole_request id op maybe x)) same
    (then_asks m n p (whole_request id op maybe ((so_far ++ piece) ++ behind)) skip (append-nil (offered m.past)) on)
