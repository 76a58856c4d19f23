-- A request arrives, in whatever pieces its octets come.
use Rattle.std.proofs.Common.{◌≡◌, ℕ, ◌^◌, ◌<◌, ◌≤◌, inl, Bool, true, List, [], ◌∷◌, ◌++◌, length, reverse, Option, Some, None, Ok, refl, sym, ap, subst, ◌∙◌, append-nil, arith}
use Rattle.pdu_codec.specs.Constants.{stub_offset}
use Rattle.pdu_codec.specs.declared.pdu.Pdu.{Pdu}
use Rattle.pdu_stream.specs.declared.joined.Joined.{Joined}
use Rattle.pdu_stream.specs.Pieces.{piece_size}
use Rattle.pdu_stream.specs.Fragments.{most_stub}
use Rattle.pdu_stream.specs.Runs.{IsJoining}
use Rattle.pdu_stream.specs.Cuts.{IsNext}
use Rattle.pdu_stream.proofs.CutLaws.{not_remains}
use Rattle.presentation.specs.declared.verdict.Accepted.{Accepted}
use Rattle.presentation.specs.Offers.{contexts, interface_of}
use Rattle.conn_asks.specs.Asks.{is_bound}
use Rattle.conn_asks.specs.declared.events.Ask.TheVariants as asks
use Rattle.conn_asks.specs.declared.events.Act.TheVariants as acts
use Rattle.conn_asks.specs.declared.events.Waits.{Waits}
use Rattle.conn_asks.specs.declared.events.Waits.TheVariants.{Call}
use Rattle.conn_asks.specs.States.{ConnState, with_octets, accepted, caller_of, ActsOnCall, MayCome, ActsAt, IsStuck, Goes}
use Rattle.conn_histories.specs.Histories.{Event, Lives, IsAtRest}
use Rattle.conn_histories.specs.Histories.Event.{Came, Did}
use Rattle.conn_histories.proofs.Late.{same_answers}
use Rattle.client_core.specs.Octets.{IsRequest}
use Rattle.client_laws.specs.Meeting.{IsLawful, IsReady, whole_request}
use Rattle.client_laws.specs.Ends.{Comes, IsGiven}
use Rattle.client_laws.proofs.Joining.{AsksCall, arrives}

-- no octets are no PDU
none_next : (p : Pdu) (others : List ℕ) → IsNext [] p others → ⊥
none_next p others next = not_remains p next.0 others None next.1 (inl (omega (arith, ap length next.2)))

rests : (m : ConnState) (j : Joined) → m.waits ≡ Call (caller_of j) j.maybe → m.rest ≡ [] → IsAtRest m
rests m j waits rest =
    let none : IsStuck (Call (caller_of j) j.maybe) [] = λ p others next. absurd (none_next p others next) in
    subst (λ (w : Waits). IsStuck w m.rest) (sym waits) (subst (λ (r : List ℕ). IsStuck (Call (caller_of j) j.maybe) r) (sym rest) none)

-- what holds behind a whole request
pub record Behind (start : ConnState) (j : Joined) (number : ℕ) (events : List Event) (end : ConnState) : Type 0 where
  pub given : IsGiven j number events end
  pub rest : end.rest ≡ []
  pub bound : is_bound end.past ≡ true
  pub joining : IsJoining (reverse end.past) None
  pub agreement : end.agreement ≡ start.agreement
  pub accepted_is : accepted end ≡ accepted start

-- the state in which the call is asked
abbrev asked_in : (m : ConnState) (j : Joined) → AsksCall m j → ConnState
asked_in m j a = record a.between { past = a.last ∷ a.between.past; rest = []; waits = Call (caller_of j) j.maybe }

goes : (m : ConnState) (j : Joined) (number : ℕ) (a : AsksCall m j) → interface_of (accepted m) j.context ≡ Some number → Goes m (Ok (Some (acts.Call j number))) (asked_in m j a)
goes m j number a found =
    let n = asked_in m j a in
    let same : accepted a.between ≡ accepted m = λ i. contexts (a.ids i) (a.offered_before i) in
    let found_there : interface_of (accepted a.between) j.context ≡ Some number = ap (λ (xs : List Accepted). interface_of xs j.context) same ∙ found in
    let at : ActsAt a.between a.last (acts.Call j number) n =
    record {
      takes = record { may = subst (λ (w : Waits). MayCome w a.last.body) (sym a.waits) tt; next = a.next; past = refl; ids = refl; agreement = refl };
      ask = asks.Call j;
      asks = a.asks;
      does = subst (λ (x : Option ℕ). ActsOnCall x j (acts.Call j number) (Call (caller_of j) j.maybe)) (sym found_there) (refl, refl);
    } in
    (a.skipped, a.between, a.skips, inl (a.last, at))

behind_it : (start end : ConnState) (j : Joined) (number : ℕ) (octets : List ℕ) (events : List Event) (a : AsksCall (with_octets start octets) j)
    → interface_of (accepted start) j.context ≡ Some number → Comes start octets events end → Behind start j number events end
behind_it start end j number octets events a found c =
    let m = with_octets start octets in
    let n = asked_in m j a in
    let act = acts.Call j number in
    let once : List Event = Came octets ∷ Did act ∷ [] in
    let lives : Lives start once n = (m, refl, (n, goes m j number a found, refl)) in
    let same = same_answers start end n events once c.lives lives (c.octets_are ∙ sym (append-nil octets)) c.undecided c.at_rest (rests n j refl refl) in
    let is : end ≡ n = same.1 in
    record {
      given = record { acts = same.0; waits = ap (λ (x : ConnState). x.waits) is };
      rest = ap (λ (x : ConnState). x.rest) is;
      bound = ap (λ (x : ConnState). is_bound x.past) is ∙ a.bound;
      joining = subst (λ (x : ConnState). IsJoining (reverse x.past) None) (sym is) a.joining;
      agreement = ap (λ (x : ConnState). x.agreement) is ∙ a.agreement;
      accepted_is = ap (λ (x : ConnState). accepted x) is ∙ (λ i. contexts (a.ids i) (a.offered_is i));
    }

pub request_arrives : (start end : ConnState) (id op number most : ℕ) (maybe : Bool) (stub octets : List ℕ) (events : List Event) → id < 2 ^ 32 → op < 2 ^ 16 → IsLawful most
    → length stub ≤ most_stub → IsRequest id op maybe most stub octets → IsReady start → interface_of (accepted start) 0 ≡ Some number → Comes start octets events end
    → Behind start (whole_request id op maybe stub) number events end
request_arrives start end id op number most maybe stub octets events small few lawful short request ready found comes =
    let whole : start.rest ++ octets ≡ octets = ap (λ (x : List ℕ). x ++ octets) ready.rest in
    let a : AsksCall (with_octets start octets) (whole_request id op maybe stub) =
    arrives request.0 (with_octets start octets) id op (piece_size most stub_offset) maybe true [] stub small few (omega (arith, lawful.0, lawful.1)) refl (omega (arith, short)) request.1
    (record { waits = ready.waits; bound = ready.bound; runs = ready.joining; rest = whole ∙ request.2 }) in
    behind_it start end (whole_request id op maybe stub) number octets events a found comes
