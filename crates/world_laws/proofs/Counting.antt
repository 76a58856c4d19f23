-- The server does no more calls than the caller started.
use Rattle.std.proofs.Common.{◌≡◌, ℕ, ◌+◌, ◌^◌, ◌≤◌, Bool, List, [], ◌∷◌, ◌++◌, length, Option, Some, None, refl, sym, ap, subst, ◌∙◌, append-nil, append_assoc, arith}
use Rattle.rpc_base.specs.Fields.{FitsSyntax}
use Rattle.pdu_stream.specs.declared.joined.Joined.{Joined}
use Rattle.presentation.specs.Offers.{interface_of}
use Rattle.ndr_table.specs.Tables.{TableForm}
use Rattle.conn_asks.specs.declared.events.Caller.{Caller}
use Rattle.conn_asks.specs.declared.events.Ask.{Ask}
use Rattle.conn_asks.specs.declared.events.Ask.TheVariants as asks
use Rattle.conn_asks.specs.declared.events.Act.TheVariants as acts
use Rattle.conn_asks.specs.declared.events.Agreement.{Agreement}
use Rattle.pdu_codec.specs.declared.pdu.BindAckBody.{BindAckBody}
use Rattle.conn_asks.specs.Asks.{AreAsksOf}
use Rattle.conn_asks.specs.Answers.{agreement_of}
use Rattle.conn_asks.specs.States.{ConnState, ready_ack, at_start, with_octets, caller_of}
use Rattle.conn_histories.specs.Histories.{Event, Lives, stream, seen}
use Rattle.conn_histories.specs.Histories.Event.{Came, Paused, Did, Decided}
use Rattle.conn_histories.specs.Histories.Decision.{ToGroup, RefuseGroup, Reply}
use Rattle.conn_histories.specs.Plays.{Negotiated, offering, results, Plays, Binds, CallsOff, EndsCall, PlaysCall}
use Rattle.conn_histories.proofs.Done.{acts_are_asks}
use Rattle.conn_histories.proofs.Along.{one_more}
use Rattle.client_core.specs.States.{ClientState}
use Rattle.client_core.specs.States as callers
use Rattle.client_core.specs.Histories.{ClientEvent, sent}
use Rattle.client_core.specs.Histories as client
use Rattle.client_core.specs.Histories.ClientEvent.{DidBind, DidAlter, DidCall, DidCancel, Received, Lost}
use Rattle.client_laws.specs.Sending.{EventAsks, EventsAsk, BindsOnce, cancel_asked}
use Rattle.client_laws.proofs.Sending.{sent_asks}
use Rattle.world_laws.specs.Counts.{started, starts_in, calls_asked, done}

-- ---- lists in a row

pub done_append : (a b : List Event) → done (a ++ b) ≡ done a + done b
done_append [] b = omega arith
done_append (e ∷ a) b = omega (arith, done_append a b)

pub started_append : (a b : List ClientEvent) → started (a ++ b) ≡ started a + started b
started_append [] b = omega arith
started_append (e ∷ a) b = omega (arith, started_append a b)

asked_append : (a b : List Ask) → calls_asked (a ++ b) ≡ calls_asked a + calls_asked b
asked_append [] b = omega arith
asked_append (e ∷ a) b = omega (arith, asked_append a b)

pub done_seen : (events : List Event) → done (seen events) ≡ done events
done_seen [] = refl
done_seen (Came octets ∷ later) = omega (arith, done_seen later)
done_seen (Paused ∷ later) = omega (arith, done_seen later)
done_seen (Did act ∷ later) = omega (arith, done_seen later)
done_seen (Decided decision octets ∷ later) = omega (arith, done_seen later)

-- ---- what the caller began is asked

cancel_none : (call : Option callers.Calling) → calls_asked (cancel_asked call) ≡ 0
cancel_none None = refl
cancel_none (Some c) = refl

event_asks : (s : ClientState) (event : ClientEvent) (asked : List Ask) → EventAsks s event asked → calls_asked asked ≡ starts_in event
event_asks s (DidBind group octets) asked h = ap calls_asked h
event_asks s (DidAlter context octets) asked h = ap calls_asked h
event_asks s (DidCall op m octets) asked (o, found, h) = ap calls_asked h
event_asks s (DidCancel octets) asked h = ap calls_asked h ∙ cancel_none s.call
event_asks s (Received p t) asked h = ap calls_asked h
event_asks s (Lost called) asked h = ap calls_asked h

events_ask : (events : List ClientEvent) (s n : ClientState) (asked : List Ask) → EventsAsk s events n asked → calls_asked asked ≡ started events
events_ask [] s n asked h = ap calls_asked h.1
events_ask (event ∷ later) s n asked (between, first, others, happens, here, whole, rest) =
    omega (arith, ap calls_asked whole, asked_append first others, event_asks s event first here, events_ask later between n others rest)

-- ---- what is asked is done once

calls_off : (offs : List Event) (more others : List Ask) → CallsOff offs more others → done offs ≡ 0
calls_off [] more others h = refl
calls_off (Did (acts.Cancel id) ∷ later) more others (behind, is, h) = omega (arith, calls_off later behind others h)
calls_off (Did (acts.Orphan id) ∷ later) more others (behind, is, h) = omega (arith, calls_off later behind others h)
calls_off (Did (acts.Answer octets) ∷ later) more others h = absurd h
calls_off (Did (acts.Group asked) ∷ later) more others h = absurd h
calls_off (Did (acts.Call j number) ∷ later) more others h = absurd h
calls_off (Did (acts.Close octets why) ∷ later) more others h = absurd h
calls_off (Came octets ∷ later) more others h = absurd h
calls_off (Paused ∷ later) more others h = absurd h
calls_off (Decided decision octets ∷ later) more others h = absurd h

ends_call : (c : Caller) (most : ℕ) (maybe : Bool) (Then : List Event → Type 0) (others : List Ask) (end : List Event) (n : ℕ) → ((rest : List Event) → Then rest → done rest ≤ n)
    → EndsCall c most maybe Then others end → done end ≤ n
ends_call c most maybe Then others [] n go h = omega arith
ends_call c most maybe Then others (Decided (Reply said executed) octets ∷ later) n go h = omega (arith, go later h.1)
ends_call c most maybe Then others (Decided (ToGroup group) octets ∷ later) n go h = absurd h
ends_call c most maybe Then others (Decided (RefuseGroup reason) octets ∷ later) n go h = absurd h
ends_call c most maybe Then others (Came octets ∷ later) n go h = absurd h
ends_call c most maybe Then others (Paused ∷ later) n go h = absurd h
ends_call c most maybe Then others (Did act ∷ later) n go h = absurd h

plays_call : (number : Option ℕ) (j : Joined) (most : ℕ) (Then : List Event → Type 0) (more : List Ask) (all : List Event) (n : ℕ) → ((rest : List Event) → Then rest → done rest ≤ n)
    → PlaysCall number j most Then more all → done all ≤ 1 + n
plays_call (Some number) j most Then more all n go (later, whole, (offs, others, end, parts, off, ends)) =
    omega (arith, ap done whole, ap done parts, done_append offs end, calls_off offs more others off, ends_call (caller_of j) most j.maybe Then others end n go ends)
plays_call None j most Then more all n go (later, whole, h) = omega (arith, ap done whole, go later h)

binds : (c : Caller) (ack : BindAckBody) (Then : Agreement → List Event → Type 0) (more : List Ask) (later : List Event) (n : ℕ) → ((agreement : Agreement) (rest : List Event) → Then agreement rest → done rest ≤ n)
    → Binds c ack Then more later → done later ≤ n
binds c ack Then more [] n go h = omega arith
binds c ack Then more (Decided (ToGroup group) octets ∷ later) n go h = omega (arith, go _ later h.1)
binds c ack Then more (Decided (RefuseGroup reason) octets ∷ later) n go h = omega (arith, ap done h.1)
binds c ack Then more (Decided (Reply said executed) octets ∷ later) n go h = absurd h
binds c ack Then more (Came octets ∷ later) n go h = absurd h
binds c ack Then more (Paused ∷ later) n go h = absurd h
binds c ack Then more (Did act ∷ later) n go h = absurd h

plays : (asked : List Ask) (k : Negotiated) (all : List Event) → Plays k asked all → done all ≤ calls_asked asked
plays [] k all h = omega (arith, ap done h)
plays (asks.Bind c flags b ∷ more) k all (later, whole, h) =
    omega (
      arith,
      ap done whole,
      binds c (ready_ack (agreement_of b 0) (results k b.elements)) (λ agreement rest. Plays (record (offering k b.elements) { agreement = agreement }) more rest) more later (calls_asked more)
          (λ agreement rest p. plays more (record (offering k b.elements) { agreement = agreement }) rest p) h,
    )
plays (asks.Alter c b ∷ more) k all (later, whole, h) = omega (arith, ap done whole, plays more _ later h)
plays (asks.Call j ∷ more) k all h = plays_call (interface_of k.accepted j.context) j k.agreement.max_xmit (λ rest. Plays k more rest) more all (calls_asked more) (λ rest p. plays more k rest p) h
plays (asks.Cancel id ∷ more) k all h = omega (arith, plays more k all h)
plays (asks.Orphan id ∷ more) k all h = omega (arith, plays more k all h)
plays (asks.Broken c f ∷ more) k all h = omega (arith, ap done h.0)

-- ---- both ends

pub came_more : (events : List Event) (octets : List ℕ) → (stream (events ++ Came octets ∷ []) ≡ stream events ++ octets) × (seen (events ++ Came octets ∷ []) ≡ seen events)
came_more [] octets = (append-nil octets, refl)
came_more (Came piece ∷ later) octets = (ap (λ (x : List ℕ). piece ++ x) (came_more later octets).0 ∙ sym (append_assoc piece (stream later) octets), (came_more later octets).1)
came_more (Paused ∷ later) octets = came_more later octets
came_more (Did act ∷ later) octets = ((came_more later octets).0, ap (λ (x : List Event). Did act ∷ x) (came_more later octets).1)
came_more (Decided decision piece ∷ later) octets = ((came_more later octets).0, ap (λ (x : List Event). Decided decision piece ∷ x) (came_more later octets).1)

-- A caller's octets are on the way: the server did no more calls than the caller started.
pub fewer : (table : TableForm) (e : List ClientEvent) (n : ClientState) (p : List Event) (m : ConnState) (up : List ℕ) → FitsSyntax table.id → length table.ops ≤ 2 ^ 16
    → client.Lives (callers.at_start table) e n → BindsOnce e → Lives (at_start (table.id ∷ [])) p m → sent e ≡ stream p ++ up → done p ≤ started e
fewer table e n p m up fits few lives once served ways =
    let (asked, are, begun) = sent_asks table e n fits few lives once in
    let q : List Event = p ++ Came up ∷ [] in
    let more = came_more p up in
    let there : AreAsksOf (stream q) asked = subst (λ (x : List ℕ). AreAsksOf x asked) (ways ∙ sym more.0) are in
    let lives_more : Lives (at_start (table.id ∷ [])) q (with_octets m up) = one_more (at_start (table.id ∷ [])) m (with_octets m up) p (Came up) served refl in
    let d = acts_are_asks (table.id ∷ []) q (with_octets m up) asked lives_more there in
    omega (arith, done_seen p, ap done more.1, plays d.done _ (seen q) d.plays, ap calls_asked d.whole, asked_append d.done d.left, events_ask e (callers.at_start table) n asked begun)
