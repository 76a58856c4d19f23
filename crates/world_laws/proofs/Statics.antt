-- What a server did on a connection, by what its caller asked: each answer is that of the call asked in its place.
use Rattle.std.proofs.Common.{◌≡◌, ℕ, zero, suc, ◌+◌, ◌^◌, ◌<◌, ◌≤◌, Bool, true, false, ◌&&◌, List, [], ◌∷◌, ◌++◌, length, Option, Some, refl, sym, ap, subst, ◌∙◌, arith}
use Rattle.std.proofs.lemmas.Bool.{eq-eqb, le-leb}
use Rattle.std.specs.Str.{bytes_eq}
use Rattle.std.specs.Prelude.{slice_get, not}
use Rattle.std.specs.List.{list_all}
use Rattle.rpc_base.specs.declared.identifiers.Order.{Order}
use Rattle.rpc_base.specs.declared.identifiers.Order.TheVariants.{Big, Little}
use Rattle.rpc_base.specs.declared.identifiers.SyntaxId.{SyntaxId}
use Rattle.handle_model.specs.declared.entry.Said.{Said}
use Rattle.pdu_codec.specs.Constants.{only_frag, most_fragment}
use Rattle.pdu_codec.specs.declared.pdu.Pdu.{Pdu}
use Rattle.pdu_codec.specs.Pdus.{pdu_octets}
use Rattle.pdu_codec.specs.declared.pdu.ContextResult.{ContextResult}
use Rattle.pdu_stream.specs.declared.joined.Joined.{Joined}
use Rattle.presentation.specs.declared.verdict.Accepted.{Accepted}
use Rattle.presentation.specs.Serving.{ndr, serving}
use Rattle.presentation.specs.Offers.{acceptance, contexts_after, interface_of}
use Rattle.conn_asks.specs.declared.events.Ask.{Ask}
use Rattle.conn_asks.specs.declared.events.Ask.TheVariants as asks
use Rattle.conn_asks.specs.declared.events.Act.TheVariants as acts
use Rattle.conn_asks.specs.Asks.{caller}
use Rattle.conn_asks.specs.Answers.{agreement_of, agreement_with, bind_ack, bind_nak, Replies}
use Rattle.conn_asks.specs.States.{ready_ack, caller_of}
use Rattle.conn_histories.specs.Histories.{Event}
use Rattle.conn_histories.specs.Histories.Event.{Came, Paused, Did, Decided}
use Rattle.conn_histories.specs.Histories.Decision.{ToGroup, RefuseGroup, Reply}
use Rattle.conn_histories.specs.Plays.{Negotiated, negotiated_at_start, offering, results, Plays, Binds, CallsOff, EndsCall, PlaysCall}
use Rattle.client_core.specs.Octets.{offer, bind_pdu}
use Rattle.client_laws.specs.Meeting.{IsLawful}
use Rattle.client_laws.specs.Sending.{bind_of}
use Rattle.world_laws.specs.Counts.{done}
use Rattle.client_laws.proofs.Binding.{accepted_are, results_are}

-- ---- what stands in lists

abbrev pub calls_in : List Ask → List Joined
calls_in [] = []
calls_in (asks.Call j ∷ more) = j ∷ calls_in more
calls_in (_ ∷ more) = calls_in more

pub calls_append : (a b : List Ask) → calls_in (a ++ b) ≡ calls_in a ++ calls_in b
calls_append [] b = refl
calls_append (asks.Call j ∷ more) b = ap (λ (x : List Joined). j ∷ x) (calls_append more b)
calls_append (asks.Bind c flags body ∷ more) b = calls_append more b
calls_append (asks.Alter c body ∷ more) b = calls_append more b
calls_append (asks.Cancel id ∷ more) b = calls_append more b
calls_append (asks.Orphan id ∷ more) b = calls_append more b
calls_append (asks.Broken c f ∷ more) b = calls_append more b

-- what a call's end says, and the octets of it
pub record Answer : Type 0 where
  pub said : Option Said
  pub executed : Bool
  pub octets : List ℕ

abbrev pub answers_in : List Event → List Answer
answers_in [] = []
answers_in (Decided (Reply said executed) octets ∷ later) = record { said = said; executed = executed; octets = octets } ∷ answers_in later
answers_in (_ ∷ later) = answers_in later

abbrev pub is_little : Order → Bool
is_little Little = true
is_little Big = false

-- nothing is answered but what the server decides, and calls ask in the caller's order
abbrev pub is_clean : Event → Bool
is_clean (Did (acts.Call j number)) = is_little j.order
is_clean (Did (acts.Answer octets)) = false
is_clean (Did (acts.Close octets why)) = false
is_clean _ = true

abbrev pub is_bind : Event → Bool
is_bind (Decided (ToGroup group) octets) = true
is_bind (Decided (RefuseGroup reason) octets) = true
is_bind _ = false

abbrev pub accepting : ContextResult
accepting = record { result = acceptance; reason = 0; transfer = ndr }

abbrev pub ack_pdu : SyntaxId → ℕ → ℕ → List ContextResult → Pdu
ack_pdu syntax group id results = bind_ack (caller (bind_pdu syntax group) 0) only_frag (record { max_xmit = most_fragment; max_recv = most_fragment; group = id }) results

-- each bind is answered so
abbrev pub BindIs : SyntaxId → ℕ → Event → Type 0
BindIs syntax asked (Decided (ToGroup group) octets) = octets ≡ pdu_octets (ack_pdu syntax asked group (accepting ∷ []))
BindIs syntax asked (Decided (RefuseGroup reason) octets) = octets ≡ pdu_octets (bind_nak (caller (bind_pdu syntax asked) 0) reason)
BindIs syntax asked _ = Unit {0}

-- each answer in a row is that of the call in its place
abbrev pub Pairs : ℕ → List Answer → List Joined → Type 0
Pairs most [] js = Unit {0}
Pairs most (a ∷ more) [] = ⊥
Pairs most (a ∷ more) (j ∷ js) = Replies (caller_of j) most j.maybe a.executed a.said a.octets × Pairs most more js

pairs_more : (most : ℕ) (given : List Answer) (js more : List Joined) → Pairs most given js → Pairs most given (js ++ more)
pairs_more most [] js more h = tt
pairs_more most (a ∷ given) [] more h = absurd h
pairs_more most (a ∷ given) (j ∷ js) more h = (h.0, pairs_more most given js more h.1)

-- the call of the last answer
pub record PairOf (most : ℕ) (place : ℕ) (a : Answer) (js : List Joined) : Type 0 where
  pub call : Joined
  pub there : slice_get js place ≡ Some call
  pub replies : Replies (caller_of call) most call.maybe a.executed a.said a.octets

pub last_pair : (most : ℕ) (given : List Answer) (a : Answer) (js : List Joined) → Pairs most (given ++ a ∷ []) js → PairOf most (length given) a js
last_pair most [] a [] h = absurd h
last_pair most [] a (j ∷ js) h = record { call = j; there = refl; replies = h.0 }
last_pair most (b ∷ given) a [] h = absurd h
last_pair most (b ∷ given) a (j ∷ js) h = (let p = last_pair most given a js h.1 in record { call = p.call; there = p.there; replies = p.replies })

-- ---- behind the bind

-- calls of context 0 in the caller's order, and cancels
abbrev pub ArePlain : List Ask → Type 0
ArePlain [] = Unit {0}
ArePlain (asks.Call j ∷ more) = (j.context ≡ 0) × (j.call_id < 2 ^ 32) × (j.order ≡ Little) × ArePlain more
ArePlain (asks.Cancel id ∷ more) = ArePlain more
ArePlain (_ ∷ more) = ⊥

pub plain_front : (a b : List Ask) → ArePlain (a ++ b) → ArePlain a
plain_front [] b h = tt
plain_front (asks.Call j ∷ more) b h = (h.0, h.1, h.2, plain_front more b h.3)
plain_front (asks.Cancel id ∷ more) b h = plain_front more b h
plain_front (asks.Bind c flags body ∷ more) b h = absurd h
plain_front (asks.Alter c body ∷ more) b h = absurd h
plain_front (asks.Orphan id ∷ more) b h = absurd h
plain_front (asks.Broken c f ∷ more) b h = absurd h

abbrev pub no_bind : Event → Bool
no_bind e = not (is_bind e)

-- the requests that came, in order
abbrev pub called : List Event → List Joined
called [] = []
called (Did (acts.Call j number) ∷ later) = j ∷ called later
called (_ ∷ later) = called later

-- the second begins with the first
abbrev pub FrontOf : List Joined → List Joined → Type 0
FrontOf [] js = Unit {0}
FrontOf (a ∷ more) [] = ⊥
FrontOf (a ∷ more) (j ∷ js) = (a ≡ j) × FrontOf more js

front_more : (given js more : List Joined) → FrontOf given js → FrontOf given (js ++ more)
front_more [] js more h = tt
front_more (a ∷ given) [] more h = absurd h
front_more (a ∷ given) (j ∷ js) more h = (h.0, front_more given js more h.1)

-- what is behind so many
abbrev pub beyond : ℕ → List Joined → List Joined
beyond zero js = js
beyond (suc n) [] = []
beyond (suc n) (j ∷ js) = beyond n js

-- no bind is answered, nothing else but calls, and each in its place
-- (so many calls came before)
pub record Answers (n most : ℕ) (all : List Event) (js : List Joined) : Type 0 where
  pub pairs : Pairs most (answers_in all) js
  pub low : length (answers_in all) ≤ done all + n
  pub high : done all + n ≤ length (answers_in all) + 1
  pub clean : list_all is_clean all ≡ true
  pub unbound : list_all no_bind all ≡ true
  pub calls : FrontOf (called all) (beyond n js)

nothing : (n most : ℕ) (js : List Joined) → n ≤ 1 → Answers n most [] js
nothing n most js few = record { pairs = tt; low = omega arith; high = omega (arith, few); clean = refl; unbound = refl; calls = tt }

calls_off : (offs end : List Event) (more others : List Ask) (n most : ℕ) (js : List Joined) → CallsOff offs more others → Answers n most end js → Answers n most (offs ++ end) js
calls_off [] end more others n most js h x = x
calls_off (Did (acts.Cancel id) ∷ later) end more others n most js (behind, is, h) x = (let r = calls_off later end behind others n most js h x in record { pairs = r.pairs; low = omega (arith, r.low); high = omega (arith, r.high); clean = r.clean; unbound = r.unbound; calls = r.calls })
calls_off (Did (acts.Orphan id) ∷ later) end more others n most js (behind, is, h) x = (let r = calls_off later end behind others n most js h x in record { pairs = r.pairs; low = omega (arith, r.low); high = omega (arith, r.high); clean = r.clean; unbound = r.unbound; calls = r.calls })
calls_off (Did (acts.Answer octets) ∷ later) end more others n most js h x = absurd h
calls_off (Did (acts.Group asked) ∷ later) end more others n most js h x = absurd h
calls_off (Did (acts.Call j number) ∷ later) end more others n most js h x = absurd h
calls_off (Did (acts.Close octets why) ∷ later) end more others n most js h x = absurd h
calls_off (Came octets ∷ later) end more others n most js h x = absurd h
calls_off (Paused ∷ later) end more others n most js h x = absurd h
calls_off (Decided decision octets ∷ later) end more others n most js h x = absurd h

ends_call : (j : Joined) (most : ℕ) (Then : List Event → Type 0) (others : List Ask) (end : List Event) (js : List Joined) → ((rest : List Event) → Then rest → Answers 0 most rest js)
    → EndsCall (caller_of j) most j.maybe Then others end → Answers 1 most end (j ∷ js)
ends_call j most Then others [] js go h = nothing 1 most (j ∷ js) (omega arith)
ends_call j most Then others (Decided (Reply said executed) octets ∷ later) js go h = (let r = go later h.1 in record { pairs = (h.0, r.pairs); low = omega (arith, r.low); high = omega (arith, r.high); clean = r.clean; unbound = r.unbound; calls = r.calls })
ends_call j most Then others (Decided (ToGroup group) octets ∷ later) js go h = absurd h
ends_call j most Then others (Decided (RefuseGroup reason) octets ∷ later) js go h = absurd h
ends_call j most Then others (Came octets ∷ later) js go h = absurd h
ends_call j most Then others (Paused ∷ later) js go h = absurd h
ends_call j most Then others (Did act ∷ later) js go h = absurd h

plays_call : (number : ℕ) (j : Joined) (most : ℕ) (Then : List Event → Type 0) (more : List Ask) (all : List Event) (js : List Joined) → j.order ≡ Little → ((rest : List Event) → Then rest → Answers 0 most rest js)
    → PlaysCall (Some number) j most Then more all → Answers 0 most all (j ∷ js)
plays_call number j most Then more all js little go (later, whole, (offs, others, end, parts, off, ends)) =
    let r = calls_off offs end more others 1 most (j ∷ js) off (ends_call j most Then others end js go ends) in
    let s : Answers 1 most later (j ∷ js) = subst (λ (x : List Event). Answers 1 most x (j ∷ js)) (sym parts) r in
    subst (λ (x : List Event). Answers 0 most x (j ∷ js)) (sym whole) (record { pairs = s.pairs; low = omega (arith, s.low); high = omega (arith, s.high); clean = subst (λ (o : Order). (is_little o && list_all is_clean later) ≡ true) (sym little) s.clean; unbound = s.unbound; calls = (refl, s.calls) })

plain : (asked : List Ask) (k : Negotiated) (all : List Event) (number : ℕ) → interface_of k.accepted 0 ≡ Some number → ArePlain asked → Plays k asked all → Answers 0 k.agreement.max_xmit all (calls_in asked)
plain [] k all number found are h = subst (λ (x : List Event). Answers 0 k.agreement.max_xmit x []) (sym h) (nothing 0 k.agreement.max_xmit [] (omega arith))
plain (asks.Call j ∷ more) k all number found (zero_, small, little, are) h =
    plays_call number j k.agreement.max_xmit (λ rest. Plays k more rest) more all (calls_in more) little (λ rest p. plain more k rest number found are p)
    (subst (λ (x : Option ℕ). PlaysCall x j k.agreement.max_xmit (λ rest. Plays k more rest) more all) (ap (interface_of k.accepted) zero_ ∙ found) h)
plain (asks.Cancel id ∷ more) k all number found are h = plain more k all number found are h
plain (asks.Bind c flags body ∷ more) k all number found are h = absurd are
plain (asks.Alter c body ∷ more) k all number found are h = absurd are
plain (asks.Orphan id ∷ more) k all number found are h = absurd are
plain (asks.Broken c f ∷ more) k all number found are h = absurd are

-- ---- from the bind on

-- What was done: calls, each answered in its place, behind one bind at most, which is answered so.
pub data Whole (syntax : SyntaxId) (asked : ℕ) (all : List Event) (js : List Joined) : Type 0 where
  unbound : (most : ℕ) → IsLawful most → Answers 0 most all js → Whole syntax asked all js
  bound : (most : ℕ) → IsLawful most → (decided : Event) (later : List Event) → all ≡ Did (acts.Group asked) ∷ decided ∷ later → is_bind decided ≡ true → BindIs syntax asked decided → Answers 0 most later js → Whole syntax asked all js

whole_binds : (syntax : SyntaxId) (asked : ℕ) (k : Negotiated) (more : List Ask) (later all : List Event) → k.accepted ≡ record { context = 0; interface = 0 } ∷ []
    → ArePlain more → all ≡ Did (acts.Group asked) ∷ later
    → Binds (caller (bind_pdu syntax asked) 0) (ready_ack (agreement_of (bind_of syntax asked) 0) (accepting ∷ [])) (λ agreement rest. Plays (record k { agreement = agreement }) more rest) more later
    → Whole syntax asked all (calls_in more)
whole_binds syntax asked k more [] all accepted are whole h = unbound 1432 (omega arith, omega arith) (subst (λ (x : List Event). Answers 0 1432 x (calls_in more)) (sym whole) (record { pairs = tt; low = omega arith; high = omega arith; clean = refl; unbound = refl; calls = tt }))
whole_binds syntax asked k more (Decided (ToGroup group) octets ∷ later) all accepted are whole h =
    bound 4280 (omega arith, omega arith) (Decided (ToGroup group) octets) later whole refl h.0
    (plain more (record k { agreement = agreement_with (ready_ack (agreement_of (bind_of syntax asked) 0) (accepting ∷ [])) group }) later 0 (ap (λ (xs : List Accepted). interface_of xs 0) accepted) are h.1)
whole_binds syntax asked k more (Decided (RefuseGroup reason) octets ∷ later) all accepted are whole h =
    bound 4280 (omega arith, omega arith) (Decided (RefuseGroup reason) octets) later whole refl h.0 (subst (λ (x : List Event). Answers 0 4280 x (calls_in more)) (sym h.1) (nothing 0 4280 (calls_in more) (omega arith)))
whole_binds syntax asked k more (Decided (Reply said executed) octets ∷ later) all accepted are whole h = absurd h
whole_binds syntax asked k more (Came octets ∷ later) all accepted are whole h = absurd h
whole_binds syntax asked k more (Paused ∷ later) all accepted are whole h = absurd h
whole_binds syntax asked k more (Did act ∷ later) all accepted are whole h = absurd h

-- an interface that is served is found among the one that is
itself : (bs : List ℕ) → bytes_eq bs bs ≡ true
itself [] = refl
itself (b ∷ bs) = rw (eq-eqb b b refl, itself bs) refl

own_served : (syntax : SyntaxId) → serving (syntax ∷ []) syntax ≡ Some 0
own_served syntax = rw (itself syntax.id, eq-eqb syntax.major syntax.major refl, le-leb syntax.minor syntax.minor (omega arith)) refl

pub whole : (syntax : SyntaxId) (group : ℕ) (more : List Ask) (all : List Event) → ArePlain more
    → Plays (negotiated_at_start (syntax ∷ [])) (asks.Bind (caller (bind_pdu syntax group) 0) only_frag (bind_of syntax group) ∷ more) all → Whole syntax group all (calls_in more)
unfolding contexts_after
whole syntax group more all are (later, is, h) =
    let k = offering (negotiated_at_start (syntax ∷ [])) (offer syntax 0) in
    whole_binds syntax group k more later all (accepted_are (syntax ∷ []) syntax 0 (own_served syntax)) are is
    (subst (λ (rs : List ContextResult). Binds (caller (bind_pdu syntax group) 0) (ready_ack (agreement_of (bind_of syntax group) 0) rs) (λ agreement rest. Plays (record k { agreement = agreement }) more rest) more later)
    (results_are (syntax ∷ []) syntax 0 (own_served syntax)) h)

pub none_done : (syntax : SyntaxId) (group : ℕ) (js : List Joined) → Whole syntax group [] js
none_done syntax group js = unbound 1432 (omega arith, omega arith) (nothing 0 1432 js (omega arith))

-- ---- with more calls asked

pub more_asked : (syntax : SyntaxId) (group : ℕ) (all : List Event) (js more : List Joined) → Whole syntax group all js → Whole syntax group all (js ++ more)
more_asked syntax group all js more (unbound most lawful a) = unbound most lawful (record { pairs = pairs_more most (answers_in all) js more a.pairs; low = a.low; high = a.high; clean = a.clean; unbound = a.unbound; calls = front_more (called all) js more a.calls })
more_asked syntax group all js more (bound most lawful decided later is binds so a) =
    bound most lawful decided later is binds so (record { pairs = pairs_more most (answers_in later) js more a.pairs; low = a.low; high = a.high; clean = a.clean; unbound = a.unbound; calls = front_more (called later) js more a.calls })
