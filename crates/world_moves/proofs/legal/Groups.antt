-- A server asks for the group of its caller's bind, and once at most.
use Rattle.std.proofs.Common.{◌≡◌, ℕ, ◌^◌, ◌≤◌, ◌⊎◌, inl, inr, Bool, true, false, Option, Some, None, List, [], ◌∷◌, ◌++◌, length, refl, sym, ap, subst, ◌∙◌, append_assoc, arith}
use Rattle.std.specs.Prelude.{not, ◌==◌}
use Rattle.rpc_base.specs.Fields.{FitsSyntax}
use Rattle.rpc_base.specs.declared.identifiers.SyntaxId.{SyntaxId}
use Rattle.pdu_codec.specs.Constants.{only_frag}
use Rattle.pdu_codec.specs.declared.pdu.BindAckBody.{BindAckBody}
use Rattle.pdu_stream.specs.declared.joined.Joined.{Joined}
use Rattle.presentation.specs.Offers.{interface_of}
use Rattle.ndr_table.specs.Tables.{TableForm}
use Rattle.conn_asks.specs.declared.events.Agreement.{Agreement}
use Rattle.conn_asks.specs.declared.events.Ask.{Ask}
use Rattle.conn_asks.specs.declared.events.Ask.TheVariants as asks
use Rattle.conn_asks.specs.declared.events.Act.TheVariants as acts
use Rattle.conn_asks.specs.declared.events.Caller.{Caller}
use Rattle.conn_asks.specs.Asks.{AreAsksOf, caller}
use Rattle.conn_asks.specs.Answers.{agreement_of, agreement_with}
use Rattle.conn_asks.specs.States.{ConnState, at_start, with_octets, ready_ack, caller_of}
use Rattle.conn_histories.specs.Histories.{Event, Happens, Lives, stream, seen}
use Rattle.conn_histories.specs.Histories.Event.{Came, Paused, Did, Decided}
use Rattle.conn_histories.specs.Histories.Decision.{ToGroup, RefuseGroup, Reply}
use Rattle.conn_histories.specs.Plays.{Negotiated, negotiated_at_start, offering, results, Plays, Binds, CallsOff, EndsCall, PlaysCall}
use Rattle.conn_histories.proofs.Along.{one_more}
use Rattle.conn_histories.proofs.Done.{acts_are_asks}
use Rattle.client_core.specs.Octets.{bind_pdu}
use Rattle.client_core.specs.States.{ClientState}
use Rattle.client_core.specs.States as callers
use Rattle.client_core.specs.Histories.{ClientEvent, sent}
use Rattle.client_core.specs.Histories.ClientEvent.{DidBind}
use Rattle.client_laws.specs.Sending.{bind_of, bind_asked, EventsAsk}
use Rattle.client_laws.proofs.Sending.{asks_are_sent}
use Rattle.world_laws.specs.Ends.{Line}
use Rattle.world_laws.proofs.Lists.{length_more}
use Rattle.world_laws.proofs.Counting.{came_more}
use Rattle.world_laws.proofs.Holds.{Begun, binds_once, LineHolds}
use Rattle.world_laws.proofs.Serving.{silent}
use Rattle.world_laws.proofs.Statics.{ArePlain, plain_front}
use Rattle.world_laws.proofs.Asked.{asked_so}

-- ---- the groups that are asked for

abbrev pub group_in : Event → List ℕ
group_in (Did (acts.Group asked)) = asked ∷ []
group_in _ = []

abbrev pub groups : List Event → List ℕ
groups [] = []
groups (e ∷ later) = group_in e ++ groups later

pub groups_append : (a b : List Event) → groups (a ++ b) ≡ groups a ++ groups b
groups_append [] b = refl
groups_append (e ∷ a) b = ap (λ (x : List ℕ). group_in e ++ x) (groups_append a b) ∙ sym (append_assoc (group_in e) (groups a) (groups b))

groups_seen : (events : List Event) → groups (seen events) ≡ groups events
groups_seen [] = refl
groups_seen (Came octets ∷ later) = groups_seen later
groups_seen (Paused ∷ later) = groups_seen later
groups_seen (Did act ∷ later) = ap (λ (x : List ℕ). group_in (Did act) ++ x) (groups_seen later)
groups_seen (Decided decision octets ∷ later) = groups_seen later

-- ---- behind the bind there is none

calls_off_none : (offs : List Event) (more others : List Ask) → CallsOff offs more others → groups offs ≡ []
calls_off_none [] more others h = refl
calls_off_none (Did (acts.Cancel id) ∷ later) more others (behind, is, h) = calls_off_none later behind others h
calls_off_none (Did (acts.Orphan id) ∷ later) more others (behind, is, h) = calls_off_none later behind others h
calls_off_none (Did (acts.Answer octets) ∷ later) more others h = absurd h
calls_off_none (Did (acts.Group asked) ∷ later) more others h = absurd h
calls_off_none (Did (acts.Call j number) ∷ later) more others h = absurd h
calls_off_none (Did (acts.Close octets why) ∷ later) more others h = absurd h
calls_off_none (Came octets ∷ later) more others h = absurd h
calls_off_none (Paused ∷ later) more others h = absurd h
calls_off_none (Decided decision octets ∷ later) more others h = absurd h

ends_none : (c : Caller) (most : ℕ) (maybe : Bool) (Then : List Event → Type 0) (others : List Ask) (end : List Event) → ((rest : List Event) → Then rest → groups rest ≡ [])
    → EndsCall c most maybe Then others end → groups end ≡ []
ends_none c most maybe Then others [] go h = refl
ends_none c most maybe Then others (Decided (Reply said executed) octets ∷ later) go h = go later h.1
ends_none c most maybe Then others (Decided (ToGroup group) octets ∷ later) go h = absurd h
ends_none c most maybe Then others (Decided (RefuseGroup reason) octets ∷ later) go h = absurd h
ends_none c most maybe Then others (Came octets ∷ later) go h = absurd h
ends_none c most maybe Then others (Paused ∷ later) go h = absurd h
ends_none c most maybe Then others (Did act ∷ later) go h = absurd h

call_none : (number : Option ℕ) (j : Joined) (most : ℕ) (Then : List Event → Type 0) (more : List Ask) (all : List Event) → ((rest : List Event) → Then rest → groups rest ≡ [])
    → PlaysCall number j most Then more all → groups all ≡ []
call_none (Some number) j most Then more all go (later, whole, (offs, others, end, parts, off, ends)) =
    let front = calls_off_none offs more others off in
    let back = ends_none (caller_of j) most j.maybe Then others end go ends in
    ap groups whole ∙ (ap groups parts ∙ (groups_append offs end ∙ (ap (λ (x : List ℕ). x ++ groups end) front ∙ back)))
call_none None j most Then more all go (later, whole, then_) = ap groups whole ∙ go later then_

plain_none : (asked : List Ask) (k : Negotiated) (all : List Event) → ArePlain asked → Plays k asked all → groups all ≡ []
plain_none [] k all are h = ap groups h
plain_none (asks.Call j ∷ more) k all (zero_, small, little, are) h =
    call_none (interface_of k.accepted j.context) j k.agreement.max_xmit (λ rest. Plays k more rest) more all (λ rest p. plain_none more k rest are p) h
plain_none (asks.Cancel id ∷ more) k all are h = plain_none more k all are h
plain_none (asks.Bind c flags body ∷ more) k all are h = absurd are
plain_none (asks.Alter c body ∷ more) k all are h = absurd are
plain_none (asks.Orphan id ∷ more) k all are h = absurd are
plain_none (asks.Broken c f ∷ more) k all are h = absurd are

binds_none : (c : Caller) (ack : BindAckBody) (Then : Agreement → List Event → Type 0) (more : List Ask) (later : List Event) → ((agreement : Agreement) (rest : List Event) → Then agreement rest → groups rest ≡ [])
    → Binds c ack Then more later → groups later ≡ []
binds_none c ack Then more [] go h = refl
binds_none c ack Then more (Decided (ToGroup group) octets ∷ later) go h = go (agreement_with ack group) later h.1
binds_none c ack Then more (Decided (RefuseGroup reason) octets ∷ later) go h = ap groups h.1
binds_none c ack Then more (Decided (Reply said executed) octets ∷ later) go h = absurd h
binds_none c ack Then more (Came octets ∷ later) go h = absurd h
binds_none c ack Then more (Paused ∷ later) go h = absurd h
binds_none c ack Then more (Did act ∷ later) go h = absurd h

bind_one : (syntax : SyntaxId) (group : ℕ) (more : List Ask) (all : List Event) → ArePlain more
    → Plays (negotiated_at_start (syntax ∷ [])) (asks.Bind (caller (bind_pdu syntax group) 0) only_frag (bind_of syntax group) ∷ more) all → groups all ≡ group ∷ []
bind_one syntax group more all are (later, is, h) =
    let k = negotiated_at_start (syntax ∷ []) in
    let b = bind_of syntax group in
    ap groups is
    ∙ ap (λ (x : List ℕ). group ∷ x)
    (binds_none (caller (bind_pdu syntax group) 0) (ready_ack (agreement_of b 0) (results k b.elements)) (λ agreement rest. Plays (record (offering k b.elements) { agreement = agreement }) more rest) more later
    (λ agreement rest p. plain_none more (record (offering k b.elements) { agreement = agreement }) rest are p) h)

-- ---- both ends

-- none, or that one
abbrev pub FewGroups : ℕ → List ℕ → Type 0
FewGroups group gs = (gs ≡ []) ⊎ (gs ≡ group ∷ [])

by_front : (table : TableForm) (group : ℕ) (done left others : List Ask) (all : List Event) → bind_asked (callers.at_start table) group ∷ others ≡ done ++ left → ArePlain others
    → Plays (negotiated_at_start (table.id ∷ [])) done all → FewGroups group (groups all)
by_front table group [] left others all is plain plays = inl (ap groups plays)
by_front table group (d ∷ ds) left others all is plain plays =
    let rest : others ≡ ds ++ left = tail_of (bind_asked (callers.at_start table) group) d others (ds ++ left) is in
    let first : d ≡ bind_asked (callers.at_start table) group = head_of (bind_asked (callers.at_start table) group) d others (ds ++ left) is in
    inr
    (bind_one table.id group ds all (plain_front ds left (subst (λ (x : List Ask). ArePlain x) rest plain))
    (subst (λ (x : Ask). Plays (negotiated_at_start (table.id ∷ [])) (x ∷ ds) all) first plays))
  where
    tail_of : (a b : Ask) (xs ys : List Ask) → a ∷ xs ≡ b ∷ ys → xs ≡ ys
    tail_of a b xs ys e = cc

    head_of : (a b : Ask) (xs ys : List Ask) → a ∷ xs ≡ b ∷ ys → b ≡ a
    head_of a b xs ys e = cc

once_asked : (table : TableForm) (e : List ClientEvent) (n : ClientState) (asked : List Ask) (p : List Event) (m : ConnState) (up : List ℕ) (b : Begun e) → FitsSyntax table.id → length table.ops ≤ 2 ^ 16
    → EventsAsk (callers.at_start table) e n asked → Lives (at_start (table.id ∷ [])) p m → sent e ≡ stream p ++ up → FewGroups b.group (groups p)
once_asked table e n asked p m up b fits few begun served ways =
    let so = asked_so table e n asked b begun in
    let are = asks_are_sent table e n asked fits few begun (binds_once e b) in
    let q : List Event = p ++ Came up ∷ [] in
    let more = came_more p up in
    let there : AreAsksOf (stream q) asked = subst (λ (x : List ℕ). AreAsksOf x asked) (ways ∙ sym more.0) are in
    let lives_more : Lives (at_start (table.id ∷ [])) q (with_octets m up) = one_more (at_start (table.id ∷ [])) m (with_octets m up) p (Came up) served refl in
    let d = acts_are_asks (table.id ∷ []) q (with_octets m up) asked lives_more there in
    let w = by_front table b.group d.done d.left so.0 (seen q) (sym so.1.is ∙ d.whole) so.1.plain d.plays in
    subst (λ (x : List ℕ). FewGroups b.group x) (ap groups more.1 ∙ groups_seen p) w

last_group : (group : ℕ) (xs : List ℕ) (a : ℕ) → FewGroups group (xs ++ a ∷ []) → (xs ≡ []) × (a ≡ group)
last_group group xs a (inl e) = absurd (omega (arith, ap (λ (x : List ℕ). length x) e, length_more xs a))
last_group group [] a (inr e) = (refl, cc)
last_group group (x ∷ xs) a (inr e) = absurd (omega (arith, ap (λ (y : List ℕ). length y) e, length_more xs a))

-- ---- the caller's bind

-- it asks for a group that is there
abbrev pub old_bind : ClientEvent → Bool
old_bind (DidBind group octets) = not (group == 0)
old_bind _ = false

abbrev pub binds_old : List ClientEvent → Bool
binds_old [] = false
binds_old (e ∷ later) = old_bind e

pub old_more : (events more : List ClientEvent) → binds_old events ≡ true → binds_old (events ++ more) ≡ true
old_more [] more h = absurd (cc (h))
old_more (e ∷ later) more h = h

-- what the caller asks
abbrev pub AsksOf : TableForm → Line → Type 0
AsksOf table l = (asked : List Ask) × EventsAsk (callers.at_start table) l.caller.events l.caller.state asked

-- The server asks for a group for the first time, and for a new one only where its caller does.
pub asks_first : (table : TableForm) (l : Line) (asked : ℕ) (state : ConnState) → FitsSyntax table.id → length table.ops ≤ 2 ^ 16 → LineHolds table l → l.standing ≡ true → AsksOf table l
    → Happens l.server.state (Did (acts.Group asked)) state → (groups l.server.events ≡ []) × (asked ≡ 0 → binds_old l.caller.events ≡ false)
asks_first table l asked state fits few h stands (all, begun) happens =
    let event : Event = Did (acts.Group asked) in
    let served = one_more (at_start (table.id ∷ [])) l.server.state state l.server.events event h.served happens in
    let f = once_asked table l.caller.events l.caller.state all (l.server.events ++ event ∷ []) state l.up h.once fits few begun served (silent l event refl (h.ways stands)) in
    let q = last_group h.once.group (groups l.server.events) asked (subst (λ (x : List ℕ). FewGroups h.once.group x) (groups_append l.server.events (event ∷ [])) f) in
    (q.0, λ new. ap binds_old h.once.is ∙ ap (λ (n : ℕ). not (n == 0)) (sym q.1 ∙ new))
