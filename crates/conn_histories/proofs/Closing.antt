-- A close by a fault is the last that is asked.
use Rattle.std.proofs.Common.{◌≡◌, ℕ, Bool, ◌⊎◌, inl, inr, List, [], ◌∷◌, ◌++◌, Option, Some, None, refl, sym, ap, subst, ◌∙◌, append_assoc}
use Rattle.std.specs.Prelude.{⊤}
use Rattle.rpc_base.specs.declared.identifiers.SyntaxId.{SyntaxId}
use Rattle.pdu_codec.specs.declared.pdu.Pdu.{Pdu}
use Rattle.pdu_codec.specs.declared.pdu.BindAckBody.{BindAckBody}
use Rattle.pdu_codec.specs.declared.fault.PduFault.{PduFault}
use Rattle.pdu_codec.specs.Pdus.{pdu_octets}
use Rattle.pdu_stream.specs.declared.joined.Joined.{Joined}
use Rattle.presentation.specs.Offers.{interface_of}
use Rattle.conn_asks.specs.declared.events.Agreement.{Agreement}
use Rattle.conn_asks.specs.declared.events.Caller.{Caller}
use Rattle.conn_asks.specs.declared.events.ConnFault.{ConnFault}
use Rattle.conn_asks.specs.declared.events.Ask.{Ask}
use Rattle.conn_asks.specs.declared.events.Ask.TheVariants as asks
use Rattle.conn_asks.specs.declared.events.Act.{Act}
use Rattle.conn_asks.specs.declared.events.Act.TheVariants as acts
use Rattle.conn_asks.specs.Asks.{broken_end, AsksFirst, AreAsks, AreAsksOf}
use Rattle.conn_asks.specs.Answers.{agreement_of, closing}
use Rattle.conn_asks.specs.States.{ConnState, at_start, ready_ack, caller_of}
use Rattle.conn_histories.specs.Histories.{Event, Lives, stream, seen}
use Rattle.conn_histories.specs.Histories.Event.{Came, Paused, Did, Decided}
use Rattle.conn_histories.specs.Histories.Decision.{ToGroup, RefuseGroup, Reply}
use Rattle.conn_histories.specs.Plays.{Negotiated, negotiated_at_start, offering, results, Binds, CallsOff, EndsCall, Runs, PlaysCall, Plays}
use Rattle.conn_histories.proofs.Done.{acts_are_asks}

-- ---- a close that is done was asked

-- the connection is closed by that fault
abbrev Shuts : List ℕ → ConnFault → List Event → Type 0
Shuts octets f [] = ⊥
Shuts octets f (Did act ∷ later) = (act ≡ acts.Close octets f) ⊎ Shuts octets f later
Shuts octets f (_ ∷ later) = Shuts octets f later

-- it was asked
abbrev Closes : List ℕ → ConnFault → List Ask → Type 0
Closes octets f asked = (early : List Ask) × (c : Caller) × (rest : List Ask) × (asked ≡ early ++ asks.Broken c f ∷ rest) × (octets ≡ pdu_octets (closing c f))

shuts_here : (octets : List ℕ) (f : ConnFault) (before later : List Event) → Shuts octets f (before ++ Did (acts.Close octets f) ∷ later)
shuts_here octets f [] later = inl refl
shuts_here octets f (Came came ∷ before) later = shuts_here octets f before later
shuts_here octets f (Paused ∷ before) later = shuts_here octets f before later
shuts_here octets f (Did act ∷ before) later = inr (shuts_here octets f before later)
shuts_here octets f (Decided decision said ∷ before) later = shuts_here octets f before later

shuts_seen : (octets : List ℕ) (f : ConnFault) (all : List Event) → Shuts octets f all → Shuts octets f (seen all)
shuts_seen octets f [] h = h
shuts_seen octets f (Came came ∷ all) h = shuts_seen octets f all h
shuts_seen octets f (Paused ∷ all) h = shuts_seen octets f all h
shuts_seen octets f (Did act ∷ all) (inl e) = inl e
shuts_seen octets f (Did act ∷ all) (inr h) = inr (shuts_seen octets f all h)
shuts_seen octets f (Decided decision said ∷ all) h = shuts_seen octets f all h

-- behind another act
shuts_behind : (octets : List ℕ) (f : ConnFault) (act : Act) (all later : List Event) → all ≡ Did act ∷ later → (act ≡ acts.Close octets f → ⊥) → Shuts octets f all → Shuts octets f later
shuts_behind octets f act all later e not h = behind (subst (Shuts octets f) e h)
  where
    behind : (act ≡ acts.Close octets f) ⊎ Shuts octets f later → Shuts octets f later
    behind (inl is) = absurd (not is)
    behind (inr s) = s

closes_first : (octets : List ℕ) (f : ConnFault) (ask : Ask) (more : List Ask) → Closes octets f more → Closes octets f (ask ∷ more)
closes_first octets f ask more h = (ask ∷ h.0, h.1, h.2, ap (λ (x : List Ask). ask ∷ x) h.3, h.4)

binds_shut : (octets : List ℕ) (f : ConnFault) (c : Caller) (ack : BindAckBody) (Then : Agreement → List Event → Type 0) (more : List Ask) (later : List Event)
    → ((agreement : Agreement) (rest : List Event) → Then agreement rest → Shuts octets f rest → Closes octets f more) → Binds c ack Then more later → Shuts octets f later → Closes octets f more
binds_shut octets f c ack Then more [] on h s = absurd s
binds_shut octets f c ack Then more (Decided (ToGroup group) said ∷ later) on h s = on _ later h.1 s
binds_shut octets f c ack Then more (Decided (RefuseGroup reason) said ∷ later) on h s = absurd (subst (Shuts octets f) h.1 s)
binds_shut octets f c ack Then more (Decided (Reply r executed) said ∷ later) on h s = absurd h
binds_shut octets f c ack Then more (Came came ∷ later) on h s = absurd h
binds_shut octets f c ack Then more (Paused ∷ later) on h s = absurd h
binds_shut octets f c ack Then more (Did act ∷ later) on h s = absurd h

-- cancels and orphanings close nothing
offs_shut : (octets : List ℕ) (f : ConnFault) (offs end : List Event) (more others : List Ask) → CallsOff offs more others → Shuts octets f (offs ++ end) → Shuts octets f end
offs_shut octets f [] end more others h s = s
offs_shut octets f (Did (acts.Cancel id) ∷ offs) end more others h (inl e) = absurd (cc (e))
offs_shut octets f (Did (acts.Cancel id) ∷ offs) end more others h (inr s) = offs_shut octets f offs end h.0 others h.2 s
offs_shut octets f (Did (acts.Orphan id) ∷ offs) end more others h (inl e) = absurd (cc (e))
offs_shut octets f (Did (acts.Orphan id) ∷ offs) end more others h (inr s) = offs_shut octets f offs end h.0 others h.2 s
offs_shut octets f (Did (acts.Answer said) ∷ offs) end more others h s = absurd h
offs_shut octets f (Did (acts.Group id) ∷ offs) end more others h s = absurd h
offs_shut octets f (Did (acts.Call j k) ∷ offs) end more others h s = absurd h
offs_shut octets f (Did (acts.Close said why) ∷ offs) end more others h s = absurd h
offs_shut octets f (Came came ∷ offs) end more others h s = absurd h
offs_shut octets f (Paused ∷ offs) end more others h s = absurd h
offs_shut octets f (Decided decision said ∷ offs) end more others h s = absurd h

ends_shut : (octets : List ℕ) (f : ConnFault) (c : Caller) (most : ℕ) (maybe : Bool) (Then : List Event → Type 0) (more others : List Ask) (end : List Event)
    → ((rest : List Event) → Then rest → Shuts octets f rest → Closes octets f more) → EndsCall c most maybe Then others end → Shuts octets f end → Closes octets f more
ends_shut octets f c most maybe Then more others [] on h s = absurd s
ends_shut octets f c most maybe Then more others (Decided (Reply r executed) said ∷ later) on h s = on later h.1 s
ends_shut octets f c most maybe Then more others (Decided (ToGroup group) said ∷ later) on h s = absurd h
ends_shut octets f c most maybe Then more others (Decided (RefuseGroup reason) said ∷ later) on h s = absurd h
ends_shut octets f c most maybe Then more others (Came came ∷ later) on h s = absurd h
ends_shut octets f c most maybe Then more others (Paused ∷ later) on h s = absurd h
ends_shut octets f c most maybe Then more others (Did act ∷ later) on h s = absurd h

runs_shut : (octets : List ℕ) (f : ConnFault) (c : Caller) (most : ℕ) (maybe : Bool) (Then : List Event → Type 0) (more : List Ask) (later : List Event)
    → ((rest : List Event) → Then rest → Shuts octets f rest → Closes octets f more) → Runs c most maybe Then more later → Shuts octets f later → Closes octets f more
runs_shut octets f c most maybe Then more later on h s =
    ends_shut octets f c most maybe Then more h.1 h.2 on h.5 (offs_shut octets f h.0 h.2 more h.1 h.4 (subst (Shuts octets f) h.3 s))

call_shut : (octets : List ℕ) (f : ConnFault) (number : Option ℕ) (j : Joined) (most : ℕ) (Then : List Event → Type 0) (more : List Ask) (all : List Event)
    → ((rest : List Event) → Then rest → Shuts octets f rest → Closes octets f more) → PlaysCall number j most Then more all → Shuts octets f all → Closes octets f more
call_shut octets f (Some k) j most Then more all on h s =
    runs_shut octets f (caller_of j) most j.maybe Then more h.0 on h.2 (shuts_behind octets f _ all h.0 h.1 (λ e. absurd (cc (e))) s)
call_shut octets f None j most Then more all on h s = on h.0 h.2 (shuts_behind octets f _ all h.0 h.1 (λ e. absurd (cc (e))) s)

same_fault : (a b : List ℕ) (f g : ConnFault) → acts.Close a f ≡ acts.Close b g → (a ≡ b) × (f ≡ g)
same_fault a b f g e = (cc (e), cc (e))

broken_shut : (octets : List ℕ) (f : ConnFault) (c : Caller) (g : ConnFault) (more : List Ask) → (acts.Close (pdu_octets (closing c g)) g ≡ acts.Close octets f) ⊎ ⊥ → Closes octets f (asks.Broken c g ∷ more)
broken_shut octets f c g more (inl e) =
    let same = same_fault (pdu_octets (closing c g)) octets g f e in
    ([], c, more, ap (λ (x : ConnFault). asks.Broken c x ∷ more) same.1, sym same.0 ∙ ap (λ (x : ConnFault). pdu_octets (closing c x)) same.1)
broken_shut octets f c g more (inr h) = absurd h

plays_shut : (octets : List ℕ) (f : ConnFault) (asked : List Ask) (k : Negotiated) (all : List Event) → Plays k asked all → Shuts octets f all → Closes octets f asked
plays_shut octets f [] k all h s = absurd (subst (Shuts octets f) h s)
plays_shut octets f (asks.Bind c flags b ∷ more) k all h s =
    closes_first octets f (asks.Bind c flags b) more
    (binds_shut octets f c (ready_ack (agreement_of b 0) (results k b.elements)) (λ agreement rest. Plays (record (offering k b.elements) { agreement = agreement }) more rest) more h.0 (λ agreement rest p t. plays_shut octets f more (record (offering k b.elements) { agreement = agreement }) rest p t) h.2 (shuts_behind octets f _ all h.0 h.1 (λ e. absurd (cc (e))) s))
plays_shut octets f (asks.Alter c b ∷ more) k all h s =
    closes_first octets f (asks.Alter c b) more (plays_shut octets f more (offering k b.elements) h.0 h.2 (shuts_behind octets f _ all h.0 h.1 (λ e. absurd (cc (e))) s))
plays_shut octets f (asks.Call j ∷ more) k all h s =
    closes_first octets f (asks.Call j) more
    (call_shut octets f (interface_of k.accepted j.context) j k.agreement.max_xmit (λ rest. Plays k more rest) more all (λ rest p t. plays_shut octets f more k rest p t) h s)
plays_shut octets f (asks.Cancel id ∷ more) k all h s = closes_first octets f (asks.Cancel id) more (plays_shut octets f more k all h s)
plays_shut octets f (asks.Orphan id ∷ more) k all h s = closes_first octets f (asks.Orphan id) more (plays_shut octets f more k all h s)
plays_shut octets f (asks.Broken c g ∷ more) k all h s = broken_shut octets f c g more (subst (Shuts octets f) h.0 s)

-- ---- nothing is asked behind a breach of the protocol

abbrev BrokenLast : List Ask → Type 0
BrokenLast [] = ⊤
BrokenLast (asks.Broken c f ∷ later) = later ≡ []
BrokenLast (_ ∷ later) = BrokenLast later

first_last : (ask : Option Ask) (P : List Ask → Type 0) (asked : List Ask) → ((xs : List Ask) → P xs → BrokenLast xs) → AsksFirst ask P asked → BrokenLast asked
first_last None P asked on h = on asked h
first_last (Some (asks.Broken c f)) P asked on h = subst BrokenLast (sym h) refl
first_last (Some (asks.Bind c flags b)) P asked on h = subst BrokenLast (sym h.1) (on h.0 h.2)
first_last (Some (asks.Alter c b)) P asked on h = subst BrokenLast (sym h.1) (on h.0 h.2)
first_last (Some (asks.Call j)) P asked on h = subst BrokenLast (sym h.1) (on h.0 h.2)
first_last (Some (asks.Cancel id)) P asked on h = subst BrokenLast (sym h.1) (on h.0 h.2)
first_last (Some (asks.Orphan id)) P asked on h = subst BrokenLast (sym h.1) (on h.0 h.2)

are_last : (past pdus : List Pdu) (end asked : List Ask) → BrokenLast end → AreAsks past pdus end asked → BrokenLast asked
are_last past [] end asked last h = subst BrokenLast (sym h) last
are_last past (p ∷ more) end asked last h = first_last h.0 (AreAsks (p ∷ past) more end) asked (λ xs a. are_last (p ∷ past) more end xs last a) h.2

end_last : (rest : List ℕ) (fault : Option PduFault) → BrokenLast (broken_end rest fault)
end_last rest None = tt
end_last rest (Some fault) = refl

never_none : (early : List Ask) (ask : Ask) (rest : List Ask) → early ++ ask ∷ rest ≡ [] → ⊥
never_none [] ask rest e = absurd (cc (e))
never_none (first ∷ early) ask rest e = absurd (cc (e))

none_behind : (early : List Ask) (c : Caller) (f : ConnFault) (rest : List Ask) → BrokenLast (early ++ asks.Broken c f ∷ rest) → rest ≡ []
none_behind [] c f rest h = h
none_behind (asks.Broken d g ∷ early) c f rest h = absurd (never_none early (asks.Broken c f) rest h)
none_behind (asks.Bind d flags b ∷ early) c f rest h = none_behind early c f rest h
none_behind (asks.Alter d b ∷ early) c f rest h = none_behind early c f rest h
none_behind (asks.Call j ∷ early) c f rest h = none_behind early c f rest h
none_behind (asks.Cancel id ∷ early) c f rest h = none_behind early c f rest h
none_behind (asks.Orphan id ∷ early) c f rest h = none_behind early c f rest h

pub close_is_last : (ids : List SyntaxId) (before later : List Event) (m : ConnState) (asked : List Ask) (octets : List ℕ) (f : ConnFault) → Lives (at_start ids) (before ++ Did (acts.Close octets f) ∷ later) m
    → AreAsksOf (stream (before ++ Did (acts.Close octets f) ∷ later)) asked → (early : List Ask) × (c : Caller) × (asked ≡ early ++ asks.Broken c f ∷ []) × (octets ≡ pdu_octets (closing c f))
close_is_last ids before later m asked octets f l a =
    let events = before ++ Did (acts.Close octets f) ∷ later in
    let d = acts_are_asks ids events m asked l a in
    let s = plays_shut octets f d.done (negotiated_at_start ids) (seen events) d.plays (shuts_seen octets f events (shuts_here octets f before later)) in
    let whole : asked ≡ s.0 ++ asks.Broken s.1 f ∷ (s.2 ++ d.left) = d.whole ∙ (ap (λ (x : List Ask). x ++ d.left) s.3 ∙ append_assoc s.0 (asks.Broken s.1 f ∷ s.2) d.left) in
    let last : BrokenLast asked = are_last [] a.cut.pdus (broken_end a.cut.rest a.cut.fault) asked (end_last a.cut.rest a.cut.fault) a.asked in
    let none : s.2 ++ d.left ≡ [] = none_behind s.0 s.1 f (s.2 ++ d.left) (subst BrokenLast whole last) in
    (s.0, s.1, whole ∙ ap (λ (x : List Ask). s.0 ++ asks.Broken s.1 f ∷ x) none, s.4)
