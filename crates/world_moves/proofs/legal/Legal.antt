-- Each move keeps the journal legal and settled.
use Rattle.std.proofs.Common.{◌≡◌, ◌≢◌, ℕ, zero, suc, ◌^◌, ◌≤◌, Bool, true, false, Some, List, [], ◌∷◌, ◌++◌, length, refl, sym, ap, subst, ◌∙◌, arith}
use Rattle.std.specs.Prelude.{slice_get, not, ◌==◌}
use Rattle.rpc_base.specs.Fields.{FitsSyntax}
use Rattle.handle_model.specs.declared.entry.Slot.{Slot}
use Rattle.handle_model.specs.declared.entry.Outcome.{Outcome}
use Rattle.handle_model.specs.declared.entry.Entry.{Entry}
use Rattle.handle_model.specs.declared.entry.Said.TheVariants.{Out}
use Rattle.handle_model.specs.Journal.{is_open, slots_in, slots, suit}
use Rattle.handle_model.proofs.Steps.{empty_sound}
use Rattle.pdu_codec.specs.declared.pdu.Pdu.{Pdu}
use Rattle.ndr_value.specs.Values.{Msg}
use Rattle.ndr_table.specs.declared.operation.HandleUse.{HandleUse}
use Rattle.ndr_table.specs.Tables.{OpForm, TableForm, IsTable}
use Rattle.manager_api.specs.declared.answer.Kept.{Kept}
use Rattle.manager_api.specs.Calls.{uses_at}
use Rattle.conn_asks.specs.States.{ConnState}
use Rattle.conn_histories.specs.Histories.{Event, Happens}
use Rattle.conn_histories.specs.Histories.Event.{Came, Paused, Did, Decided}
use Rattle.conn_histories.specs.Requests.{op_of, uses_of}
use Rattle.client_core.specs.States.{is_calling}
use Rattle.client_core.specs.Histories.ClientEvent.{DidCall, DidCancel, Received, Lost}
use Rattle.world_laws.specs.Moves.{Move}
use Rattle.world_laws.specs.Moves.{Move as moves}
use Rattle.world_laws.specs.Journals.{home, journal, has_begun}
use Rattle.world_laws.specs.Ends.{CallerEnd, ServerEnd, Line}
use Rattle.world_laws.specs.Ends.{Waiting as waiting}
use Rattle.world_laws.specs.Serving.{Means, ServerDoes, ServerGoesBy}
use Rattle.world_laws.specs.Calling.{breaks, IfBroken, HearsPdus, HearsOctets, LosesLine}
use Rattle.world_laws.specs.Worlds as worlds
use Rattle.world_laws.specs.Worlds.{World, empty, group_wanted, with_line, entered, LosesAt, LosesAll, opened, Opens, starting, Starts, cancelling, CallsOff, Arrives, Comes, GoesOnFor, Tries, Plays, PlaysAll, Played}
use Rattle.world_laws.specs.Worlds.GoesOnFor.{answered, unheard}
use Rattle.world_laws.specs.Worlds.Tries.{taken, denied}
use Rattle.world_laws.proofs.Lists.{set_same, set_twice, within, OfMore, of_more, more_before}
use Rattle.world_laws.proofs.Lists.OfMore.{before, last}
use Rattle.world_laws.proofs.Quiet.{end_quiet, deny_quiet}
use Rattle.world_laws.proofs.Holds.{Holds}
use Rattle.world_laws.proofs.Serving.{does}
use Rattle.world_laws.proofs.Moving as moving
use Rattle.world_laws.proofs.Worlds.{is_true}
use Rattle.world_moves.specs.Legal.{AllJournalsAreSound}
use Rattle.world_moves.proofs.legal.Groups.{binds_old, old_more, AsksOf, asks_first}
use Rattle.world_moves.proofs.legal.Entering.{asked_served, outcomes_suit, kept_count, end_step, leave_step, take_step, deny_step}
use Rattle.world_moves.proofs.legal.Meaning.{Effect, means}
use Rattle.world_moves.proofs.legal.Meaning.Effect.{stays, left, asks, joins}
use Rattle.world_moves.proofs.legal.Changing.{HasAsked, Keeps, entering, caller_changed, lost, server_changed}

-- ---- the caller

heard_unless : (b : Bool) (between d : CallerEnd) (more : List Pdu) (broken : Bool) → IfBroken b ((d ≡ between) × (broken ≡ true)) (HearsPdus between more d broken) → binds_old between.events ≡ true
    → (HearsPdus between more d broken → binds_old d.events ≡ true) → binds_old d.events ≡ true
heard_unless true between d more broken h old go = ap (λ (x : CallerEnd). binds_old x.events) h.0 ∙ old
heard_unless false between d more broken h old go = go h

heard_pdus : (pdus : List Pdu) (c d : CallerEnd) (broken : Bool) → HearsPdus c pdus d broken → binds_old c.events ≡ true → binds_old d.events ≡ true
heard_pdus [] c d broken h old = ap (λ (x : CallerEnd). binds_old x.events) h.0 ∙ old
heard_pdus (p ∷ more) c d broken (t, between, first, later) old =
    let next : binds_old between.events ≡ true = ap (λ (x : CallerEnd). binds_old x.events) first.after ∙ old_more c.events (Received p t ∷ []) old in
    heard_unless (breaks t) between d more broken later next (λ h. heard_pdus more between d broken h next)

heard : (c d : CallerEnd) (octets : List ℕ) (broken : Bool) → HearsOctets c octets d broken → binds_old c.events ≡ true → binds_old d.events ≡ true
heard c d octets broken h old = ap (λ (x : CallerEnd). binds_old x.events) h.after ∙ heard_pdus h.cut.pdus c h.heard h.by_pdu h.hears old

-- each connection but the first asks for the group that is there
wanted_old : (lines : List Line) (group : ℕ) → group ≡ group_wanted lines → length lines ≢ 0 → not (group == 0) ≡ true
wanted_old [] group is ne = absurd (ne refl)
wanted_old (l ∷ lines) group is ne = ap (λ (n : ℕ). not (n == 0)) is

opens : (table : TableForm) (w v : World) (c group : ℕ) → Opens table w c group v → Keeps table w → Keeps table v
opens table w v c group o h = subst (λ (x : World). Keeps table x) (sym o.after) (record {
  sound = h.sound;
  served = h.served;
  open_ = λ i d l found stands member. open_at i d l (of_more w.lines new i l found) stands member;
  apart = λ i j d l m fl fm sl sm ml mm. apart i j d l m (of_more w.lines new i l fl) (of_more w.lines new j m fm) sl sm ml mm;
  olds = λ i l found ne. olds i l (of_more w.lines new i l found) ne;
  first = λ i l found stands waits. first i l (of_more w.lines new i l found) stands waits;
  begun = λ b. (let x = h.begun b in (x.0, more_before w.lines new 0 x.0 x.1, x.2));
})
  where
    new : Line
    new = opened table c group o.octets o.state

    no_member : (d : ℕ) (l : Line) → l ≡ opened table c group o.octets o.state → l.server.member ≢ Some d
    no_member d l is e = absurd (cc (ap (λ (x : Line). x.server.member) is, e))

    open_at : (i d : ℕ) (l : Line) → OfMore w.lines (opened table c group o.octets o.state) i l → l.standing ≡ true → l.server.member ≡ Some d → is_open (journal w.past) d ≡ true
    open_at i d l (before found) stands member = h.open_ i d l found stands member
    open_at i d l (last at is) stands member = absurd (no_member d l is member)

    apart : (i j d : ℕ) (l m : Line) → OfMore w.lines (opened table c group o.octets o.state) i l → OfMore w.lines (opened table c group o.octets o.state) j m → l.standing ≡ true → m.standing ≡ true
        → l.server.member ≡ Some d → m.server.member ≡ Some d → i ≡ j
    apart i j d l m (before fl) (before fm) sl sm ml mm = h.apart i j d l m fl fm sl sm ml mm
    apart i j d l m (last at is) _ sl sm ml mm = absurd (no_member d l is ml)
    apart i j d l m _ (last at is) sl sm ml mm = absurd (no_member d m is mm)

    olds : (i : ℕ) (l : Line) → OfMore w.lines (opened table c group o.octets o.state) i l → i ≢ 0 → binds_old l.caller.events ≡ true
    olds i l (before found) ne = h.olds i l found ne
    olds i l (last at is) ne = ap (λ (x : Line). binds_old x.caller.events) is ∙ wanted_old w.lines group o.wanted (λ none. ne (at ∙ none))

    first : (i : ℕ) (l : Line) → OfMore w.lines (opened table c group o.octets o.state) i l → l.standing ≡ true → l.server.waiting ≡ waiting.Bind 0 → (i ≡ 0) × (has_begun w.past ≡ false) × HasAsked l
    first i l (before found) stands waits = h.first i l found stands waits
    first i l (last at is) stands waits = absurd (cc (ap (λ (x : Line). x.server.waiting) is, waits))

starts : (table : TableForm) (w v : World) (op : ℕ) (m : Msg) (i : ℕ) (l : Line) → slice_get w.lines i ≡ Some l → l.standing ≡ true → Starts table w op m i l v → Keeps table w → Keeps table v
starts table w v op m i l at stands s h =
    let k = caller_changed table w i l (starting table l op m s.octets s.state) at stands refl (λ old. old_more l.caller.events (DidCall op m s.octets ∷ []) old) h in
    subst (λ (x : World). Keeps table x) (sym s.after) (record { sound = k.sound; served = k.served; open_ = k.open_; apart = k.apart; olds = k.olds; first = k.first; begun = k.begun })

calls_off : (table : TableForm) (w v : World) (i : ℕ) (l : Line) → slice_get w.lines i ≡ Some l → l.standing ≡ true → CallsOff table w i l v → Keeps table w → Keeps table v
calls_off table w v i l at stands s h =
    subst (λ (x : World). Keeps table x) (sym s.after)
    (caller_changed table w i l (cancelling table l s.octets s.state) at stands refl (λ old. old_more l.caller.events (DidCancel s.octets ∷ []) old) h)

-- ---- losses

loses_at : (table : TableForm) (w v : World) (c : ℕ) → LosesAt w c v → Keeps table w → Keeps table v
loses_at table w v c (i, l, at, named, stands, (m, past, (is, leaves), after)) h =
    subst (λ (x : World). Keeps table x) (sym after)
    (lost table w i l m past at stands (ap (λ (x : Line). x.standing) is) (ap (λ (x : Line). x.server) is)
    (λ old. ap (λ (x : Line). binds_old x.caller.events) is ∙ old_more l.caller.events (Lost (is_calling l.caller.state) ∷ []) old)
    (leave_step table w.past past l.server.member h.sound h.served (λ d e. h.open_ i d l at stands e) leaves) h)

loses_all : (names : List ℕ) (table : TableForm) (w v : World) → LosesAll w names v → Keeps table w → Keeps table v
loses_all [] table w v (is, none) h = subst (λ (x : World). Keeps table x) (sym is) h
loses_all (c ∷ cs) table w v (least, (u, first, later)) h = loses_all cs table u v later (loses_at table w u c first h)

comes : (table : TableForm) (w v : World) (n i : ℕ) (l : Line) → slice_get w.lines i ≡ Some l → l.standing ≡ true → Comes table w n i l v → Keeps table w → Keeps table v
comes table w v n i l at stands a h = subst (λ (x : World). Keeps table x) (sym a.after) (behind a.broken a.is_line)
  where
    old : binds_old l.caller.events ≡ true → binds_old a.caller.events ≡ true
    old e = heard l.caller a.caller a.front a.broken a.hears e

    behind : (b : Bool) → IfBroken b (LosesLine (record l { caller = a.caller; down = a.left }) w.past a.line a.past) ((a.line ≡ record l { caller = a.caller; down = a.left }) × (a.past ≡ w.past)) → Keeps table (with_line w i a.line a.past)
    behind true (is, leaves) =
        lost table w i l a.line a.past at stands (ap (λ (x : Line). x.standing) is) (ap (λ (x : Line). x.server) is)
        (λ e. ap (λ (x : Line). binds_old x.caller.events) is ∙ old_more a.caller.events (Lost (is_calling a.caller.state) ∷ []) (old e))
        (leave_step table w.past a.past l.server.member h.sound h.served (λ d e. h.open_ i d l at stands e) leaves) h
    behind false (is, same) =
        subst (λ (x : List Entry). Keeps table (with_line w i a.line x)) (sym same)
        (caller_changed table w i l a.line at stands (ap (λ (x : Line). x.server) is) (λ e. ap (λ (x : Line). binds_old x.caller.events) is ∙ old e) h)

-- ---- the server

renamed : (table : TableForm) (past new : List Entry) (event : Event) (s t : ServerEnd) (events : List Event) (state : ConnState) → Effect table past new event s t → Effect table past new event s (record t { events = events; state = state })
renamed table past new event s t events state (stays same waits step) = stays same waits step
renamed table past new event s t events state (left none wait step) = left none wait step
renamed table past new event s t events state (asks asked is same wait step) = asks asked is same wait step
renamed table past new event s t events state (joins asked waits free member wait is) = joins asked waits free member wait is

pub few_operations : (table : TableForm) → IsTable table.types table.ops table.uses → length table.ops ≤ 2 ^ 16
few_operations table is = omega (arith, is.few)

twice : (w : World) (i : ℕ) (l m : Line) (past new : List Entry) → with_line (with_line w i l past) i m new ≡ with_line w i m new
twice w i l m past new = ap (λ (ls : List Line). record w { lines = ls; past = new }) (set_twice w.lines i l m)

module _ (table : TableForm) (fits : FitsSyntax table.id) (is_table : IsTable table.types table.ops table.uses) where
  few : length table.ops ≤ 2 ^ 16
  few = few_operations table is_table

  does_keep : (w : World) (i : ℕ) (l m : Line) (event : Event) (state : ConnState) (after : ServerEnd) (new : List Entry) → slice_get w.lines i ≡ Some l → l.standing ≡ true → m.caller ≡ l.caller
      → m.server ≡ record after { events = l.server.events ++ event ∷ []; state = state } → Happens l.server.state event state → Means (table ∷ []) w.past l.server event after new → Holds table w → AsksOf table l → Keeps table w
      → Keeps table (with_line w i m new)
  does_keep w i l m event state after new at stands caller server happens what holds asked h =
      let e = means table is_table.few_uses w.past new h.sound h.served l.server after event (λ c is. h.open_ i c l at stands is) what in
      let e2 = renamed table w.past new event l.server after (l.server.events ++ event ∷ []) state e in
      server_changed table w i l m new event at stands h caller (ap (λ (t : ServerEnd). t.events) server)
      (λ group is. asks_first table l group state fits few (holds.lines i l at) stands asked (subst (λ (x : Event). Happens l.server.state x state) is happens))
      (subst (λ (t : ServerEnd). Effect table w.past new event l.server t) (sym server) e2)

  by_server : (w : World) (i : ℕ) (l m : Line) (event : Event) (new : List Entry) → slice_get w.lines i ≡ Some l → l.standing ≡ true → ServerDoes (table ∷ []) l w.past event m new → Holds table w → AsksOf table l → Keeps table w
      → Keeps table (with_line w i m new)
  by_server w i l m event new at stands d holds asked h =
      does_keep w i l m event d.state d.after new at stands (ap (λ (x : Line). x.caller) d.then_) (ap (λ (x : Line). x.server) d.then_) d.happens d.means holds asked h

  asked_on : (l m : Line) (past new : List Entry) (event : Event) → ServerDoes (table ∷ []) l past event m new → AsksOf table l → AsksOf table m
  asked_on l m past new event d asked = subst (λ (x : Line). AsksOf table x) (sym d.then_) asked

  goes_by : (events : List Event) (w : World) (i : ℕ) (l m : Line) (new : List Entry) → slice_get w.lines i ≡ Some l → l.standing ≡ true → ServerGoesBy (table ∷ []) l w.past events m new → Holds table w → AsksOf table l → Keeps table w
      → Keeps table (with_line w i m new)
  goes_by [] w i l m new at stands d holds asked h = by_server w i l m Paused new at stands d holds asked h
  goes_by (Did act ∷ more) w i l m new at stands (between, next, d, later) holds asked h =
      let (held, stood) = does table w i l between (Did act) next fits few at stands refl d holds in
      let k = by_server w i l between (Did act) next at stands d holds asked h in
      subst (λ (x : World). Keeps table x) (twice w i between m next new)
      (goes_by more (with_line w i between next) i between m new (set_same w.lines i between (within w.lines i l at)) stood later held (asked_on l between w.past next (Did act) d asked) k)
  goes_by (Decided decision octets ∷ more) w i l m new at stands (between, next, d, later) holds asked h =
      let (held, stood) = does table w i l between (Decided decision octets) next fits few at stands refl d holds in
      let k = by_server w i l between (Decided decision octets) next at stands d holds asked h in
      subst (λ (x : World). Keeps table x) (twice w i between m next new)
      (goes_by more (with_line w i between next) i between m new (set_same w.lines i between (within w.lines i l at)) stood later held (asked_on l between w.past next (Decided decision octets) d asked) k)
  goes_by (Came octets ∷ more) w i l m new at stands d holds asked h = absurd d
  goes_by (Paused ∷ more) w i l m new at stands d holds asked h = absurd d

  -- what the caller asks on each connection
  abbrev AllAsk : World → Type 0
  AllAsk w = (i : ℕ) (l : Line) → slice_get w.lines i ≡ Some l → AsksOf table l

  goes_on_for : (k : ℕ) (w v : World) → GoesOnFor table k w v → Holds table w → AllAsk w → Keeps table w → Keeps table v
  goes_on_for k w v (answered i l m past at stands waits goes after) holds all h =
      subst (λ (x : World). Keeps table x) (sym after) (goes_by goes.0 w i l m past at stands goes.1 holds (all i l at) h)
  goes_on_for k w v (unheard none is) holds all h = subst (λ (x : World). Keeps table x) (sym is) h

  arrives : (w v : World) (n i : ℕ) (l : Line) → slice_get w.lines i ≡ Some l → l.standing ≡ true → Arrives table w n i l v → Holds table w → AllAsk w → Keeps table w → Keeps table v
  arrives w v n i l at stands a holds all h =
      let d = a.comes in
      let first = does_keep w i l a.came (Came a.front) d.state d.after a.then_ at stands (ap (λ (x : Line). x.caller) d.then_) (ap (λ (x : Line). x.server) d.then_) d.happens d.means holds (all i l at) h in
      let held = moving.arrived table w v n i l fits few at stands a holds in
      let stood : a.came.standing ≡ true = ap (λ (x : Line). x.standing) d.then_ ∙ stands in
      let asked : AsksOf table a.came = subst (λ (x : Line). AsksOf table x) (sym d.then_) (all i l at) in
      subst (λ (x : World). Keeps table x) (sym (a.after ∙ sym (twice w i a.came a.line a.then_ a.past)))
      (goes_by a.goes_on.0 (with_line w i a.came a.then_) i a.came a.line a.past (set_same w.lines i a.came (within w.lines i l at)) stood a.goes_on.1 held asked first)

  tries : (w v : World) (k : ℕ) → Tries table w k v → Holds table w → AllAsk w → Keeps table w → Keeps table v
  tries w v k (taken row serial past takes is) holds all h =
      subst (λ (x : World). Keeps table x) (sym is) (entering table w past (take_step table w.past past k serial row h.sound h.served takes) h)
  tries w v k (denied slot past takes goes) holds all h =
      goes_on_for k (entered w past) v goes (moving.entering table w past (deny_quiet w.past past k slot takes) holds) all (entering table w past (deny_step table w.past past k slot h.sound h.served takes) h)

  -- a call ends
  uses_are : (iface op : ℕ) (o : OpForm) → op_of (table ∷ []) iface op ≡ Some o → uses_of (table ∷ []) iface op ≡ uses_at table op
  uses_are zero op o found = refl
  uses_are (suc iface) op o found = absurd (cc (found))

  results_suit : (w : World) (k : ℕ) (kepts : List Kept) (m : Msg) (past : List Entry) → (e : worlds.Ends table w.past k kepts m past) → Keeps table w → suit (slots (journal w.past) k) e.results ≡ true
  results_suit w k kepts m past e h =
      let served = asked_served table w.past k e.asked h.served e.asks in
      let uses = uses_are e.asked.iface e.asked.op e.is.operation e.is.found in
      let kept_ = kept_count (uses_at table e.asked.op) kepts e.owes.1 in
      let all = outcomes_suit e.asked.slots kepts (omega (arith, served, ap (λ (us : List HandleUse). length us) uses, kept_)) in
      let there : slots (journal w.past) k ≡ e.asked.slots = ap slots_in e.asks in
      subst (λ (ss : List Slot). suit ss e.results ≡ true) (sym there) (subst (λ (os : List Outcome). suit e.asked.slots os ≡ true) (sym e.results_are) all)

  finishes : (w v : World) (k : ℕ) (kepts : List Kept) (m : Msg) (past : List Entry) → worlds.Ends table w.past k kepts m past → GoesOnFor table k (entered w past) v → Holds table w → AllAsk w → Keeps table w → Keeps table v
  finishes w v k kepts m past e goes holds all h =
      goes_on_for k (entered w past) v goes (moving.entering table w past (end_quiet w.past past k e.results (Out e.octets) e.short e.enters) holds) all
      (entering table w past (end_step table w.past past k e.results (Out e.octets) h.sound h.served e.runs (results_suit w k kepts m past e h) e.enters) h)

  -- every move
  plays_keep : (move : Move) (w v : World) → Plays table w move v → Holds table w → AllAsk w → Keeps table w → Keeps table v
  plays_keep (moves.Open c group) w v p holds all h = opens table w v c group p h
  plays_keep (moves.Start c op m) w v (i, l, at, named, stands, p) holds all h = starts table w v op m i l at stands p h
  plays_keep (moves.ToServer c n) w v (i, l, at, named, stands, p) holds all h = arrives w v n i l at stands p holds all h
  plays_keep (moves.ToCaller c n) w v (i, l, at, named, stands, p) holds all h = comes table w v n i l at stands p h
  plays_keep (moves.Cancel c) w v (i, l, at, named, stands, p) holds all h = calls_off table w v i l at stands p h
  plays_keep (moves.Lose c) w v p holds all h = loses_at table w v c p h
  plays_keep moves.Restart w v (names, p) holds all h = loses_all names table w v p h
  plays_keep (moves.Take k) w v p holds all h = tries w v k p holds all h
  plays_keep (moves.Finish k kepts m) w v (past, ends, goes) holds all h = finishes w v k kepts m past ends goes holds all h

  plays_more : (played : List Move) (w u v : World) (move : Move) → PlaysAll table w played u → Plays table u move v → PlaysAll table w (played ++ move ∷ []) v
  plays_more [] w u v move is p = (v, subst (λ (x : World). Plays table x move v) is p, refl)
  plays_more (m ∷ more) w u v move (t, first, later) p = (t, first, plays_more more t u v move later p)

  -- behind the moves that were played
  plays_all : (more played : List Move) (w v : World) → Played table played w → PlaysAll table w more v → Holds table w → Keeps table w → Keeps table v
  plays_all [] played w v p is holds h = subst (λ (x : World). Keeps table x) (sym is) h
  plays_all (move ∷ more) played w v p (u, first, later) holds h =
      let t = is_true table played w fits few p in
      let all : AllAsk w = λ i l at. ((t.lines i l at).asked, (t.lines i l at).begun) in
      plays_all more (played ++ move ∷ []) u v (plays_more played empty w u move p first) later (moving.plays table move w u fits few first holds) (plays_keep move w u first holds all h)

nothing : {A : Type 0} (i : ℕ) (x : A) → (let xs : List A = [] in slice_get xs i) ≡ Some x → ⊥
nothing i x e = absurd (cc (e))

at_first : (table : TableForm) → Keeps table empty
at_first table = record {
  sound = empty_sound home;
  served = tt;
  open_ = λ i c l at stands member. absurd (nothing i l at);
  apart = λ i j c l m fl fm sl sm ml mm. absurd (nothing i l fl);
  olds = λ i l at ne. absurd (nothing i l at);
  first = λ i l at stands waits. absurd (nothing i l at);
  begun = λ b. absurd (cc (b));
}

pub journals_are_legal : AllJournalsAreSound
journals_are_legal table played w fits is p = (plays_all table fits is played [] empty w refl p (moving.at_first table) (at_first table)).sound
