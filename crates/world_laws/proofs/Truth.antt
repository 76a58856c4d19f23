-- What a caller knows of its calls stays true whatever the server does.
use Rattle.std.proofs.Common.{◌≡◌, ℕ, zero, suc, ◌+◌, ◌^◌, ◌≤◌, inl, inr, true, false, Option, Some, None, List, [], ◌∷◌, ◌++◌, length, refl, sym, ap, subst, ◌∙◌, append-nil, append_assoc, arith}
use Rattle.std.specs.Prelude.{slice_get}
use Rattle.rpc_base.specs.declared.identifiers.Order.{Order}
use Rattle.rpc_base.specs.declared.identifiers.Order.TheVariants.{Big, Little}
use Rattle.rpc_base.specs.Fields.{FitsSyntax}
use Rattle.handle_model.specs.declared.entry.Entry.{Entry}
use Rattle.pdu_stream.specs.declared.joined.Joined.{Joined}
use Rattle.ndr_table.specs.Tables.{TableForm}
use Rattle.conn_asks.specs.declared.events.Ask.{Ask}
use Rattle.conn_asks.specs.declared.events.Ask.TheVariants as asks
use Rattle.conn_asks.specs.declared.events.Act.{Act}
use Rattle.conn_asks.specs.declared.events.Act.TheVariants as acts
use Rattle.conn_asks.specs.States as conns
use Rattle.conn_asks.specs.States.{ConnState, caller_of}
use Rattle.conn_histories.specs.Histories.{Event, Happens, stream, seen, put, act_octets}
use Rattle.conn_histories.specs.Histories.Event.{Came, Paused, Did, Decided}
use Rattle.conn_histories.specs.Histories.Decision.{ToGroup, RefuseGroup, Reply}
use Rattle.conn_histories.proofs.Along.{one_more, put_in_order}
use Rattle.client_core.specs.States as callers
use Rattle.client_core.specs.Histories.{sent}
use Rattle.client_laws.specs.Sending.{EventsAsk}
use Rattle.world_laws.specs.Moves.{Fate}
use Rattle.world_laws.specs.Moves.{Fate as fates}
use Rattle.world_laws.specs.Counts.{does_in, done}
use Rattle.world_laws.specs.Ends.{Row, ServerEnd, Line, number_in, number_at}
use Rattle.conn_histories.specs.Entries.{asked_as}
use Rattle.world_laws.specs.Serving.{request, Requests, Means}
use Rattle.world_laws.proofs.Lists.{some_is, more_before, length_more}
use Rattle.world_laws.proofs.Counting.{done_seen, done_append}
use Rattle.world_laws.proofs.Quiet.{Grows, AllEnds, accept_ends}
use Rattle.world_laws.proofs.Holds.{LineHolds}
use Rattle.world_laws.proofs.Serving.{Brings, brings, of_member, marked}
use Rattle.world_laws.proofs.Serving.Brings.{same, refused, accepts_it}
use Rattle.world_laws.proofs.Statics.{Answer, answers_in, calls_in, ArePlain, is_little, is_clean, Whole}
use Rattle.world_laws.proofs.Asked.{asked_so, done_so}
use Rattle.world_laws.proofs.Accepting.{last_called, AllAccepted, all_later, accepted_on}
use Rattle.world_laws.proofs.Ending.{answers_append, last_clean, last_bind, whole_low, whole_high, last_answer}
use Rattle.world_laws.proofs.Truths.{still_replied, Knows, answered, HasBound, Says, Phase}
use Rattle.world_laws.proofs.Truths.{NeverRan as never}
use Rattle.world_laws.proofs.Truths.Says.{refusal, reply}
use Rattle.world_laws.proofs.Truths.Phase.{unbound, binding, free, calling, answering, dropped}
use Rattle.world_laws.proofs.Phases.{WaitIs, waits_on, number_there, served, phase_same}
use Rattle.world_laws.proofs.Deciding.{IsPlainCaller, bind_pdu_of, phase_binds, word_is, phase_replies}

-- What is true of a connection: what was asked on it, what its rows know, what waits at the server, what is on the way.
pub record TrueLine (table : TableForm) (past : List Entry) (l : Line) : Type 0 where
  pub asked : List Ask
  pub begun : EventsAsk (callers.at_start table) l.caller.events l.caller.state asked
  pub interface : l.caller.state.interface ≡ table
  pub rows : length (calls_in asked) ≡ length l.caller.rows
  pub told : (x : ℕ) (r : Row) → slice_get l.caller.rows x ≡ Some r → Knows table past l x r r.fate
  pub waits : WaitIs l.server.waiting l.server.numbers
  pub accepted : AllAccepted table past (calls_in asked) l.server.numbers
  pub phase : l.standing ≡ true → Phase l past (calls_in asked)

-- ---- what a row knows stays true

abbrev pub More : List (Option ℕ) → List (Option ℕ) → Type 0
More a b = (y : ℕ) (o : Option ℕ) → slice_get a y ≡ Some o → slice_get b y ≡ Some o

number_on : (l m : Line) (x k : ℕ) → More l.server.numbers m.server.numbers → number_at l x ≡ Some k → number_at m x ≡ Some k
number_on l m x k more at = ap number_in (more x (Some k) (number_there (slice_get l.server.numbers x) k at))

pub knows_on : (table : TableForm) (past new : List Entry) (l m : Line) (x : ℕ) (r : Row) (fate : Fate) → More l.server.numbers m.server.numbers → Grows past new → Knows table past l x r fate → Knows table new m x r fate
knows_on table past new l m x r (fates.Done message) more grows h = record { number = h.number; number_is = number_on l m x h.number more h.number_is; stub = h.stub; replied = still_replied past new h.number _ grows h.replied; is = h.is }
knows_on table past new l m x r (fates.Fault status true) more grows (never.refused at) = never.refused (more x None at)
knows_on table past new l m x r (fates.Fault status true) more grows (never.spared k st at replied) = never.spared k st (number_on l m x k more at) (still_replied past new k _ grows replied)
knows_on table past new l m x r (fates.Fault status false) more grows h = tt
knows_on table past new l m x r fates.Open more grows h = tt
knows_on table past new l m x r fates.Lost more grows h = tt

same_numbers : (a : List (Option ℕ)) → More a a
same_numbers a y o at = at

pub true_later : (table : TableForm) (past new : List Entry) (l : Line) → Grows past new → TrueLine table past l → TrueLine table new l
true_later table past new l grows h = record {
  asked = h.asked;
  begun = h.begun;
  interface = h.interface;
  rows = h.rows;
  told = λ x r at. knows_on table past new l l x r r.fate (same_numbers l.server.numbers) grows (h.told x r at);
  waits = h.waits;
  accepted = all_later table past new (calls_in h.asked) l.server.numbers grows h.accepted;
  phase = λ s. phase_same l past new (calls_in h.asked) l.server l.down refl refl (λ b. b) (same_numbers l.server.numbers) grows (h.phase s);
}

-- whatever is on the way to the server
pub phase_up : (l : Line) (past : List Entry) (js : List Joined) (up : List ℕ) → Phase l past js → Phase (record l { up = up }) past js
phase_up l past js up (unbound a b c d) = unbound a b c d
phase_up l past js up (binding a b c d p e) = binding a b c d p e
phase_up l past js up (free a b c d) = free a b c d
phase_up l past js up (calling c x j out a b d e f g i) = calling c x j (record { out = out.out; last_row = out.last_row; row = out.row; is_row = out.is_row; op = out.op; message = out.message }) a b d e f g i
phase_up l past js up (answering c x said executed later out a b says d e) =
    answering c x said executed later (record { out = out.out; last_row = out.last_row; row = out.row; is_row = out.is_row; op = out.op; message = out.message }) a b (said_up says) d e
  where
    said_up : Says past l x said executed → Says past (record l { up = up }) x said executed
    said_up (refusal at st is none) = refusal at st is none
    said_up (reply k answer at r word ran) = reply k answer at r word ran
phase_up l past js up (dropped c x out a b d) = dropped c x (record { out = out.out; last_row = out.last_row; row = out.row; is_row = out.is_row; op = out.op; message = out.message }) a b d

-- ---- of what an event brings

brings_more : (past new : List Entry) (s t : ServerEnd) (n : ℕ) → Brings past new s t n → More s.numbers t.numbers
brings_more past new s t n (same is quiet none) y o at = ap (λ (x : List (Option ℕ)). slice_get x y) is ∙ at
brings_more past new s t n (refused is quiet one) y o at = ap (λ (x : List (Option ℕ)). slice_get x y) is ∙ more_before s.numbers None y o at
brings_more past new s t n (accepts_it k is a one) y o at = ap (λ (x : List (Option ℕ)). slice_get x y) is ∙ more_before s.numbers (Some k) y o at

pub brings_grows : (past new : List Entry) (s t : ServerEnd) (n : ℕ) → Brings past new s t n → Grows past new
brings_grows past new s t n (same is quiet none) = quiet.grows
brings_grows past new s t n (refused is quiet one) = quiet.grows
brings_grows past new s t n (accepts_it k is a one) = a.grows

quiet_ends : (past new : List Entry) (s t : ServerEnd) → Brings past new s t 0 → AllEnds past → AllEnds new
quiet_ends past new s t (same is quiet none) = quiet.ends
quiet_ends past new s t (refused is quiet one) = absurd (omega (arith, one))
quiet_ends past new s t (accepts_it k is a one) = absurd (omega (arith, one))

little_is : (o : Order) → is_little o ≡ true → o ≡ Little
little_is Little h = refl
little_is Big h = absurd (cc (h))

requests_end : (table : TableForm) (past new : List Entry) (s t : ServerEnd) (j : Joined) (iface c : ℕ) → j.order ≡ Little → Requests (table ∷ []) past s j iface c t new → AllEnds past → AllEnds new
requests_end table past new s t j iface c little (inl (status, refuses, is, none)) a = subst AllEnds (sym none) a
requests_end table past new s t j iface c little (inr (k, x, is)) a =
    (marked j.cancel x.accepted new k x.marked).ends (accept_ends past x.accepted (asked_as c (request j iface) x.slots) k x.accepts little a)

-- what is asked and said stays so
pub means_ends : (table : TableForm) (past new : List Entry) (s t : ServerEnd) (event : Event) → is_clean event ≡ true → Means (table ∷ []) past s event t new → AllEnds past → AllEnds new
means_ends table past new s t (Did (acts.Answer octets)) clean h a = subst AllEnds (sym h.1.1) a
means_ends table past new s t (Did (acts.Call j iface)) clean h a = let (c, r) = of_member s.member _ h.1 in requests_end table past new s t j iface c (little_is j.order clean) r a
means_ends table past new s t (Did (acts.Group asked)) clean h a = quiet_ends past new s t (brings table past new s t (Did (acts.Group asked)) h) a
means_ends table past new s t (Did (acts.Cancel id)) clean h a = quiet_ends past new s t (brings table past new s t (Did (acts.Cancel id)) h) a
means_ends table past new s t (Did (acts.Orphan id)) clean h a = quiet_ends past new s t (brings table past new s t (Did (acts.Orphan id)) h) a
means_ends table past new s t (Did (acts.Close octets why)) clean h a = quiet_ends past new s t (brings table past new s t (Did (acts.Close octets why)) h) a
means_ends table past new s t (Came octets) clean h a = quiet_ends past new s t (brings table past new s t (Came octets) h) a
means_ends table past new s t Paused clean h a = quiet_ends past new s t (brings table past new s t Paused h) a
means_ends table past new s t (Decided decision octets) clean h a = quiet_ends past new s t (brings table past new s t (Decided decision octets) h) a

brings_none : (past new : List Entry) (s t : ServerEnd) → Brings past new s t 0 → t.numbers ≡ s.numbers
brings_none past new s t (same is quiet none) = is
brings_none past new s t (refused is quiet one) = absurd (omega (arith, one))
brings_none past new s t (accepts_it k is a one) = absurd (omega (arith, one))

quiet_act : (act : Act) → is_clean (Did act) ≡ true → act_octets act ≡ []
quiet_act (acts.Answer octets) h = absurd (cc (h))
quiet_act (acts.Close octets why) h = absurd (cc (h))
quiet_act (acts.Group asked) h = refl
quiet_act (acts.Call j number) h = refl
quiet_act (acts.Cancel id) h = refl
quiet_act (acts.Orphan id) h = refl

-- ---- an event at the server's end

plain_at : (asked : List Ask) (x : ℕ) (j : Joined) → ArePlain asked → slice_get (calls_in asked) x ≡ Some j → IsPlainCaller (caller_of j)
plain_at [] x j plain at = absurd (none_at x at)
  where
    none_at : (y : ℕ) → slice_get [] y ≡ Some j → ⊥
    none_at y e = absurd (cc (e))
plain_at (asks.Call i ∷ more) zero j (context, small, little, plain) at = subst (λ (y : Joined). IsPlainCaller (caller_of y)) (some_is i j at) ((small, omega (arith, context)), little)
plain_at (asks.Call i ∷ more) (suc x) j (context, small, little, plain) at = plain_at more x j plain at
plain_at (asks.Cancel id ∷ more) x j plain at = plain_at more x j plain at
plain_at (asks.Bind c flags body ∷ more) x j plain at = absurd plain
plain_at (asks.Alter c body ∷ more) x j plain at = absurd plain
plain_at (asks.Orphan id ∷ more) x j plain at = absurd plain
plain_at (asks.Broken c f ∷ more) x j plain at = absurd plain

record Step (table : TableForm) (past new : List Entry) (l : Line) (event : Event) (state : ConnState) (after : ServerEnd) (js : List Joined) : Type 1 where
  group : ℕ
  whole : Whole table.id group (seen (l.server.events ++ event ∷ [])) js
  before : Whole table.id group (seen l.server.events) js
  means : Means (table ∷ []) past l.server event after new
  brought : Brings past new l.server after (does_in event)
  ends : AllEnds past
  fits : (x : ℕ) (j : Joined) → slice_get js x ≡ Some j → IsPlainCaller (caller_of j)
  rows : length js ≡ length l.caller.rows
  numbers : length l.server.numbers ≡ done l.server.events
  waits : WaitIs l.server.waiting l.server.numbers

abbrev with_event : ServerEnd → ServerEnd → Event → ConnState → ServerEnd
with_event s after event state = record after { events = s.events ++ event ∷ []; state = state }

saw : (s : ServerEnd) (event : Event) → seen (s.events ++ event ∷ []) ≡ seen s.events ++ seen (event ∷ [])
saw s event = (put_in_order s.events (event ∷ [])).0.saw

still_bound : (s t : ServerEnd) (more : List Event) → seen t.events ≡ seen s.events ++ more → HasBound s → HasBound t
still_bound s t more is (before, decided, after, at, binds) = (before, decided, after ++ more, is ∙ (ap (λ (x : List Event). x ++ more) at ∙ append_assoc before (decided ∷ after) more), binds)

is_cleaned : (table : TableForm) (group : ℕ) (s : ServerEnd) (event : Event) (js : List Joined) → Whole table.id group (seen (s.events ++ event ∷ [])) js → is_clean event ≡ true
is_cleaned table group s (Came octets) js w = refl
is_cleaned table group s Paused js w = refl
is_cleaned table group s (Did act) js w = last_clean table.id group (seen s.events) (Did act) js (subst (λ (x : List Event). Whole table.id group x js) (saw s (Did act)) w)
is_cleaned table group s (Decided decision octets) js w = refl

phase_on : (table : TableForm) (past new : List Entry) (l : Line) (event : Event) (state : ConnState) (after : ServerEnd) (js : List Joined) → Step table past new l event state after js → Phase l past js
    → Phase (served l (with_event l.server after event state) (l.down ++ put (event ∷ []))) new js
phase_on table past new l (Came octets) state after js s h =
    let is : seen (l.server.events ++ Came octets ∷ []) ≡ seen l.server.events = saw l.server (Came octets) ∙ append-nil (seen l.server.events) in
    phase_same l past new js (with_event l.server after (Came octets) state) (l.down ++ []) (append-nil l.down) (ap (λ (x : List Event). length (answers_in x)) is)
    (still_bound l.server (with_event l.server after (Came octets) state) [] (saw l.server (Came octets))) (brings_more past new l.server after 0 s.brought) (brings_grows past new l.server after 0 s.brought) h
phase_on table past new l Paused state after js s h =
    let is : seen (l.server.events ++ Paused ∷ []) ≡ seen l.server.events = saw l.server Paused ∙ append-nil (seen l.server.events) in
    phase_same l past new js (with_event l.server after Paused state) (l.down ++ []) (append-nil l.down) (ap (λ (x : List Event). length (answers_in x)) is)
    (still_bound l.server (with_event l.server after Paused state) [] (saw l.server Paused)) (brings_more past new l.server after 0 s.brought) (brings_grows past new l.server after 0 s.brought) h
phase_on table past new l (Did act) state after js s h =
    let t = with_event l.server after (Did act) state in
    let is = saw l.server (Did act) in
    let none : put (Did act ∷ []) ≡ [] = append-nil (act_octets act) ∙ quiet_act act (is_cleaned table s.group l.server (Did act) js s.whole) in
    let count : answered t ≡ answered l.server = ap (λ (x : List Event). length (answers_in x)) is ∙ ap length (answers_append (seen l.server.events) (Did act ∷ []) ∙ append-nil (answers_in (seen l.server.events))) in
    phase_same l past new js t (l.down ++ put (Did act ∷ [])) (ap (λ (x : List ℕ). l.down ++ x) none ∙ append-nil l.down) count
    (still_bound l.server t (Did act ∷ []) is) (brings_more past new l.server after (does_in (Did act)) s.brought) (brings_grows past new l.server after (does_in (Did act)) s.brought) h
phase_on table past new l (Decided (Reply said executed) octets) state after js s h =
    let event = Decided (Reply said executed) octets in
    let t = with_event l.server after event state in
    let is = saw l.server event in
    let answer : Answer = record { said = said; executed = executed; octets = octets } in
    let w = subst (λ (x : List Event). Whole table.id s.group x js) is s.whole in
    let low = whole_low table.id s.group (seen l.server.events ++ event ∷ []) js w in
    let high = whole_high table.id s.group (seen l.server.events) js s.before in
    let more : length (answers_in (seen l.server.events ++ event ∷ [])) ≡ answered l.server + 1 = ap length (answers_append (seen l.server.events) (event ∷ [])) ∙ length_more (answers_in (seen l.server.events)) answer in
    let count : length l.server.numbers ≡ answered l.server + 1 = omega (arith, low, high, more, s.numbers, done_seen l.server.events, done_append (seen l.server.events) (event ∷ [])) in
    subst (λ (d : List ℕ). Phase (served l t (l.down ++ d)) new js) (sym (append-nil octets))
    (phase_replies l past new js t said executed octets (last_answer table.id s.group (seen l.server.events) answer js w) s.fits s.rows
    (word_is table past new l after l.server.waiting said executed (answered l.server) s.ends refl s.waits count s.means.1)
    (ap (λ (x : List Event). length (answers_in x)) is ∙ more) (still_bound l.server t (event ∷ []) is) (brings_none past new l.server after s.brought) (brings_grows past new l.server after 0 s.brought) h)
phase_on table past new l (Decided (ToGroup group) octets) state after js s h =
    let event = Decided (ToGroup group) octets in
    let t = with_event l.server after event state in
    let is = saw l.server event in
    let b = last_bind table.id s.group (seen l.server.events) event js (subst (λ (x : List Event). Whole table.id s.group x js) is s.whole) refl in
    let p = bind_pdu_of table past new l.server after s.group l.server.waiting (ToGroup group) octets refl s.means.1 b.0 in
    subst (λ (d : List ℕ). Phase (served l t (l.down ++ d)) new js) (sym (append-nil octets)) (phase_binds l past new js t octets p.0 p.1 b.1 (seen l.server.events, event, [], is, refl) h)
phase_on table past new l (Decided (RefuseGroup reason) octets) state after js s h =
    let event = Decided (RefuseGroup reason) octets in
    let t = with_event l.server after event state in
    let is = saw l.server event in
    let b = last_bind table.id s.group (seen l.server.events) event js (subst (λ (x : List Event). Whole table.id s.group x js) is s.whole) refl in
    let p = bind_pdu_of table past new l.server after s.group l.server.waiting (RefuseGroup reason) octets refl s.means.1 b.0 in
    subst (λ (d : List ℕ). Phase (served l t (l.down ++ d)) new js) (sym (append-nil octets)) (phase_binds l past new js t octets p.0 p.1 b.1 (seen l.server.events, event, [], is, refl) h)

-- a request that comes is the one asked in its place
its_call : (table : TableForm) (group : ℕ) (t : ServerEnd) (event : Event) (j : Joined) (iface : ℕ) (js : List Joined) → event ≡ Did (acts.Call j iface) → Whole table.id group (seen t.events) js → Whole table.id group (seen (t.events ++ event ∷ [])) js
    → length t.numbers ≡ done t.events → slice_get js (length t.numbers) ≡ Some j
its_call table group t event j iface js is w0 w count =
    last_called table.id group (length t.numbers) (seen t.events) j iface js w0
    (subst (λ (x : List Event). Whole table.id group x js) (saw t (Did (acts.Call j iface))) (subst (λ (e : Event). Whole table.id group (seen (t.events ++ e ∷ [])) js) is w))
    (done_seen t.events ∙ sym count)

pub serves_true : (table : TableForm) (past new : List Entry) (l : Line) (event : Event) (state : ConnState) (after : ServerEnd) (up : List ℕ) → FitsSyntax table.id → length table.ops ≤ 2 ^ 16 → LineHolds table l → l.standing ≡ true
    → Happens l.server.state event state → Means (table ∷ []) past l.server event after new → AllEnds past → sent l.caller.events ≡ stream (l.server.events ++ event ∷ []) ++ up → TrueLine table past l
    → TrueLine table new (record l { up = up; server = record after { events = l.server.events ++ event ∷ []; state = state }; down = l.down ++ put (event ∷ []) }) × (is_clean event ≡ true)
serves_true table past new l event state after up fits few holds stands happens means ends ways h =
    let js = calls_in h.asked in
    let b = brings table past new l.server after event means in
    let served_on = one_more (conns.at_start (table.id ∷ [])) l.server.state state l.server.events event holds.served happens in
    let so = asked_so table l.caller.events l.caller.state h.asked holds.once h.begun in
    let w = done_so table l.caller.events l.caller.state h.asked (l.server.events ++ event ∷ []) state up holds.once fits few h.begun served_on ways in
    let w0 = done_so table l.caller.events l.caller.state h.asked l.server.events l.server.state l.up holds.once fits few h.begun holds.served (holds.ways stands) in
    let s : Step table past new l event state after js =
    record {
      group = holds.once.group;
      whole = w;
      before = w0;
      means = means;
      brought = b;
      ends = ends;
      fits = λ x j at. plain_at so.0 x j so.1.plain (subst (λ (y : List Ask). slice_get (calls_in y) x ≡ Some j) so.1.is at);
      rows = h.rows;
      numbers = holds.numbers;
      waits = h.waits;
    } in
    let p = phase_on table past new l event state after js s (h.phase stands) in
    let grows = brings_grows past new l.server after (does_in event) b in
    let n : Line = record l { up = up; server = record after { events = l.server.events ++ event ∷ []; state = state }; down = l.down ++ put (event ∷ []) } in (
      record {
        asked = h.asked;
        begun = h.begun;
        interface = h.interface;
        rows = h.rows;
        told = λ x r at. knows_on table past new l n x r r.fate (brings_more past new l.server after (does_in event) b) grows (h.told x r at);
        waits = waits_on table past new l.server after event (is_cleaned table holds.once.group l.server event js w) means h.waits;
        accepted = accepted_on table past new l.server after event js (is_cleaned table holds.once.group l.server event js w) grows means (λ j iface is. its_call table holds.once.group l.server event j iface js is w0 w holds.numbers) h.accepted;
        phase = λ stood. phase_up (served l (record after { events = l.server.events ++ event ∷ []; state = state }) (l.down ++ put (event ∷ []))) new js up p;
      },
      is_cleaned table holds.once.group l.server event js w,
    )
