-- Each call that ended did so by what its manager answered.
use Rattle.std.proofs.Common.{◌≡◌, ℕ, ◌≤◌, inl, inr, Bool, true, false, Option, Some, None, List, [], ◌∷◌, ◌++◌, length, refl, sym, ap, subst}
use Rattle.handle_model.specs.declared.entry.Asked.{Asked}
use Rattle.handle_model.specs.declared.entry.Outcome.{Outcome}
use Rattle.handle_model.specs.declared.entry.Said.{Said}
use Rattle.handle_model.specs.declared.entry.Said.TheVariants.{Out}
use Rattle.handle_model.specs.declared.entry.Entry.{Entry}
use Rattle.handle_model.specs.declared.entry.Entry.TheVariants.{Join, Accept, Take, Deny, Cancel, Orphan, End, Leave, Shut}
use Rattle.handle_model.specs.Journal as journals
use Rattle.handle_model.specs.History.{History}
use Rattle.pdu_stream.specs.Fragments.{most_stub}
use Rattle.pdu_stream.specs.declared.joined.Joined.{Joined}
use Rattle.ndr_value.specs.Values.{Msg}
use Rattle.ndr_table.specs.Tables.{TableForm}
use Rattle.ndr_model.specs.declared.way.Way.TheVariants.{Response}
use Rattle.ndr_model.specs.Written.{stub}
use Rattle.manager_api.specs.declared.answer.Kept.{Kept}
use Rattle.manager_api.specs.Answers.Ans.{AOut}
use Rattle.manager_api.specs.Calls.{Owes}
use Rattle.group_core.specs.Adds.{Adds}
use Rattle.group_core.specs.declared.answer.Cancelled.TheVariants as cancelled
use Rattle.group_core.specs.declared.answer.Orphaned.TheVariants as orphaned
use Rattle.group_core.specs.declared.answer.Rest.TheVariants as rest
use Rattle.conn_asks.specs.declared.events.Act.{Act}
use Rattle.conn_asks.specs.declared.events.Act.TheVariants as acts
use Rattle.conn_histories.specs.Histories.{Decision, Event}
use Rattle.conn_histories.specs.Histories.Event.{Came, Paused, Did, Decided}
use Rattle.conn_histories.specs.Histories.Decision.{ToGroup, RefuseGroup, Reply}
use Rattle.conn_histories.specs.Requests.{IsAsked}
use Rattle.conn_histories.specs.Ends.{outcomes_of, with_wires, wires_at}
use Rattle.world_laws.specs.Moves.{Move}
use Rattle.world_laws.specs.Moves.{Move as moves}
use Rattle.world_laws.specs.Journals.{home, journal, joined, Enters, Leaves, IsAccepted, IsCancelled, IsOrphaned}
use Rattle.world_laws.specs.Ends.{Waiting, ServerEnd, Line}
use Rattle.world_laws.specs.Ends.{Waiting as waiting}
use Rattle.world_laws.specs.Serving.{OfCall, CancelsMarked, Requests, ActMeans, Decides, Means, ServerGoesBy}
use Rattle.world_laws.specs.Calling.{IfBroken, LosesLine}
use Rattle.world_laws.specs.Worlds.{World, empty, entered, Ends, LosesAt, LosesAll, Arrives, Comes, GoesOnFor, Tries, Plays, PlaysAll, Played}
use Rattle.world_laws.specs.Worlds.GoesOnFor.{answered, unheard}
use Rattle.world_laws.specs.Worlds.Tries.{taken, denied}
use Rattle.world_laws.proofs.Serving.{of_member}

-- the call's handles became what its manager said of each, and its message went out with their wires
pub record IsFinished (table : TableForm) (older : List Entry) (k : ℕ) (results : List Outcome) (said : Said) : Type 0 where
  pub asked : Asked
  pub asks : journals.asked (journal older) k ≡ Some asked
  pub message : Msg
  pub is : IsAsked (table ∷ []) asked.iface asked.op asked.order asked.stub message
  pub answer : Msg
  pub kepts : List Kept
  pub owes : Owes table asked.op message (AOut answer kepts)
  pub results_are : results ≡ outcomes_of asked.slots kepts
  pub octets : List ℕ
  pub octets_are : octets ≡ stub table.types is.operation Response asked.order (Some message) (with_wires answer (wires_at home asked.slots results))
  pub short : length octets ≤ most_stub
  pub said_is : said ≡ Out octets

abbrev pub AllFinished : TableForm → List Entry → Type 0
AllFinished table [] = Unit {0}
AllFinished table (End k results said ∷ past) = IsFinished table past k results said × AllFinished table past
AllFinished table (_ ∷ past) = AllFinished table past

-- an End of the journal
pub finished_at : (table : TableForm) (newer older : List Entry) (k : ℕ) (results : List Outcome) (said : Said) → AllFinished table (newer ++ End k results said ∷ older) → IsFinished table older k results said
finished_at table [] older k results said h = h.0
finished_at table (End n rs s ∷ newer) older k results said h = finished_at table newer older k results said h.1
finished_at table (Accept n b ∷ newer) older k results said h = finished_at table newer older k results said h
finished_at table (Join c ∷ newer) older k results said h = finished_at table newer older k results said h
finished_at table (Take n cookies ∷ newer) older k results said h = finished_at table newer older k results said h
finished_at table (Deny n slot ∷ newer) older k results said h = finished_at table newer older k results said h
finished_at table (Cancel n ∷ newer) older k results said h = finished_at table newer older k results said h
finished_at table (Orphan n ∷ newer) older k results said h = finished_at table newer older k results said h
finished_at table (Leave c ∷ newer) older k results said h = finished_at table newer older k results said h
finished_at table (Shut items ∷ newer) older k results said h = finished_at table newer older k results said h

-- ---- what a group enters

with_added : (table : TableForm) (past new entries : List Entry) → Adds (journal past) entries (journal new) → AllFinished table (entries ++ past) → AllFinished table new
with_added table past new entries adds h = subst (λ (x : List Entry). AllFinished table x) (sym (ap (λ (j : History). j.past) adds)) h

enters : (table : TableForm) (past new : List Entry) (e : Entry) → AllFinished table (e ∷ past) → Enters past e new → AllFinished table new
enters table past new e h (rest.Stays, (due, adds)) = with_added table past new (e ∷ []) adds h
enters table past new e h (rest.Shut items, (due, are, adds)) = with_added table past new (Shut items ∷ e ∷ []) adds h

leaves : (table : TableForm) (past new : List Entry) (c : Option ℕ) → Leaves c past new → AllFinished table past → AllFinished table new
leaves table past new None is h = subst (λ (x : List Entry). AllFinished table x) (sym is) h
leaves table past new (Some c) enters_ h = enters table past new (Leave c) h enters_

cancels : (table : TableForm) (past new : List Entry) (k : ℕ) → IsCancelled past k new → AllFinished table past → AllFinished table new
cancels table past new k (cancelled.Ended, (waits, adds)) h = with_added table past new (Cancel k ∷ []) adds h
cancels table past new k (cancelled.Flagged, (waits, adds)) h = with_added table past new (Cancel k ∷ []) adds h
cancels table past new k (cancelled.Late, (waits, runs, adds)) h = with_added table past new [] adds h

orphans : (table : TableForm) (past new : List Entry) (k : ℕ) → IsOrphaned past k new → AllFinished table past → AllFinished table new
orphans table past new k (orphaned.Dropped, (waits, adds)) h = with_added table past new (Orphan k ∷ []) adds h
orphans table past new k (orphaned.Running, (waits, adds)) h = with_added table past new (Orphan k ∷ []) adds h
orphans table past new k (orphaned.Late, (waits, runs, adds)) h = with_added table past new [] adds h

accepts : (table : TableForm) (past new : List Entry) (a : Asked) (k : ℕ) → IsAccepted past a k new → AllFinished table past → AllFinished table new
accepts table past new a k (free, is, adds) h = with_added table past new (Accept k _ ∷ []) adds h

-- ---- what the server does on a connection

same : (table : TableForm) (past new : List Entry) → new ≡ past → AllFinished table past → AllFinished table new
same table past new is h = subst (λ (x : List Entry). AllFinished table x) (sym is) h

marks : (cancel : Bool) (table : TableForm) (past new : List Entry) (k : ℕ) → CancelsMarked cancel past k new → AllFinished table past → AllFinished table new
marks true table past new k m h = cancels table past new k m h
marks false table past new k m h = same table past new m h

of_call : (o : Waiting) (P : ℕ → Type 0) → OfCall o P → (k : ℕ) × P k
of_call waiting.Nothing P h = absurd h
of_call (waiting.Bind asked) P h = absurd h
of_call (waiting.Refused status) P h = absurd h
of_call (waiting.Call k) P h = (k, h)

requests : (table : TableForm) (past new : List Entry) (s t : ServerEnd) (j : Joined) (iface c : ℕ) → Requests (table ∷ []) past s j iface c t new → AllFinished table past → AllFinished table new
requests table past new s t j iface c (inl (status, refuses, is, none)) h = same table past new none h
requests table past new s t j iface c (inr (k, a, is)) h = marks j.cancel table a.accepted new k a.marked (accepts table past a.accepted _ k a.accepts h)

acts_mean : (table : TableForm) (past new : List Entry) (s t : ServerEnd) (act : Act) → ActMeans (table ∷ []) past s act t new → AllFinished table past → AllFinished table new
acts_mean table past new s t (acts.Answer octets) m h = same table past new m.1 h
acts_mean table past new s t (acts.Group asked) m h = same table past new m.1 h
acts_mean table past new s t (acts.Call j iface) m h = let (c, r) = of_member s.member _ m in requests table past new s t j iface c r h
acts_mean table past new s t (acts.Cancel id) m h = let (k, c) = of_call s.waiting (λ k. IsCancelled past k new) m.1 in cancels table past new k c h
acts_mean table past new s t (acts.Orphan id) m h = let (k, c) = of_call s.waiting (λ k. IsOrphaned past k new) m.1 in orphans table past new k c h
acts_mean table past new s t (acts.Close octets why) m h = leaves table past new s.member m.1 h

decides : (table : TableForm) (past new : List Entry) (s t : ServerEnd) (w : Waiting) (decision : Decision) → Decides (table ∷ []) past s w decision t new → AllFinished table past → AllFinished table new
decides table past new s t waiting.Nothing decision d h = absurd d
decides table past new s t (waiting.Bind asked) (ToGroup group) d h = same table (joined past) new d.3 h
decides table past new s t (waiting.Bind asked) (RefuseGroup reason) d h = same table past new d.2 h
decides table past new s t (waiting.Bind asked) (Reply said executed) d h = absurd d
decides table past new s t (waiting.Refused status) decision d h = same table past new d.1 h
decides table past new s t (waiting.Call k) decision d h = same table past new d.1 h

means : (table : TableForm) (past new : List Entry) (s t : ServerEnd) (event : Event) → Means (table ∷ []) past s event t new → AllFinished table past → AllFinished table new
means table past new s t (Came octets) m h = same table past new m.1 h
means table past new s t Paused m h = same table past new m.2 h
means table past new s t (Did act) m h = acts_mean table past new s t act m.1 h
means table past new s t (Decided decision octets) m h = decides table past new s t s.waiting decision m.1 h

goes_by : (events : List Event) (table : TableForm) (l m : Line) (past new : List Entry) → ServerGoesBy (table ∷ []) l past events m new → AllFinished table past → AllFinished table new
goes_by [] table l m past new d h = means table past new l.server d.after Paused d.means h
goes_by (Did act ∷ more) table l m past new (between, next, d, later) h = goes_by more table between m next new later (means table past next l.server d.after (Did act) d.means h)
goes_by (Decided decision octets ∷ more) table l m past new (between, next, d, later) h = goes_by more table between m next new later (means table past next l.server d.after (Decided decision octets) d.means h)
goes_by (Came octets ∷ more) table l m past new d h = absurd d
goes_by (Paused ∷ more) table l m past new d h = absurd d

-- ---- moves

abbrev Done : TableForm → World → Type 0
Done table w = AllFinished table w.past

loses : (table : TableForm) (w v : World) (c : ℕ) → LosesAt w c v → Done table w → Done table v
loses table w v c (i, l, at, named, stands, (m, past, (is, left), after)) h = subst (λ (x : World). Done table x) (sym after) (leaves table w.past past l.server.member left h)

loses_all : (names : List ℕ) (table : TableForm) (w v : World) → LosesAll w names v → Done table w → Done table v
loses_all [] table w v (is, none) h = subst (λ (x : World). Done table x) (sym is) h
loses_all (c ∷ cs) table w v (least, (u, first, later)) h = loses_all cs table u v later (loses table w u c first h)

arrives : (table : TableForm) (w v : World) (n i : ℕ) (l : Line) → Arrives table w n i l v → Done table w → Done table v
arrives table w v n i l a h =
    subst (λ (x : World). Done table x) (sym a.after) (goes_by a.goes_on.0 table a.came a.line a.then_ a.past a.goes_on.1 (means table w.past a.then_ l.server a.comes.after (Came a.front) a.comes.means h))

comes : (table : TableForm) (w v : World) (n i : ℕ) (l : Line) → Comes table w n i l v → Done table w → Done table v
comes table w v n i l a h = subst (λ (x : World). Done table x) (sym a.after) (by a.broken a.is_line)
  where
    by : (b : Bool) → IfBroken b (LosesLine (record l { caller = a.caller; down = a.left }) w.past a.line a.past) ((a.line ≡ record l { caller = a.caller; down = a.left }) × (a.past ≡ w.past)) → AllFinished table a.past
    by true (is, left) = leaves table w.past a.past l.server.member left h
    by false (is, none) = same table w.past a.past none h

goes_on_for : (table : TableForm) (k : ℕ) (w v : World) → GoesOnFor table k w v → Done table w → Done table v
goes_on_for table k w v (answered i l m past at stands waits goes after) h = subst (λ (x : World). Done table x) (sym after) (goes_by goes.0 table l m w.past past goes.1 h)
goes_on_for table k w v (unheard none is) h = subst (λ (x : World). Done table x) (sym is) h

tries : (table : TableForm) (w v : World) (k : ℕ) → Tries table w k v → Done table w → Done table v
tries table w v k (taken row serial past takes is) h = subst (λ (x : World). Done table x) (sym is) (with_added table w.past past (Take k _ ∷ []) takes.5 h)
tries table w v k (denied slot past takes goes) h = goes_on_for table k (entered w past) v goes (with_added table w.past past (Deny k slot ∷ []) takes.3 h)

ends : (table : TableForm) (past new : List Entry) (k : ℕ) (kepts : List Kept) (m : Msg) → Ends table past k kepts m new → AllFinished table past → AllFinished table new
ends table past new k kepts m e h = enters table past new (End k e.results (Out e.octets))
    (record { asked = e.asked; asks = e.asks; message = e.message; is = e.is; answer = m; kepts = kepts; owes = e.owes; results_are = e.results_are; octets = e.octets; octets_are = e.octets_are; short = e.short; said_is = refl }, h) e.enters

plays : (table : TableForm) (move : Move) (w v : World) → Plays table w move v → Done table w → Done table v
plays table (moves.Open c group) w v o h = subst (λ (x : World). Done table x) (sym o.after) h
plays table (moves.Start c op m) w v (i, l, at, named, stands, s) h = subst (λ (x : World). Done table x) (sym s.after) h
plays table (moves.ToServer c n) w v (i, l, at, named, stands, a) h = arrives table w v n i l a h
plays table (moves.ToCaller c n) w v (i, l, at, named, stands, a) h = comes table w v n i l a h
plays table (moves.Cancel c) w v (i, l, at, named, stands, s) h = subst (λ (x : World). Done table x) (sym s.after) h
plays table (moves.Lose c) w v p h = loses table w v c p h
plays table moves.Restart w v (names, p) h = loses_all names table w v p h
plays table (moves.Take k) w v p h = tries table w v k p h
plays table (moves.Finish k kepts m) w v (past, e, goes) h = goes_on_for table k (entered w past) v goes (ends table w.past past k kepts m e h)

plays_all : (played : List Move) (table : TableForm) (w v : World) → PlaysAll table w played v → Done table w → Done table v
plays_all [] table w v is h = subst (λ (x : World). Done table x) (sym is) h
plays_all (move ∷ more) table w v (u, first, later) h = plays_all more table u v later (plays table move w u first h)

pub all_finished : (table : TableForm) (played : List Move) (w : World) → Played table played w → AllFinished table w.past
all_finished table played w p = plays_all played table empty w p tt
