-- Which calls an event of a connection marks as orphaned: its own alone. And what it makes the journals grow by.
use Rattle.std.proofs.Common.{◌≡◌, ◌≢◌, ℕ, ◌-◌, ◌≤◌, ◌==◌, Bool, true, false, ◌||◌, Option, Some, None, Ok, List, [], ◌∷◌, ◌++◌, get_or, slice_set, refl, sym, ap, subst, ◌∙◌, ◌⊎◌, inl, inr, arith}
use Rattle.std.proofs.lemmas.Bool.Decides.{eqb_tells}
use Rattle.handle_model.specs.declared.entry.Home.{Home}
use Rattle.handle_model.specs.declared.entry.Asked.{Asked}
use Rattle.handle_model.specs.declared.entry.Outcome.{Outcome}
use Rattle.handle_model.specs.declared.entry.Said.{Said}
use Rattle.handle_model.specs.declared.entry.Entry.{Entry}
use Rattle.handle_model.specs.declared.entry.Entry.TheVariants.{Join, Accept, Take, Deny, Cancel, Orphan, End, Leave, Shut}
use Rattle.handle_model.specs.History.{History}
use Rattle.handle_model.specs.Journal.{is_orphaned, cookies_for, slots}
use Rattle.pdu_stream.specs.declared.joined.Joined.{Joined}
use Rattle.conn_asks.specs.declared.events.Act.{Act}
use Rattle.conn_asks.specs.declared.events.Act.TheVariants as acts
use Rattle.conn_asks.specs.States.{ConnState}
use Rattle.conn_histories.specs.Histories.{Decision, Event}
use Rattle.conn_histories.specs.Histories.Event.{Came, Paused, Did, Decided}
use Rattle.conn_histories.specs.Entries.{asked_as}
use Rattle.conn_histories.specs.Tales.{whole}
use Rattle.group_core.specs.declared.answer.Taking.{Taking}
use Rattle.group_core.specs.declared.answer.Taking.TheVariants as taking
use Rattle.group_core.specs.declared.answer.Cancelled.{Cancelled}
use Rattle.group_core.specs.declared.answer.Cancelled.TheVariants as cancelled
use Rattle.group_core.specs.declared.answer.Orphaned.{Orphaned}
use Rattle.group_core.specs.declared.answer.Orphaned.TheVariants as orphaned
use Rattle.group_core.specs.declared.answer.Rest.{Rest}
use Rattle.group_core.specs.declared.answer.Rest.TheVariants as rest
use Rattle.group_core.specs.Adds.{Adds}
use Rattle.group_core.specs.Calls.{Accepts, Takes, Cancels, Orphans, numbered}
use Rattle.group_core.specs.Conns.{Settles}
use Rattle.replay_world.specs.declared.peer.Member.{Member}
use Rattle.replay_world.specs.declared.peer.Unanswered.{Unanswered}
use Rattle.replay_world.specs.declared.peer.Unanswered.TheVariants.{Nothing, Bind, Refused, Call}
use Rattle.replay_world.specs.Services.{Service}
use Rattle.replay_world.specs.Worlds.{Peer, World, peer_at, home_of, past_of, journal, with_past}
use Rattle.replay_world.specs.Groups.{GoesOn, AcceptsIn, CancelsIn, OrphansIn, CancelsMarked, SettlesIn}
use Rattle.replay_world.specs.Events.{OfCall, LeavesIts, request, Requests, ActMeans}
use Rattle.replay_world.proofs.Pasts.{at_set}

-- no other call than these is orphaned
abbrev pub Unmarked : (ℕ → Type 0) → List Entry → List Entry → Type 0
Unmarked Own old new = (home home' : Home) (k : ℕ) → (Own k → ⊥) → is_orphaned (whole home' new) k ≡ is_orphaned (whole home old) k

abbrev pub none_own : ℕ → Type 0
none_own k = ⊥

by_adds : (old new : History) (es : List Entry) (Own : ℕ → Type 0) → Adds old es new → Unmarked Own old.past (es ++ old.past) → Unmarked Own old.past new.past
by_adds old new es Own adds q home home' k own = ap (λ (z : History). is_orphaned (whole home' z.past) k) adds ∙ q home home' k own

pub accepts_mark : (Own : ℕ → Type 0) (old new : History) (a : Asked) (k : ℕ) → Accepts old a (Ok k) new → Unmarked Own old.past new.past
accepts_mark Own old new a k t = by_adds old new (Accept k (numbered old a) ∷ []) Own t.2 (λ h i m own. refl)

pub takes_mark : (Own : ℕ → Type 0) (old new : History) (k : ℕ) (r : Taking) → Takes old k r new → Unmarked Own old.past new.past
takes_mark Own old new k (taking.Run row serial) t = by_adds old new (Take k (cookies_for old (slots old k)) ∷ []) Own t.5 (λ h i m own. refl)
takes_mark Own old new k (taking.Denied slot) t = by_adds old new (Deny k slot ∷ []) Own t.3 (λ h i m own. refl)
takes_mark Own old new k taking.Dropped t = by_adds old new [] Own t.1 (λ h i m own. refl)
takes_mark Own old new k (taking.Wait other) t = by_adds old new [] Own t.2 (λ h i m own. refl)

pub cancels_mark : (Own : ℕ → Type 0) (old new : History) (k : ℕ) (r : Cancelled) → Cancels old k r new → Unmarked Own old.past new.past
cancels_mark Own old new k cancelled.Ended t = by_adds old new (Cancel k ∷ []) Own t.1 (λ h i m own. refl)
cancels_mark Own old new k cancelled.Flagged t = by_adds old new (Cancel k ∷ []) Own t.1 (λ h i m own. refl)
cancels_mark Own old new k cancelled.Late t = by_adds old new [] Own t.2 (λ h i m own. refl)

other_call : (k m : ℕ) (b : Bool) → (m ≡ k → ⊥) → ((k == m) || b) ≡ b
other_call k m b d = elim (eqb_tells k m) [ inl e ↦ absurd (d (sym e.1)) | inr e ↦ rw e.0 refl ]

one_orphan : (k : ℕ) (past : List Entry) → Unmarked (λ m. m ≡ k) past (Orphan k ∷ past)
one_orphan k past home home' m d = other_call k m (is_orphaned (whole home' past) m) d

pub orphans_mark : (old new : History) (k : ℕ) (r : Orphaned) → Orphans old k r new → Unmarked (λ m. m ≡ k) old.past new.past
orphans_mark old new k orphaned.Dropped t = by_adds old new (Orphan k ∷ []) (λ m. m ≡ k) t.1 (one_orphan k old.past)
orphans_mark old new k orphaned.Running t = by_adds old new (Orphan k ∷ []) (λ m. m ≡ k) t.1 (one_orphan k old.past)
orphans_mark old new k orphaned.Late t = by_adds old new [] (λ m. m ≡ k) t.2 (λ h i m own. refl)

pub ends_mark : (Own : ℕ → Type 0) (old new : History) (k : ℕ) (results : List Outcome) (said : Said) (r : Rest) → Settles old (End k results said) r new → Unmarked Own old.past new.past
ends_mark Own old new k results said rest.Stays t = by_adds old new (End k results said ∷ []) Own t.1 (λ h i m own. refl)
ends_mark Own old new k results said (rest.Shut items) t = by_adds old new (Shut items ∷ End k results said ∷ []) Own t.2 (λ h i m own. refl)

pub leaves_mark : (Own : ℕ → Type 0) (old new : History) (n : ℕ) (r : Rest) → Settles old (Leave n) r new → Unmarked Own old.past new.past
leaves_mark Own old new n rest.Stays t = by_adds old new (Leave n ∷ []) Own t.1 (λ h i m own. refl)
leaves_mark Own old new n (rest.Shut items) t = by_adds old new (Shut items ∷ Leave n ∷ []) Own t.2 (λ h i m own. refl)

-- ---- worlds

-- of each group no other call than these
abbrev pub Marks : {S : Type 0} → (ℕ → ℕ → Type 0) → World S → World S → Type 0
Marks Own w v = (h k : ℕ) → (Own h k → ⊥) → is_orphaned (journal v h) k ≡ is_orphaned (journal w h) k

pub marks_none : {S : Type 0} (Own : ℕ → ℕ → Type 0) (w : World S) → Marks Own w w
marks_none Own w h k own = refl

pub marks_twice : {S : Type 0} (Own : ℕ → ℕ → Type 0) (w u v : World S) → Marks Own w u → Marks Own u v → Marks Own w v
marks_twice Own w u v a b h k own = b h k own ∙ a h k own

set_marks : {S : Type 0} (w v : World S) (Own : ℕ → ℕ → Type 0) (g : ℕ) (past : List Entry) → Unmarked (Own g) (past_of w g) past → ((h k : ℕ) → g - 1 ≡ h - 1 → Own g k → Own h k)
    → v.groups ≡ slice_set w.groups (g - 1) past → Marks Own w v
set_marks w v Own g past q same groups h k own =
    let now : past_of v h ≡ get_or (slice_set w.groups (g - 1) past) (h - 1) [] = ap (λ (l : List (List Entry)). get_or l (h - 1) []) groups in
    elim (at_set w.groups (g - 1) (h - 1) past) [
      | inl e ↦ ap (λ (l : List Entry). is_orphaned (whole (home_of v h) l) k) (now ∙ e)
      | inr e ↦
          ap (λ (l : List Entry). is_orphaned (whole (home_of v h) l) k) (now ∙ e.1) ∙ (q (home_of w g) (home_of v h) k (λ o. own (same h k e.0 o))
          ∙ ap (λ (i : ℕ). is_orphaned (whole (home_of w h) (get_or w.groups i [])) k) e.0)
    ]

-- where the same group of another number has the same own calls
abbrev pub Alike : (ℕ → ℕ → Type 0) → Type 0
Alike Own = (g h k : ℕ) → g - 1 ≡ h - 1 → Own g k → Own h k

going_marks : {S : Type 0} (Own : ℕ → ℕ → Type 0) (Says : History → History → Type 0) (w v : World S) (g : ℕ) → Alike Own → ((x y : History) → Says x y → Unmarked (Own g) x.past y.past) → GoesOn Says w g v
    → Marks Own w v
going_marks Own Says w v g alike marks t =
    set_marks w v Own g t.0 (marks (journal w g) (whole (home_of w g) t.0) t.1) (λ h k e o. alike g h k e o) (ap (λ (z : World _). z.groups) t.2)

pub taking_marks : {S : Type 0} (Own : ℕ → ℕ → Type 0) (w v : World S) (g k : ℕ) (r : Taking) → Alike Own → GoesOn (λ old new. Takes old k r new) w g v → Marks Own w v
taking_marks Own w v g k r alike t = going_marks Own (λ old new. Takes old k r new) w v g alike (λ x y s. takes_mark (Own g) x y k r s) t

cancelling_marks : {S : Type 0} (Own : ℕ → ℕ → Type 0) (w v : World S) (g k : ℕ) → Alike Own → CancelsIn w g k v → Marks Own w v
cancelling_marks Own w v g k alike t = going_marks Own (λ old new. (answer : Cancelled) × Cancels old k answer new) w v g alike (λ x y s. cancels_mark (Own g) x y k s.0 s.1) t

marked_marks : {S : Type 0} (b : Bool) (Own : ℕ → ℕ → Type 0) (w v : World S) (g k : ℕ) → Alike Own → CancelsMarked b w g k v → Marks Own w v
marked_marks true Own w v g k alike t = cancelling_marks Own w v g k alike t
marked_marks false Own w v g k alike t = subst (λ (z : World _). Marks Own w z) (sym t) (marks_none Own w)

accepting_marks : {S : Type 0} (Own : ℕ → ℕ → Type 0) (w v : World S) (g k : ℕ) (a : Asked) → Alike Own → AcceptsIn w g a k v → Marks Own w v
accepting_marks Own w v g k a alike t = going_marks Own (λ old new. Accepts old a (Ok k) new) w v g alike (λ x y s. accepts_mark (Own g) x y a k s) t

weaker : (old new : List Entry) (One Own : ℕ → Type 0) → ((k : ℕ) → One k → Own k) → Unmarked One old new → Unmarked Own old new
weaker old new One Own more q home home' k own = q home home' k (λ o. own (more k o))

orphaning_marks : {S : Type 0} (Own : ℕ → ℕ → Type 0) (w v : World S) (g k : ℕ) → Alike Own → Own g k → OrphansIn w g k v → Marks Own w v
orphaning_marks Own w v g k alike own t =
    going_marks Own (λ old new. (answer : Orphaned) × Orphans old k answer new) w v g alike
    (λ x y s. weaker x.past y.past (λ m. m ≡ k) (Own g) (λ m e. subst (λ (n : ℕ). Own g n) (sym e) own) (orphans_mark x y k s.0 s.1)) t

pub ending_marks : (service : Service) (Own : ℕ → ℕ → Type 0) (w v : World service.State) (g k : ℕ) (results : List Outcome) (said : Said) → Alike Own → SettlesIn service w g (End k results said) v → Marks Own w v
ending_marks service Own w v g k results said alike t =
    set_marks w v Own g t.past (ends_mark (Own g) (journal w g) (whole (home_of w g) t.past) k results said t.rest t.settles) (λ h n e o. alike g h n e o)
    (ap (λ (z : World service.State). z.groups) t.after)

pub leaving_marks : (service : Service) (Own : ℕ → ℕ → Type 0) (w v : World service.State) (g n : ℕ) → Alike Own → SettlesIn service w g (Leave n) v → Marks Own w v
leaving_marks service Own w v g n alike t =
    set_marks w v Own g t.past (leaves_mark (Own g) (journal w g) (whole (home_of w g) t.past) n t.rest t.settles) (λ h k e o. alike g h k e o)
    (ap (λ (z : World service.State). z.groups) t.after)
