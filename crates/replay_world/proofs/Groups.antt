-- What comes into a group's journal is one thing, and so is what the desks keep then.
use Rattle.std.proofs.Common.{◌≡◌, ℕ, Bool, true, false, Option, Some, None, Ok, List, [], ◌∷◌, ◌++◌, map, refl, sym, ap, subst, ◌∙◌}
use Rattle.handle_model.specs.declared.entry.Slot.{Slot}
use Rattle.handle_model.specs.declared.entry.DueItem.{DueItem}
use Rattle.handle_model.specs.declared.entry.Entry.{Entry}
use Rattle.handle_model.specs.declared.entry.Entry.TheVariants.{Accept, Deny, Shut}
use Rattle.handle_model.specs.Slots.{with_serial}
use Rattle.handle_model.specs.History.{History, since, with_entry}
use Rattle.handle_model.specs.Journal.{waits, blocker, fault, opened, due, filled}
use Rattle.conn_histories.specs.declared.turn.Request.{Request}
use Rattle.conn_histories.specs.Entries.{asked_as}
use Rattle.conn_histories.specs.Tales.{whole}
use Rattle.group_core.specs.declared.answer.Taking.{Taking}
use Rattle.group_core.specs.declared.answer.Taking.TheVariants as taking
use Rattle.group_core.specs.declared.answer.Cancelled.{Cancelled}
use Rattle.group_core.specs.declared.answer.Cancelled.TheVariants as cancelled
use Rattle.group_core.specs.declared.answer.Orphaned.{Orphaned}
use Rattle.group_core.specs.declared.answer.Orphaned.TheVariants as orphaned
use Rattle.group_core.specs.declared.answer.Rest.{Rest}
use Rattle.group_core.specs.declared.answer.Rest.TheVariants as rest
use Rattle.group_core.specs.Adds.{Adds}
use Rattle.group_core.specs.Calls.{Accepts, Takes, Cancels, Orphans, is_cancellable, is_orphanable}
use Rattle.group_core.specs.Conns.{Settles}
use Rattle.replay_world.specs.Services.{Service, IsDetermined, AreRunDown, RunsDown}
use Rattle.replay_world.specs.Worlds.{World, home_of, journal, with_past}
use Rattle.replay_world.specs.Groups.{GoesOn, CancelsIn, OrphansIn, CancelsMarked, SettlesIn}
use Rattle.replay_world.proofs.Basics.{some_is, true_false}
use Rattle.replay_world.proofs.Requests.{same_filled}

adds_alike : (old x y : History) (es fs : List Entry) → es ≡ fs → Adds old es x → Adds old fs y → x ≡ y
adds_alike old x y es fs e h k = h ∙ ap (λ (q : List Entry). since old.home old.base (q ++ old.past)) e ∙ sym k

-- ---- calls

pub one_accept : (old x y : History) (c : ℕ) (r : Request) (a b : List Slot) (k m : ℕ) → map (with_serial 0) a ≡ map (with_serial 0) b
    → Accepts old (asked_as c r a) (Ok k) x → Accepts old (asked_as c r b) (Ok m) y → (k ≡ m) × (x ≡ y)
one_accept old x y c r a b k m same h l =
    let number : k ≡ m = h.1 ∙ sym l.1 in
    let slots_are = same_filled (opened old) a b same in
    let entry : Accept k (asked_as c r (filled (opened old) a)) ∷ [] ≡ Accept m (asked_as c r (filled (opened old) b)) ∷ [] =
    λ i. Accept (number i) (asked_as c r (slots_are i)) ∷ [] in
    (number, adds_alike old x y (Accept k (asked_as c r (filled (opened old) a)) ∷ []) (Accept m (asked_as c r (filled (opened old) b)) ∷ []) entry h.2 l.2)

pub one_cancel : (old x y : History) (k : ℕ) (a b : Cancelled) → Cancels old k a x → Cancels old k b y → x ≡ y
one_cancel old x y k cancelled.Ended cancelled.Ended h l = h.1 ∙ sym l.1
one_cancel old x y k cancelled.Ended cancelled.Flagged h l = h.1 ∙ sym l.1
one_cancel old x y k cancelled.Ended cancelled.Late h l = absurd (true_false (waits old k) h.0 l.0)
one_cancel old x y k cancelled.Flagged cancelled.Ended h l = h.1 ∙ sym l.1
one_cancel old x y k cancelled.Flagged cancelled.Flagged h l = h.1 ∙ sym l.1
one_cancel old x y k cancelled.Flagged cancelled.Late h l = absurd (true_false (is_cancellable old k) h.0 l.1)
one_cancel old x y k cancelled.Late cancelled.Ended h l = absurd (true_false (waits old k) l.0 h.0)
one_cancel old x y k cancelled.Late cancelled.Flagged h l = absurd (true_false (is_cancellable old k) l.0 h.1)
one_cancel old x y k cancelled.Late cancelled.Late h l = h.2 ∙ sym l.2

pub one_orphan : (old x y : History) (k : ℕ) (a b : Orphaned) → Orphans old k a x → Orphans old k b y → x ≡ y
one_orphan old x y k orphaned.Dropped orphaned.Dropped h l = h.1 ∙ sym l.1
one_orphan old x y k orphaned.Dropped orphaned.Running h l = h.1 ∙ sym l.1
one_orphan old x y k orphaned.Dropped orphaned.Late h l = absurd (true_false (waits old k) h.0 l.0)
one_orphan old x y k orphaned.Running orphaned.Dropped h l = h.1 ∙ sym l.1
one_orphan old x y k orphaned.Running orphaned.Running h l = h.1 ∙ sym l.1
one_orphan old x y k orphaned.Running orphaned.Late h l = absurd (true_false (is_orphanable old k) h.0 l.1)
one_orphan old x y k orphaned.Late orphaned.Dropped h l = absurd (true_false (waits old k) l.0 h.0)
one_orphan old x y k orphaned.Late orphaned.Running h l = absurd (true_false (is_orphanable old k) l.0 h.1)
one_orphan old x y k orphaned.Late orphaned.Late h l = h.2 ∙ sym l.2

some_none : {A : Type 0} (o : Option A) (x : A) → o ≡ Some x → o ≡ None → ⊥
some_none o x e f = absurd (cc (e, f))

pub one_take : (old x y : History) (k : ℕ) (a b : Taking) → Takes old k a x → Takes old k b y → (a ≡ b) × (x ≡ y)
one_take old x y k (taking.Run row serial) (taking.Run row' serial') h l =
    let rows : row ≡ row' = h.3 ∙ sym l.3 in
    let serials : serial ≡ serial' = h.4 ∙ sym l.4 in
    ((λ i. taking.Run (rows i) (serials i)), h.5 ∙ sym l.5)
one_take old x y k (taking.Run row serial) (taking.Denied slot) h l = absurd (some_none (fault old k) slot l.2 h.2)
one_take old x y k (taking.Run row serial) taking.Dropped h l = absurd (true_false (waits old k) h.0 l.0)
one_take old x y k (taking.Run row serial) (taking.Wait m) h l = absurd (some_none (blocker old k) m l.1 h.1)
one_take old x y k (taking.Denied slot) (taking.Run row serial) h l = absurd (some_none (fault old k) slot h.2 l.2)
one_take old x y k (taking.Denied slot) (taking.Denied slot') h l =
    let one : slot ≡ slot' = some_is slot slot' (sym h.2 ∙ l.2) in
    ((λ i. taking.Denied (one i)), adds_alike old x y (Deny k slot ∷ []) (Deny k slot' ∷ []) (λ i. Deny k (one i) ∷ []) h.3 l.3)
one_take old x y k (taking.Denied slot) taking.Dropped h l = absurd (true_false (waits old k) h.0 l.0)
one_take old x y k (taking.Denied slot) (taking.Wait m) h l = absurd (some_none (blocker old k) m l.1 h.1)
one_take old x y k taking.Dropped (taking.Run row serial) h l = absurd (true_false (waits old k) l.0 h.0)
one_take old x y k taking.Dropped (taking.Denied slot) h l = absurd (true_false (waits old k) l.0 h.0)
one_take old x y k taking.Dropped taking.Dropped h l = (refl, h.1 ∙ sym l.1)
one_take old x y k taking.Dropped (taking.Wait m) h l = absurd (true_false (waits old k) l.0 h.0)
one_take old x y k (taking.Wait m) (taking.Run row serial) h l = absurd (some_none (blocker old k) m h.1 l.1)
one_take old x y k (taking.Wait m) (taking.Denied slot) h l = absurd (some_none (blocker old k) m h.1 l.1)
one_take old x y k (taking.Wait m) taking.Dropped h l = absurd (true_false (waits old k) h.0 l.0)
one_take old x y k (taking.Wait m) (taking.Wait m') h l =
    let one : m ≡ m' = some_is m m' (sym h.1 ∙ l.1) in
    ((λ i. taking.Wait (one i)), h.2 ∙ sym l.2)

-- ---- the end

pub one_settling : (old x y : History) (e : Entry) (a b : Rest) → Settles old e a x → Settles old e b y → (a ≡ b) × (x ≡ y)
one_settling old x y e rest.Stays rest.Stays h l = (refl, h.1 ∙ sym l.1)
one_settling old x y e rest.Stays (rest.Shut items) h l = absurd (true_false (due (with_entry old e)) l.0 h.0)
one_settling old x y e (rest.Shut items) rest.Stays h l = absurd (true_false (due (with_entry old e)) h.0 l.0)
one_settling old x y e (rest.Shut items) (rest.Shut items') h l =
    let one : items ≡ items' = h.1 ∙ sym l.1 in
    ((λ i. rest.Shut (one i)), adds_alike old x y (Shut items ∷ e ∷ []) (Shut items' ∷ e ∷ []) (λ i. Shut (one i) ∷ e ∷ []) h.2 l.2)

-- ---- in a world

pub one_going : {S : Type 0} (Says Tells : History → History → Type 0) (w v u : World S) (g : ℕ) → ((x y : History) → Says (journal w g) x → Tells (journal w g) y → x ≡ y)
    → GoesOn Says w g v → GoesOn Tells w g u → v ≡ u
one_going Says Tells w v u g same h l =
    let one = same (whole (home_of w g) h.0) (whole (home_of w g) l.0) h.1 l.1 in
    let past : h.0 ≡ l.0 = ap (λ (j : History). j.past) one in
    h.2 ∙ ap (with_past w g) past ∙ sym l.2

pub one_cancelled : {S : Type 0} (w v u : World S) (g k : ℕ) → CancelsIn w g k v → CancelsIn w g k u → v ≡ u
one_cancelled w v u g k h l =
    one_going (λ (old new : History). (answer : Cancelled) × Cancels old k answer new) (λ (old new : History). (answer : Cancelled) × Cancels old k answer new) w v u g
    (λ x y a b. one_cancel (journal w g) x y k a.0 b.0 a.1 b.1) h l

pub one_orphaned : {S : Type 0} (w v u : World S) (g k : ℕ) → OrphansIn w g k v → OrphansIn w g k u → v ≡ u
one_orphaned w v u g k h l =
    one_going (λ (old new : History). (answer : Orphaned) × Orphans old k answer new) (λ (old new : History). (answer : Orphaned) × Orphans old k answer new) w v u g
    (λ x y a b. one_orphan (journal w g) x y k a.0 b.0 a.1 b.1) h l

pub one_marked : {S : Type 0} (marked : Bool) (w v u : World S) (g k : ℕ) → CancelsMarked marked w g k v → CancelsMarked marked w g k u → v ≡ u
one_marked true w v u g k h l = one_cancelled w v u g k h l
one_marked false w v u g k h l = h ∙ sym l

module _ (service : Service) (determined : IsDetermined service) where
  pub one_down : (old x y : service.State) (items : List DueItem) → AreRunDown service old items x → AreRunDown service old items y → x ≡ y
  one_down old x y [] h l = h ∙ sym l
  one_down old x y (item ∷ items) h l =
      let one : h.0 ≡ l.0 = determined.downs old h.0 l.0 item h.1 l.1 in
      one_down l.0 x y items (subst (λ (s : service.State). AreRunDown service s items x) one h.2) l.2

  one_ending : (old x y : service.State) (a : Rest) → RunsDown service old a x → RunsDown service old a y → x ≡ y
  one_ending old x y rest.Stays h l = h ∙ sym l
  one_ending old x y (rest.Shut items) h l = one_down old x y items h l

  pub one_settled : (w v u : World service.State) (g : ℕ) (e : Entry) → SettlesIn service w g e v → SettlesIn service w g e u → v ≡ u
  one_settled w v u g e h l =
      let one = one_settling (journal w g) (whole (home_of w g) h.past) (whole (home_of w g) l.past) e h.rest l.rest h.settles l.settles in
      let past : h.past ≡ l.past = ap (λ (j : History). j.past) one.1 in
      let desks : h.desks ≡ l.desks = one_ending w.desks h.desks l.desks l.rest (subst (λ (x : Rest). RunsDown service w.desks x h.desks) one.0 h.runs_down) l.runs_down in
      h.after ∙ (λ i. record (with_past w g (past i)) { desks = desks i }) ∙ sym l.after
