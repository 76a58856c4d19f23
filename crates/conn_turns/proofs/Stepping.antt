-- How a connection's turns and entries go on with what its group says of its newest call.
use Rattle.std.proofs.Common.{◌≡◌, ◌==◌, ℕ, Bool, true, false, ◌&&◌, not, if◌then◌else◌, Option, Some, None, List, [], ◌∷◌, ◌++◌, refl, sym, ap, subst, ◌∙◌, inr}
use Rattle.std.specs.List.{list_any, AllByRecursion}
use Rattle.handle_model.specs.declared.entry.Home.{Home}
use Rattle.handle_model.specs.declared.entry.Slot.{Slot}
use Rattle.handle_model.specs.declared.entry.DueItem.{DueItem}
use Rattle.handle_model.specs.declared.entry.Asked.{Asked}
use Rattle.handle_model.specs.declared.entry.Outcome.{Outcome}
use Rattle.handle_model.specs.declared.entry.Said.{Said}
use Rattle.handle_model.specs.declared.entry.Entry.{Entry}
use Rattle.handle_model.specs.declared.entry.Entry.TheVariants.{Join, Accept, Take, Deny, Cancel, Orphan, End, Shut}
use Rattle.handle_model.specs.Entries.{is_shut}
use Rattle.handle_model.specs.History.{History}
use Rattle.pdu_stream.specs.declared.joined.Joined.{Joined}
use Rattle.conn_histories.specs.declared.turn.Off.{Off}
use Rattle.conn_histories.specs.declared.turn.Off.TheVariants as off
use Rattle.conn_histories.specs.declared.turn.Fate.{Fate}
use Rattle.conn_histories.specs.declared.turn.Request.{Request}
use Rattle.conn_histories.specs.declared.turn.Turn.{Turn}
use Rattle.conn_histories.specs.Stories.{Server}
use Rattle.conn_histories.specs.Tales.{whole}
use Rattle.conn_histories.specs.declared.turn.Fate.TheVariants.{Waiting, Denied, Cancelled, Orphaned, LeftWaiting, Running, LeftRunning, Ended, LeftEnded}
use Rattle.conn_histories.specs.declared.turn.Deed.TheVariants.{Accepted}
use Rattle.group_core.specs.declared.answer.Taking.{Taking}
use Rattle.group_core.specs.declared.answer.Taking.TheVariants as taking
use Rattle.group_core.specs.declared.answer.Cancelled.{Cancelled as CancelAnswer}
use Rattle.group_core.specs.declared.answer.Cancelled.TheVariants as cancelled
use Rattle.group_core.specs.declared.answer.Orphaned.{Orphaned as OrphanAnswer}
use Rattle.group_core.specs.declared.answer.Orphaned.TheVariants as orphaned
use Rattle.group_core.specs.Adds.{Adds}
use Rattle.group_core.specs.Calls.{Takes, Cancels, Orphans, is_cancellable, is_orphanable}
use Rattle.handle_model.specs.Journal.{Legal, waits, runs, is_cancelled, is_orphaned, slots, cookies_for}
use Rattle.conn_histories.specs.Entries.{is_cancel, is_orphan, asked_as, has_left, is_open, is_running, leave_behind, numbers_of, fate_entries}
use Rattle.conn_histories.specs.Stories.{MadeNoneDue, EndMeets, DeedIsDue, Made}
use Rattle.conn_histories.specs.Tales.{of_call}
use Rattle.conn_turns.proofs.TaleFacts.{same_number}
use Rattle.conn_turns.proofs.Staged.{is_waiting, Stage, stage, Marked, marked_running}
use Rattle.conn_turns.proofs.Making.{called, Entered, entered_more, made_entered, made_again, made_shut}
use Rattle.conn_turns.proofs.Whose.{is_by, AreBy}

pub true_is : (b : Bool) → b ≡ true → b ≡ false → ⊥
true_is b h i = absurd (cc (h, i))

pub past_is : (old new : History) (es : List Entry) → Adds old es new → new.past ≡ es ++ old.past
past_is old new es a = ap (λ (z : History). z.past) a

pub legal_so : (home : Home) (past past' : List Entry) → past' ≡ past → Legal (whole home past') → Legal (whole home past)
legal_so home past past' is l = subst (λ (p : List Entry). Legal (whole home p)) is l

pub no_behind : (c : ℕ) (gone left : Bool) → left ≡ gone → leave_behind c gone left ≡ []
no_behind c true left h = rw h refl
no_behind c false left h = refl

-- what an answer, what calls off, and an end make of a call
abbrev pub taken_fate : Taking → List (Option ℕ) → Fate → Fate
taken_fate (taking.Run row serial) cookies fate = Running cookies
taken_fate (taking.Denied slot) cookies fate = Denied slot
taken_fate _ cookies fate = fate

abbrev pub off_fate : Off → Fate → Fate
off_fate off.Cancel Waiting = Cancelled
off_fate off.Orphan Waiting = Orphaned
off_fate _ fate = fate

abbrev pub ended_fate : List Outcome → Said → Fate → Fate
ended_fate results said (Running cookies) = Ended (record { cookies = cookies; results = results; said = said })
ended_fate results said (LeftRunning cookies) = LeftEnded (record { cookies = cookies; results = results; said = said })
ended_fate results said fate = fate

-- the entries that came, in front of the connection's own before, and what the turn is then
pub record Onward (server : Server) (home : Home) (c : ℕ) (gone : Bool) (j : Joined) (iface k : ℕ) (ts : List Turn) (old new before : List Entry) (So : List Off → List Slot → Fate → Type 0) : Type 0 where
  pub es : List Entry
  pub is : new ≡ es ++ old
  pub by : AreBy c (Some k) es
  pub offs : List Off
  pub slots : List Slot
  pub fate : Fate
  pub own : List Entry
  pub grows : own ≡ es ++ before
  pub made : Made server home c new gone (called j iface offs (Accepted k slots fate) None ∷ ts) own
  pub so : So offs slots fate

module _ (server : Server) (home at : Home) (c : ℕ) (gone : Bool) (j : Joined) (iface k : ℕ) (ts : List Turn) where
  abbrev turn : List Off → List Slot → Fate → Turn
  turn offs slots fate = called j iface offs (Accepted k slots fate) None

  abbrev request : List Off → List Slot → Fate → Request
  request offs slots fate = record { joined = j; iface = iface; offs = offs; deed = Accepted k slots fate; answer = None }

  abbrev asked_so : List Off → List Slot → Asked
  asked_so offs slots = asked_as c (request offs slots Waiting) slots

  pub staged : (past : List Entry) (offs : List Off) (slots : List Slot) (fate : Fate) (own : List Entry) → has_left fate ≡ gone → Made server home c past gone (turn offs slots fate ∷ ts) own
      → Stage at past k (asked_so offs slots) fate
  staged past offs slots fate own left m =
      stage at k (asked_so offs slots) past offs fate
      (m.stand.stand.0 ∙ ap (λ l. l ++ fate_entries k (asked_so offs slots) offs fate ++ Join c ∷ []) (no_behind c gone (has_left fate) left))

  module _ (apart : AllByRecursion (λ m. (k == m) ≡ false) (numbers_of ts)) where
    -- an entry more, by which the call goes on
    pub further : (past : List Entry) (e : Entry) (offs offs' : List Off) (slots : List Slot) (fate fate' : Fate) (own : List Entry) → Legal (whole home (e ∷ past)) → of_call k e ≡ true
        → ((a : Asked) → (m : ℕ) → e ≡ Accept m a → ⊥)
        → fate_entries k (asked_so offs slots) offs' fate' ≡ e ∷ fate_entries k (asked_so offs slots) offs fate → has_left fate' ≡ has_left fate → (gone ≡ true → has_left fate' ≡ true)
        → DeedIsDue server home c (e ∷ past) ts (request offs' slots fate') (Accepted k slots fate') → MadeNoneDue home c (k ∷ numbers_of ts) (e ∷ past)
        → Made server home c past gone (turn offs slots fate ∷ ts) own → Made server home c (e ∷ past) gone (turn offs' slots fate' ∷ ts) (e ∷ own)
    further past e offs offs' slots fate fate' own legal it unasked es left gone_left due stays m =
        made_entered server home c past gone k e (request offs slots fate) (request offs' slots fate') ts own legal.0.before_shut
        (record { of_it = it; entries = es; number = refl; from = inr (record { same = refl; no_accept = unasked }); left_same = left })
        gone_left apart due stays m

    -- the call ends, but for whose Shut comes then
    pub ended_further : (past : List Entry) (results : List Outcome) (said : Said) (offs : List Off) (slots : List Slot) (fate fate' : Fate) (own : List Entry)
        → list_any is_shut past ≡ false → fate_entries k (asked_so offs slots) offs fate' ≡ End k results said ∷ fate_entries k (asked_so offs slots) offs fate → has_left fate' ≡ has_left fate → (gone ≡ true → has_left fate' ≡ true)
        → DeedIsDue server home c (End k results said ∷ past) ts (request offs slots fate') (Accepted k slots fate')
        → Made server home c past gone (turn offs slots fate ∷ ts) own → Entered server home c (End k results said ∷ past) gone (turn offs slots fate' ∷ ts) (End k results said ∷ own)
    ended_further past results said offs slots fate fate' own none es left gone_left due m =
        entered_more server home c past gone k (End k results said) (request offs slots fate) (request offs slots fate') ts own none
        (record { of_it = same_number k; entries = es; number = refl; from = inr (record { same = refl; no_accept = λ a n x. absurd cc }); left_same = left })
        gone_left apart due m

    pub none : (past past' : List Entry) (So : List Off → List Slot → Fate → Type 0) (offs : List Off) (slots : List Slot) (fate : Fate) (own : List Entry) → past' ≡ past → So offs slots fate
        → Made server home c past gone (turn offs slots fate ∷ ts) own → Onward server home c gone j iface k ts past past' own So
    none past past' So offs slots fate own is so m = record {
      es = [];
      is = is;
      by = tt;
      offs = offs;
      slots = slots;
      fate = fate;
      own = own;
      grows = refl;
      made = subst (λ (p : List Entry). Made server home c p gone (turn offs slots fate ∷ ts) own) (sym is) m;
      so = so;
    }

    pub one : (past past' : List Entry) (So : List Off → List Slot → Fate → Type 0) (e : Entry) (offs : List Off) (slots : List Slot) (fate : Fate) (own : List Entry) → past' ≡ e ∷ past → is_by c (Some k) e ≡ true
        → So offs slots fate → Made server home c (e ∷ past) gone (turn offs slots fate ∷ ts) (e ∷ own) → Onward server home c gone j iface k ts past past' own So
    one past past' So e offs slots fate own is by so m = record {
      es = e ∷ [];
      is = is;
      by = (by, tt);
      offs = offs;
      slots = slots;
      fate = fate;
      own = e ∷ own;
      grows = refl;
      made = subst (λ (p : List Entry). Made server home c p gone (turn offs slots fate ∷ ts) (e ∷ own)) (sym is) m;
      so = so;
    }

    -- ---- a call is taken

    -- what the answer makes of it
    abbrev pub OpensBy : Taking → Fate → Fate → Type 0
    OpensBy (taking.Run row serial) old fate = is_open fate ≡ true
    OpensBy (taking.Denied slot) old fate = gone ≡ false
    OpensBy _ old fate = fate ≡ old

    abbrev pub TakenSo : List Off → List Slot → List (Option ℕ) → Taking → Fate → List Off → List Slot → Fate → Type 0
    TakenSo before behind cookies answer old offs slots fate =
        (offs ≡ before) × (has_left fate ≡ gone) × (is_open fate ≡ true → j.cancel ≡ false) × OpensBy answer old fate × (slots ≡ behind) × (fate ≡ taken_fate answer cookies old)

    -- the cookies that it is given
    abbrev pub given : List Entry → List (Option ℕ)
    given past = cookies_for (whole at past) (slots (whole at past) k)

    module _ (past past' : List Entry) (offs : List Off) (slots' : List Slot) (own : List Entry) (legal : Legal (whole home past')) where
      takes_run : (fate : Fate) (cookies row : List (Option ℕ)) (serial : ℕ) → is_waiting fate ≡ true → gone ≡ false → (is_open fate ≡ true → j.cancel ≡ false) → past' ≡ Take k cookies ∷ past
          → Made server home c past gone (turn offs slots' fate ∷ ts) own → Onward server home c gone j iface k ts past past' own (TakenSo offs slots' cookies (taking.Run row serial) fate)
      takes_run Waiting cookies row serial w g may grown m =
          one past past' (TakenSo offs slots' cookies (taking.Run row serial) Waiting) (Take k cookies) offs slots' (Running cookies) own grown (same_number k) (refl, sym g, may, refl, refl, refl)
          (further past (Take k cookies) offs offs slots' Waiting (Running cookies) own (legal_so home (Take k cookies ∷ past) past' grown legal) (same_number k) (λ a n x. absurd cc)
          (let none_off : offs ≡ [] = m.due.0.1 in rw none_off refl) refl (λ x. absurd (true_is gone x g)) (m.due.0.0, may refl, tt) (λ x. absurd cc) m)
      takes_run (Running cookies') cookies row serial w g may grown m = absurd cc
      takes_run (Denied slot') cookies row serial w g may grown m = absurd cc
      takes_run Cancelled cookies row serial w g may grown m = absurd cc
      takes_run Orphaned cookies row serial w g may grown m = absurd cc
      takes_run LeftWaiting cookies row serial w g may grown m = absurd cc
      takes_run (LeftRunning cookies') cookies row serial w g may grown m = absurd cc
      takes_run (Ended run) cookies row serial w g may grown m = absurd cc
      takes_run (LeftEnded run) cookies row serial w g may grown m = absurd cc

      takes_deny : (fate : Fate) (slot : ℕ) → is_waiting fate ≡ true → gone ≡ false → (is_open fate ≡ true → j.cancel ≡ false) → past' ≡ Deny k slot ∷ past → Made server home c past gone (turn offs slots' fate ∷ ts) own
          → Onward server home c gone j iface k ts past past' own (TakenSo offs slots' (given past) (taking.Denied slot) fate)
      takes_deny Waiting slot w g may grown m =
          one past past' (TakenSo offs slots' (given past) (taking.Denied slot) Waiting) (Deny k slot) offs slots' (Denied slot) own grown (same_number k) (refl, sym g, (λ o. absurd cc), g, refl, refl)
          (further past (Deny k slot) offs offs slots' Waiting (Denied slot) own (legal_so home (Deny k slot ∷ past) past' grown legal) (same_number k) (λ a n x. absurd cc)
          refl refl (λ x. absurd (true_is gone x g)) (m.due.0.0, (may refl, m.due.0.1), tt) (λ x. absurd cc) m)
      takes_deny (Running cookies') slot w g may grown m = absurd cc
      takes_deny (Denied slot') slot w g may grown m = absurd cc
      takes_deny Cancelled slot w g may grown m = absurd cc
      takes_deny Orphaned slot w g may grown m = absurd cc
      takes_deny LeftWaiting slot w g may grown m = absurd cc
      takes_deny (LeftRunning cookies') slot w g may grown m = absurd cc
      takes_deny (Ended run) slot w g may grown m = absurd cc
      takes_deny (LeftEnded run) slot w g may grown m = absurd cc

    -- one that waits isn't left
    waiting_here : (fate : Fate) → is_waiting fate ≡ true → has_left fate ≡ gone → gone ≡ false
    waiting_here Waiting w l = sym l
    waiting_here (Running cookies') w l = absurd cc
    waiting_here (Denied slot') w l = absurd cc
    waiting_here Cancelled w l = absurd cc
    waiting_here Orphaned w l = absurd cc
    waiting_here LeftWaiting w l = absurd cc
    waiting_here (LeftRunning cookies') w l = absurd cc
    waiting_here (Ended run) w l = absurd cc
    waiting_here (LeftEnded run) w l = absurd cc

    pub taken : (past past' : List Entry) (offs : List Off) (slots' : List Slot) (fate : Fate) (own : List Entry) (answer : Taking) → Legal (whole home past') → has_left fate ≡ gone
        → (is_open fate ≡ true → j.cancel ≡ false) → Takes (whole at past) k answer (whole at past') → Made server home c past gone (turn offs slots' fate ∷ ts) own
        → Onward server home c gone j iface k ts past past' own (TakenSo offs slots' (given past) answer fate)
    taken past past' offs slots' fate own (taking.Run row serial) legal left may t m =
        let s = staged past offs slots' fate own left m in
        let w : is_waiting fate ≡ true = sym s.waits_is ∙ t.0 in
        takes_run past past' offs slots' own legal fate (cookies_for (whole at past) (slots (whole at past) k)) row serial w
        (waiting_here fate w left) may (past_is (whole at past) (whole at past') (Take k (cookies_for (whole at past) (slots (whole at past) k)) ∷ []) t.5) m
    taken past past' offs slots' fate own (taking.Denied slot) legal left may t m =
        let s = staged past offs slots' fate own left m in
        let w : is_waiting fate ≡ true = sym s.waits_is ∙ t.0 in
        takes_deny past past' offs slots' own legal fate slot w (waiting_here fate w left) may (past_is (whole at past) (whole at past') (Deny k slot ∷ []) t.3) m
    taken past past' offs slots' fate own taking.Dropped legal left may t m =
        none past past' (TakenSo offs slots' (given past) taking.Dropped fate) offs slots' fate own (past_is (whole at past) (whole at past') [] t.1) (refl, left, may, refl, refl, refl) m
    taken past past' offs slots' fate own (taking.Wait n) legal left may t m =
        none past past' (TakenSo offs slots' (given past) (taking.Wait n) fate) offs slots' fate own (past_is (whole at past) (whole at past') [] t.2) (refl, left, may, refl, refl, refl) m

    -- ---- a call is called off, on a connection that is there

    abbrev pub OffSo : Off → List Off → List Slot → Fate → List Off → List Slot → Fate → Type 0
    OffSo o old behind before offs slots fate = (offs ≡ o ∷ old) × (has_left fate ≡ false) × (slots ≡ behind) × (fate ≡ off_fate o before)

    module _ (here : gone ≡ false) (past past' : List Entry) (offs : List Off) (slots' : List Slot) (own : List Entry) (legal : Legal (whole home past')) where
      one_off : (o : Off) → offs ≡ [] → o ∷ offs ≡ o ∷ []
      one_off o h = ap (λ (l : List Off). o ∷ l) h

      off_due : offs ≡ [] → j.cancel ≡ false → off.Cancel ∷ offs ≡ (if j.cancel then [] else off.Cancel ∷ [])
      off_due h u = rw (h, u) refl

      cancel_waiting : Made server home c past gone (turn offs slots' Waiting ∷ ts) own → j.cancel ≡ false → past' ≡ Cancel k ∷ past
          → Onward server home c gone j iface k ts past past' own (OffSo off.Cancel offs slots' Waiting)
      cancel_waiting m u grown =
          one past past' (OffSo off.Cancel offs slots' Waiting) (Cancel k) (off.Cancel ∷ offs) slots' Cancelled own grown (same_number k) (refl, refl, refl, refl)
          (further past (Cancel k) offs (off.Cancel ∷ offs) slots' Waiting Cancelled own (legal_so home (Cancel k ∷ past) past' grown legal) (same_number k) (λ a n x. absurd cc)
          refl refl (λ x. absurd (true_is gone x here)) (m.due.0.0, off_due m.due.0.1 u, tt) (λ x. absurd cc) m)

      orphan_waiting : Made server home c past gone (turn offs slots' Waiting ∷ ts) own → j.cancel ≡ false → past' ≡ Orphan k ∷ past
          → Onward server home c gone j iface k ts past past' own (OffSo off.Orphan offs slots' Waiting)
      orphan_waiting m u grown =
          one past past' (OffSo off.Orphan offs slots' Waiting) (Orphan k) (off.Orphan ∷ offs) slots' Orphaned own grown (same_number k) (refl, refl, refl, refl)
          (further past (Orphan k) offs (off.Orphan ∷ offs) slots' Waiting Orphaned own (legal_so home (Orphan k ∷ past) past' grown legal) (same_number k) (λ a n x. absurd cc)
          refl refl (λ x. absurd (true_is gone x here)) (m.due.0.0, (u, one_off off.Orphan m.due.0.1), tt) (λ x. absurd cc) m)

      module _ (cookies : List (Option ℕ)) (m : Made server home c past gone (turn offs slots' (Running cookies) ∷ ts) own) where
        cancel_running : list_any is_cancel offs ≡ false → past' ≡ Cancel k ∷ past → Onward server home c gone j iface k ts past past' own (OffSo off.Cancel offs slots' (Running cookies))
        cancel_running first grown =
            one past past' (OffSo off.Cancel offs slots' (Running cookies)) (Cancel k) (off.Cancel ∷ offs) slots' (Running cookies) own grown (same_number k) (refl, refl, refl, refl)
            (further past (Cancel k) offs (off.Cancel ∷ offs) slots' (Running cookies) (Running cookies) own (legal_so home (Cancel k ∷ past) past' grown legal) (same_number k) (λ a n x. absurd cc)
            (rw first refl) refl (λ x. absurd (true_is gone x here)) m.due.0 (λ x. absurd cc) m)

        cancel_again : list_any is_cancel offs ≡ true → past' ≡ past → Onward server home c gone j iface k ts past past' own (OffSo off.Cancel offs slots' (Running cookies))
        cancel_again like same =
            none past past' (OffSo off.Cancel offs slots' (Running cookies)) (off.Cancel ∷ offs) slots' (Running cookies) own same (refl, refl, refl, refl)
            (made_again server home c past gone j iface off.Cancel offs k slots' cookies ts own like m)

        orphan_running : list_any is_orphan offs ≡ false → past' ≡ Orphan k ∷ past → Onward server home c gone j iface k ts past past' own (OffSo off.Orphan offs slots' (Running cookies))
        orphan_running first grown =
            one past past' (OffSo off.Orphan offs slots' (Running cookies)) (Orphan k) (off.Orphan ∷ offs) slots' (Running cookies) own grown (same_number k) (refl, refl, refl, refl)
            (further past (Orphan k) offs (off.Orphan ∷ offs) slots' (Running cookies) (Running cookies) own (legal_so home (Orphan k ∷ past) past' grown legal) (same_number k) (λ a n x. absurd cc)
            (rw first refl) refl (λ x. absurd (true_is gone x here)) m.due.0 (λ x. absurd cc) m)

        orphan_again : list_any is_orphan offs ≡ true → past' ≡ past → Onward server home c gone j iface k ts past past' own (OffSo off.Orphan offs slots' (Running cookies))
        orphan_again like same =
            none past past' (OffSo off.Orphan offs slots' (Running cookies)) (off.Orphan ∷ offs) slots' (Running cookies) own same (refl, refl, refl, refl)
            (made_again server home c past gone j iface off.Orphan offs k slots' cookies ts own like m)

    -- its marks
    marks_of : (past : List Entry) (offs : List Off) (slots' : List Slot) (cookies : List (Option ℕ)) (own : List Entry) → gone ≡ false → Made server home c past gone (turn offs slots' (Running cookies) ∷ ts) own
        → Marked at past k offs
    marks_of past offs slots' cookies own here m =
        marked_running at k (asked_so offs slots') past offs cookies
        (m.stand.stand.0 ∙ ap (λ l. l ++ fate_entries k (asked_so offs slots') offs (Running cookies) ++ Join c ∷ []) (no_behind c gone false (sym here)))

    pub cancelled_so : (past past' : List Entry) (offs : List Off) (slots' : List Slot) (fate : Fate) (own : List Entry) (answer : CancelAnswer) → gone ≡ false → Legal (whole home past') → has_left fate ≡ gone
        → is_open fate ≡ true → j.cancel ≡ false → Cancels (whole at past) k answer (whole at past') → Made server home c past gone (turn offs slots' fate ∷ ts) own
        → Onward server home c gone j iface k ts past past' own (OffSo off.Cancel offs slots' fate)
    cancelled_so past past' offs slots' Waiting own cancelled.Ended here legal left o may t m =
        cancel_waiting here past past' offs slots' own legal m may (past_is (whole at past) (whole at past') (Cancel k ∷ []) t.1)
    cancelled_so past past' offs slots' Waiting own cancelled.Flagged here legal left o may t m =
        let s = staged past offs slots' Waiting own left m in
        let r : runs (whole at past) k ≡ false = s.runs_is in
        let f : (runs (whole at past) k && not (is_cancelled (whole at past) k)) ≡ false = ap (λ b. b && not (is_cancelled (whole at past) k)) r in
        absurd (true_is (is_cancellable (whole at past) k) t.0 f)
    cancelled_so past past' offs slots' Waiting own cancelled.Late here legal left o may t m =
        let s = staged past offs slots' Waiting own left m in absurd (true_is (waits (whole at past) k) s.waits_is t.0)
    cancelled_so past past' offs slots' (Running cookies) own cancelled.Ended here legal left o may t m =
        let s = staged past offs slots' (Running cookies) own left m in absurd (true_is (waits (whole at past) k) t.0 s.waits_is)
    cancelled_so past past' offs slots' (Running cookies) own cancelled.Flagged here legal left o may t m =
        let marks = marks_of past offs slots' cookies own here m in
        let first : list_any is_cancel offs ≡ false = sym marks.cancelled ∙ unmarked (runs (whole at past) k) (is_cancelled (whole at past) k) t.0 in
        cancel_running here past past' offs slots' own legal cookies m first (past_is (whole at past) (whole at past') (Cancel k ∷ []) t.1)
      where
        unmarked : (r x : Bool) → (r && not x) ≡ true → x ≡ false
        unmarked true true h = absurd cc
        unmarked true false h = refl
        unmarked false x h = absurd cc
    cancelled_so past past' offs slots' (Running cookies) own cancelled.Late here legal left o may t m =
        let s = staged past offs slots' (Running cookies) own left m in
        let marks = marks_of past offs slots' cookies own here m in
        let like : list_any is_cancel offs ≡ true = sym marks.cancelled ∙ marked (runs (whole at past) k) (is_cancelled (whole at past) k) s.runs_is t.1 in
        cancel_again here past past' offs slots' own legal cookies m like (past_is (whole at past) (whole at past') [] t.2)
      where
        marked : (r x : Bool) → r ≡ true → (r && not x) ≡ false → x ≡ true
        marked true true g h = refl
        marked true false g h = absurd cc
        marked false x g h = absurd cc
    cancelled_so past past' offs slots' (Denied slot') own answer here legal left o may t m = absurd cc
    cancelled_so past past' offs slots' Cancelled own answer here legal left o may t m = absurd cc
    cancelled_so past past' offs slots' Orphaned own answer here legal left o may t m = absurd cc
    cancelled_so past past' offs slots' LeftWaiting own answer here legal left o may t m = absurd cc
    cancelled_so past past' offs slots' (LeftRunning cookies') own answer here legal left o may t m = absurd cc
    cancelled_so past past' offs slots' (Ended run) own answer here legal left o may t m = absurd cc
    cancelled_so past past' offs slots' (LeftEnded run) own answer here legal left o may t m = absurd cc

    pub orphaned_so : (past past' : List Entry) (offs : List Off) (slots' : List Slot) (fate : Fate) (own : List Entry) (answer : OrphanAnswer) → gone ≡ false → Legal (whole home past') → has_left fate ≡ gone
        → is_open fate ≡ true → j.cancel ≡ false → Orphans (whole at past) k answer (whole at past') → Made server home c past gone (turn offs slots' fate ∷ ts) own
        → Onward server home c gone j iface k ts past past' own (OffSo off.Orphan offs slots' fate)
    orphaned_so past past' offs slots' Waiting own orphaned.Dropped here legal left o may t m =
        orphan_waiting here past past' offs slots' own legal m may (past_is (whole at past) (whole at past') (Orphan k ∷ []) t.1)
    orphaned_so past past' offs slots' Waiting own orphaned.Running here legal left o may t m =
        let s = staged past offs slots' Waiting own left m in
        let r : runs (whole at past) k ≡ false = s.runs_is in
        let f : (runs (whole at past) k && not (is_orphaned (whole at past) k)) ≡ false = ap (λ b. b && not (is_orphaned (whole at past) k)) r in
        absurd (true_is (is_orphanable (whole at past) k) t.0 f)
    orphaned_so past past' offs slots' Waiting own orphaned.Late here legal left o may t m =
        let s = staged past offs slots' Waiting own left m in absurd (true_is (waits (whole at past) k) s.waits_is t.0)
    orphaned_so past past' offs slots' (Running cookies) own orphaned.Dropped here legal left o may t m =
        let s = staged past offs slots' (Running cookies) own left m in absurd (true_is (waits (whole at past) k) t.0 s.waits_is)
    orphaned_so past past' offs slots' (Running cookies) own orphaned.Running here legal left o may t m =
        let marks = marks_of past offs slots' cookies own here m in
        let first : list_any is_orphan offs ≡ false = sym marks.orphaned ∙ unmarked (runs (whole at past) k) (is_orphaned (whole at past) k) t.0 in
        orphan_running here past past' offs slots' own legal cookies m first (past_is (whole at past) (whole at past') (Orphan k ∷ []) t.1)
      where
        unmarked : (r x : Bool) → (r && not x) ≡ true → x ≡ false
        unmarked true true h = absurd cc
        unmarked true false h = refl
        unmarked false x h = absurd cc
    orphaned_so past past' offs slots' (Running cookies) own orphaned.Late here legal left o may t m =
        let s = staged past offs slots' (Running cookies) own left m in
        let marks = marks_of past offs slots' cookies own here m in
        let like : list_any is_orphan offs ≡ true = sym marks.orphaned ∙ marked (runs (whole at past) k) (is_orphaned (whole at past) k) s.runs_is t.1 in
        orphan_again here past past' offs slots' own legal cookies m like (past_is (whole at past) (whole at past') [] t.2)
      where
        marked : (r x : Bool) → r ≡ true → (r && not x) ≡ false → x ≡ true
        marked true true g h = refl
        marked true false g h = absurd cc
        marked false x g h = absurd cc
    orphaned_so past past' offs slots' (Denied slot') own answer here legal left o may t m = absurd cc
    orphaned_so past past' offs slots' Cancelled own answer here legal left o may t m = absurd cc
    orphaned_so past past' offs slots' Orphaned own answer here legal left o may t m = absurd cc
    orphaned_so past past' offs slots' LeftWaiting own answer here legal left o may t m = absurd cc
    orphaned_so past past' offs slots' (LeftRunning cookies') own answer here legal left o may t m = absurd cc
    orphaned_so past past' offs slots' (Ended run) own answer here legal left o may t m = absurd cc
    orphaned_so past past' offs slots' (LeftEnded run) own answer here legal left o may t m = absurd cc

    -- ---- a running call ends

    abbrev pub EndSo : List Off → List Slot → Fate → List Off → List Slot → Fate → Type 0
    EndSo before behind ended offs slots fate =
        (offs ≡ before) × (has_left fate ≡ gone) × (is_open fate ≡ false) × (is_running fate ≡ false) × (slots ≡ behind) × (fate ≡ ended)

    -- its end meets the manager's relation, where it did as it ran
    abbrev pub EndsWell : List Off → List Slot → List (Option ℕ) → List Outcome → Said → Type 0
    EndsWell offs slots' cookies results said = EndMeets server home c [] (asked_so offs slots') offs (record { cookies = cookies; results = results; said = said })

    pub two : (past past' : List Entry) (e : Entry) (items : List DueItem) (offs : List Off) (slots : List Slot) (fate : Fate) (own : List Entry) (So : List Off → List Slot → Fate → Type 0) → past' ≡ Shut items ∷ e ∷ past
        → is_by c (Some k) e ≡ true → So offs slots fate → list_any is_shut (e ∷ own) ≡ false → Entered server home c (e ∷ past) gone (turn offs slots fate ∷ ts) (e ∷ own)
        → Onward server home c gone j iface k ts past past' own So
    two past past' e items offs slots fate own So is by so unshut m = record {
      es = Shut items ∷ e ∷ [];
      is = is;
      by = (refl, (by, tt));
      offs = offs;
      slots = slots;
      fate = fate;
      own = Shut items ∷ e ∷ own;
      grows = refl;
      made =
          subst (λ (p : List Entry). Made server home c p gone (turn offs slots fate ∷ ts) (Shut items ∷ e ∷ own)) (sym is)
          (made_shut server home c e items past gone (turn offs slots fate ∷ ts) own unshut m);
      so = so;
    }
