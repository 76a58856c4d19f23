-- A call ends, one is accepted, and a connection joins and leaves.
use Rattle.std.proofs.Common.{◌≡◌, ◌==◌, ℕ, ◌+◌, Bool, true, false, ◌&&◌, not, Option, Some, None, Ok, List, [], ◌∷◌, ◌++◌, map, filter, refl, sym, ap, subst, ◌∙◌, ◌⊎◌, inl, inr}
use Rattle.std.specs.List.{list_any, AllByRecursion}
use Rattle.handle_model.specs.declared.entry.Home.{Home}
use Rattle.handle_model.specs.declared.entry.Slot.{Slot}
use Rattle.handle_model.specs.declared.entry.Outcome.{Outcome}
use Rattle.handle_model.specs.declared.entry.Said.{Said}
use Rattle.handle_model.specs.declared.entry.Entry.{Entry}
use Rattle.handle_model.specs.declared.entry.Entry.TheVariants.{Join, Accept, Cancel, End, Leave, Shut}
use Rattle.handle_model.specs.Entries.{is_shut}
use Rattle.pdu_stream.specs.declared.joined.Joined.{Joined}
use Rattle.conn_histories.specs.declared.turn.Off.{Off}
use Rattle.conn_histories.specs.declared.turn.Run.{Run}
use Rattle.conn_histories.specs.declared.turn.Fate.{Fate}
use Rattle.conn_histories.specs.declared.turn.Request.{Request}
use Rattle.conn_histories.specs.declared.turn.Turn.{Turn}
use Rattle.conn_histories.specs.Stories.{Server}
use Rattle.conn_histories.specs.Tales.{whole}
use Rattle.conn_histories.specs.declared.turn.Fate.TheVariants.{Waiting, Denied, Cancelled, Orphaned, LeftWaiting, Running, LeftRunning, Ended, LeftEnded}
use Rattle.conn_histories.specs.declared.turn.Deed.TheVariants.{Pending, Accepted}
use Rattle.conn_histories.specs.declared.turn.Turn.TheVariants.{Binding, Bound, NotBound, Answered, Called, Closed}
use Rattle.group_core.specs.declared.answer.Cancelled.{Cancelled as CancelAnswer}
use Rattle.group_core.specs.declared.answer.Cancelled.TheVariants as cancelled
use Rattle.group_core.specs.declared.answer.Rest.{Rest}
use Rattle.group_core.specs.declared.answer.Rest.TheVariants as rest
use Rattle.group_core.specs.Calls.{Accepts, Cancels, is_cancellable}
use Rattle.group_core.specs.Conns.{Settles}
use Rattle.handle_model.specs.declared.entry.Slot.TheVariants.{Shares, Holds, Changes, Opens}
use Rattle.handle_model.specs.Slots.{with_serial}
use Rattle.handle_model.specs.Journal.{Legal, waits, runs, is_cancelled, accept_count, has_joined, filled, next_serial, opened}
use Rattle.conn_histories.specs.Requests.{HasSlots}
use Rattle.conn_histories.specs.Entries.{asked_as, all_entries, has_left, is_open, is_running, turn_open, turn_left, numbers_of}
use Rattle.conn_histories.specs.Stories.{IsItsGroup, AllDue, Made}
use Rattle.conn_histories.specs.Tales.{of_conn, calls_of, Stands, StandAll}
use Rattle.conn_turns.specs.Steps.{left_turns, OnlyNewestOpen}
use Rattle.conn_turns.proofs.TaleFacts.{same_number}
use Rattle.conn_turns.specs.Quiet.{IsQuiet}
use Rattle.conn_turns.proofs.Making.{called, unshut_own, own_unshut, MayLeave, Entered, made_so, made_entered, made_plain, entered_left, made_left, made_shut, plain_pending}
use Rattle.conn_turns.proofs.Whose.{AreBy, all_asked, apart_unasked, unasked_none, fresh_none, unjoined_conns, unjoined_calls}
use Rattle.conn_turns.proofs.Stepping.{past_is, legal_so, true_is, Onward, staged, further, ended_further, one, two, EndSo, EndsWell, ended_fate}

-- ---- a running call ends

module _ (server : Server) (home at : Home) (c : ℕ) (gone : Bool) (j : Joined) (iface k : ℕ) (ts : List Turn) (apart : AllByRecursion (λ m. (k == m) ≡ false) (numbers_of ts)) where
  abbrev turn : List Off → List Slot → Fate → Turn
  turn offs slots fate = called j iface offs (Accepted k slots fate) None

  module _ (past past' : List Entry) (offs : List Off) (slots : List Slot) (own : List Entry) (results : List Outcome) (said : Said) (legal : Legal (whole home past')) where
    end_so : (fate : Fate) (r : Rest) → EndSo server home at c gone j iface k ts apart offs slots fate offs slots fate → Settles (whole at past) (End k results said) r (whole at past') → list_any is_shut own ≡ false
        → Entered server home c (End k results said ∷ past) gone (turn offs slots fate ∷ ts) (End k results said ∷ own)
        → Onward server home c gone j iface k ts past past' own (EndSo server home at c gone j iface k ts apart offs slots fate)
    end_so fate rest.Stays so t unshut made =
        let grown : past' ≡ End k results said ∷ past = past_is (whole at past) (whole at past') (End k results said ∷ []) t.1 in
        one server home at c gone j iface k ts apart past past' (EndSo server home at c gone j iface k ts apart offs slots fate) (End k results said) offs slots fate own grown (same_number k) so
        (made_so server home c (End k results said ∷ past) gone (turn offs slots fate ∷ ts) (End k results said ∷ own)
        (unshut_own home c (k ∷ numbers_of ts) (End k results said ∷ past) (End k results said ∷ own) unshut (λ x. t.0)) made)
    end_so fate (rest.Shut items) so t unshut made =
        let grown : past' ≡ Shut items ∷ End k results said ∷ past = past_is (whole at past) (whole at past') (Shut items ∷ End k results said ∷ []) t.2 in
        two server home at c gone j iface k ts apart past past' (End k results said) items offs slots fate own (EndSo server home at c gone j iface k ts apart offs slots fate) grown (same_number k) so unshut made

    abbrev run : List (Option ℕ) → Run
    run cookies = record { cookies = cookies; results = results; said = said }

    none_shut : (r : Rest) → Settles (whole at past) (End k results said) r (whole at past') → list_any is_shut past ≡ false
    none_shut rest.Stays t = (legal_so home (End k results said ∷ past) past' (past_is (whole at past) (whole at past') (End k results said ∷ []) t.1) legal).0.before_shut
    none_shut (rest.Shut items) t = (legal_so home (Shut items ∷ End k results said ∷ past) past' (past_is (whole at past) (whole at past') (Shut items ∷ End k results said ∷ []) t.2) legal).1.0.before_shut

    pub ended_so : (fate : Fate) (cookies : List (Option ℕ)) (r : Rest) → is_running fate ≡ true → has_left fate ≡ gone
        → (fate ≡ Running cookies) ⊎ (fate ≡ LeftRunning cookies) → EndsWell server home at c gone j iface k ts apart offs slots cookies results said
        → Settles (whole at past) (End k results said) r (whole at past') → Made server home c past gone (turn offs slots fate ∷ ts) own
        → Onward server home c gone j iface k ts past past' own (EndSo server home at c gone j iface k ts apart offs slots (ended_fate results said fate))
    ended_so Waiting cookies r runs left which well t m = absurd cc
    ended_so (Denied slot) cookies r runs left which well t m = absurd cc
    ended_so Cancelled cookies r runs left which well t m = absurd cc
    ended_so Orphaned cookies r runs left which well t m = absurd cc
    ended_so LeftWaiting cookies r runs left which well t m = absurd cc
    ended_so (Ended run') cookies r runs left which well t m = absurd cc
    ended_so (LeftEnded run') cookies r runs left which well t m = absurd cc
    ended_so (Running cookies') cookies r runs left which well t m =
        let none = none_shut r t in
        let same : cookies ≡ cookies' = elim which [ inl e ↦ cc | inr e ↦ absurd cc ] in
        end_so (Ended (run cookies')) r (refl, left, refl, refl, refl, refl) t (own_unshut home c (k ∷ numbers_of ts) past own m.shut none)
        (ended_further server home at c gone j iface k ts apart past results said offs slots (Running cookies') (Ended (run cookies')) own none refl refl
        (λ g. absurd (true_is gone g (sym left)))
        (m.due.0.0, m.due.0.1, subst (λ (x : List (Option ℕ)). EndsWell server home at c gone j iface k ts apart offs slots x results said) same well) m)
    ended_so (LeftRunning cookies') cookies r runs left which well t m =
        let none = none_shut r t in
        let same : cookies ≡ cookies' = elim which [ inl e ↦ absurd cc | inr e ↦ cc ] in
        end_so (LeftEnded (run cookies')) r (refl, left, refl, refl, refl, refl) t (own_unshut home c (k ∷ numbers_of ts) past own m.shut none)
        (ended_further server home at c gone j iface k ts apart past results said offs slots (LeftRunning cookies') (LeftEnded (run cookies')) own none refl refl
        (λ g. refl)
        (m.due.0.0, m.due.0.1, subst (λ (x : List (Option ℕ)). EndsWell server home at c gone j iface k ts apart offs slots x results said) same well) m)

-- ---- a call is accepted

with_next : (n m : ℕ) (s : Slot) → with_serial m (with_serial n s) ≡ with_serial m s
with_next n m (Shares kind wire) = refl
with_next n m (Holds kind wire) = refl
with_next n m (Changes kind wire) = refl
with_next n m (Opens kind serial) = refl

filled_same : (n : ℕ) (slots : List Slot) → map (with_serial 0) (filled n slots) ≡ map (with_serial 0) slots
filled_same n [] = refl
filled_same n (s ∷ later) = λ i. with_next (next_serial n s) 0 s i ∷ filled_same (next_serial n s) later i

-- the accepted call, marked or not
pub record Accepting (server : Server) (home : Home) (c : ℕ) (j : Joined) (iface k : ℕ) (ts : List Turn) (old new before : List Entry) : Type 0 where
  pub es : List Entry
  pub is : new ≡ es ++ old
  pub by : AreBy c (Some k) es
  pub slots : List Slot
  pub fate : Fate
  pub own : List Entry
  pub grows : own ≡ es ++ before
  pub made : Made server home c new false (called j iface [] (Accepted k slots fate) None ∷ ts) own
  pub left : has_left fate ≡ false
  pub may : is_open fate ≡ true → j.cancel ≡ false
  pub apart : AllByRecursion (λ m. (k == m) ≡ false) (numbers_of ts)

module _ (server : Server) (home at : Home) (c : ℕ) (j : Joined) (iface k : ℕ) (ts : List Turn) (slots : List Slot) where
  abbrev request : Request
  request = record { joined = j; iface = iface; offs = []; deed = Pending; answer = None }

  abbrev kept : List Entry → List Slot
  kept past = filled (opened (whole at past)) slots

  abbrev waiting : List Entry → Request
  waiting past = record { joined = j; iface = iface; offs = []; deed = Accepted k (kept past) Waiting; answer = None }

  module _ (past : List Entry) (own : List Entry) (m : Made server home c past false ts own) (legal : Legal (whole home (Accept k (asked_as c request (kept past)) ∷ past))) (has : HasSlots server.tables iface j.op j.order j.stub slots) where
    number : k ≡ accept_count (whole home past) + 1
    number = legal.0.fits.0

    has_kept : HasSlots server.tables iface j.op j.order j.stub (kept past)
    has_kept = record { message = has.message; asked = has.asked; slots_are = filled_same (opened (whole at past)) slots ∙ has.slots_are }

    pub new_apart : AllByRecursion (λ m. (k == m) ≡ false) (numbers_of ts)
    new_apart = apart_unasked c past k (numbers_of ts) (fresh_none home past k legal.1 number) (all_asked c false past ts m.stand.stand)

    pub made_waiting : Made server home c (Accept k (asked_as c request (kept past)) ∷ past) false (called j iface [] (Accepted k (kept past) Waiting) None ∷ ts) (Accept k (asked_as c request (kept past)) ∷ own)
    made_waiting =
        made_entered server home c past false k (Accept k (asked_as c request (kept past))) request (waiting past) ts own legal.0.before_shut
        (record {
          of_it = same_number k;
          entries = refl;
          number = refl;
          from = inl (record { asked = asked_as c request (kept past); accept = refl; theirs = refl; before = refl; new = unasked_none home past k legal.1 (fresh_none home past k legal.1 number); joined = m.conns });
          left_same = refl;
        })
        (λ x. absurd cc) new_apart (has_kept, refl, tt) (λ x. absurd cc) (made_plain server home c past false (called j iface [] Pending None) ts own (plain_pending c j iface) refl m)

-- the turns before a request that is asked
pub made_tail : (server : Server) (home : Home) (c : ℕ) (past : List Entry) (j : Joined) (iface : ℕ) (ts : List Turn) (own : List Entry)
    → Made server home c past false (called j iface [] Pending None ∷ ts) own → Made server home c past false ts own
made_tail server home c past j iface ts own m = record {
  entries = m.entries;
  shut = m.shut;
  due = m.due.1;
  stand = record { calls = m.stand.calls; stand = m.stand.stand.1; none_open = λ x. absurd cc; none_left = m.stand.none_left };
  conns = m.conns;
}

-- a call whose request was marked
pub marked_so : (server : Server) (home at : Home) (c : ℕ) (j : Joined) (iface k : ℕ) (ts : List Turn) (slots : List Slot) (past past' : List Entry) (own : List Entry) (answer : CancelAnswer)
    → AllByRecursion (λ m. (k == m) ≡ false) (numbers_of ts) → Legal (whole home past') → j.cancel ≡ true → Cancels (whole at past) k answer (whole at past')
    → Made server home c past false (called j iface [] (Accepted k slots Waiting) None ∷ ts) own → (past' ≡ Cancel k ∷ past) × Made server home c past' false (called j iface [] (Accepted k slots Cancelled) None ∷ ts) (Cancel k ∷ own)
marked_so server home at c j iface k ts slots past past' own cancelled.Ended apart legal marked t m =
    let grown : past' ≡ Cancel k ∷ past = past_is (whole at past) (whole at past') (Cancel k ∷ []) t.1 in (
      grown,
      subst (λ (p : List Entry). Made server home c p false (called j iface [] (Accepted k slots Cancelled) None ∷ ts) (Cancel k ∷ own)) (sym grown)
          (further server home at c false j iface k ts apart past (Cancel k) [] [] slots Waiting Cancelled own (legal_so home (Cancel k ∷ past) past' grown legal) (same_number k) (λ a n x. absurd cc)
          refl refl (λ x. absurd cc) (m.due.0.0, rw marked refl, tt) (λ x. absurd cc) m),
    )
marked_so server home at c j iface k ts slots past past' own cancelled.Flagged apart legal marked t m =
    let s = staged server home at c false j iface k ts past [] slots Waiting own refl m in
    let r : runs (whole at past) k ≡ false = s.runs_is in
    let f : (runs (whole at past) k && not (is_cancelled (whole at past) k)) ≡ false = ap (λ b. b && not (is_cancelled (whole at past) k)) r in
    absurd (true_is (is_cancellable (whole at past) k) t.0 f)
marked_so server home at c j iface k ts slots past past' own cancelled.Late apart legal marked t m =
    let s = staged server home at c false j iface k ts past [] slots Waiting own refl m in absurd (true_is (waits (whole at past) k) s.waits_is t.0)

pub accepted_plain : (server : Server) (home at : Home) (c : ℕ) (j : Joined) (iface k : ℕ) (ts : List Turn) (slots : List Slot) (past past' own : List Entry) → Legal (whole home past') → j.cancel ≡ false
    → HasSlots server.tables iface j.op j.order j.stub slots → Accepts (whole at past) (asked_as c (record { joined = j; iface = iface; offs = []; deed = Pending; answer = None }) slots) (Ok k) (whole at past')
    → Made server home c past false ts own → Accepting server home c j iface k ts past past' own
accepted_plain server home at c j iface k ts slots past past' own legal unmarked has t m =
    let a = asked_as c (record { joined = j; iface = iface; offs = []; deed = Pending; answer = None }) (kept server home at c j iface k ts slots past) in
    let grown : past' ≡ Accept k a ∷ past = past_is (whole at past) (whole at past') (Accept k a ∷ []) t.2 in
    let l : Legal (whole home (Accept k a ∷ past)) = legal_so home (Accept k a ∷ past) past' grown legal in
    record {
      es = Accept k a ∷ [];
      is = grown;
      by = (rw (same_number k, same_number c) refl, tt);
      slots = kept server home at c j iface k ts slots past;
      fate = Waiting;
      own = Accept k a ∷ own;
      grows = refl;
      made =
          subst (λ (p : List Entry). Made server home c p false (called j iface [] (Accepted k (kept server home at c j iface k ts slots past) Waiting) None ∷ ts) (Accept k a ∷ own)) (sym grown)
          (made_waiting server home at c j iface k ts slots past own m l has);
      left = refl;
      may = λ o. unmarked;
      apart = new_apart server home at c j iface k ts slots past own m l has;
    }

pub accepted_marked : (server : Server) (home at : Home) (c : ℕ) (j : Joined) (iface k : ℕ) (ts : List Turn) (slots : List Slot) (past between past' own : List Entry) (answer : CancelAnswer) → Legal (whole home between) → Legal (whole home past') → j.cancel ≡ true
    → HasSlots server.tables iface j.op j.order j.stub slots → Accepts (whole at past) (asked_as c (record { joined = j; iface = iface; offs = []; deed = Pending; answer = None }) slots) (Ok k) (whole at between)
    → Cancels (whole at between) k answer (whole at past') → Made server home c past false ts own → Accepting server home c j iface k ts past past' own
accepted_marked server home at c j iface k ts slots past between past' own answer before legal marked has t u m =
    let a = asked_as c (record { joined = j; iface = iface; offs = []; deed = Pending; answer = None }) (kept server home at c j iface k ts slots past) in
    let grown : between ≡ Accept k a ∷ past = past_is (whole at past) (whole at between) (Accept k a ∷ []) t.2 in
    let l : Legal (whole home (Accept k a ∷ past)) = legal_so home (Accept k a ∷ past) between grown before in
    let apart = new_apart server home at c j iface k ts slots past own m l has in
    let first : Made server home c between false (called j iface [] (Accepted k (kept server home at c j iface k ts slots past) Waiting) None ∷ ts) (Accept k a ∷ own) =
    subst (λ (p : List Entry). Made server home c p false (called j iface [] (Accepted k (kept server home at c j iface k ts slots past) Waiting) None ∷ ts) (Accept k a ∷ own)) (sym grown)
    (made_waiting server home at c j iface k ts slots past own m l has) in
    let then_ = marked_so server home at c j iface k ts (kept server home at c j iface k ts slots past) between past' (Accept k a ∷ own) answer apart legal marked u first in
    record {
      es = Cancel k ∷ Accept k a ∷ [];
      is = then_.0 ∙ ap (λ (p : List Entry). Cancel k ∷ p) grown;
      by = (same_number k, (rw (same_number k, same_number c) refl, tt));
      slots = kept server home at c j iface k ts slots past;
      fate = Cancelled;
      own = Cancel k ∷ Accept k a ∷ own;
      grows = refl;
      made = then_.1;
      left = refl;
      may = λ o. absurd cc;
      apart = apart;
    }

-- ---- a connection leaves

pub record Leaving (server : Server) (home : Home) (c : ℕ) (turns : List Turn) (old new before : List Entry) : Type 0 where
  pub es : List Entry
  pub is : new ≡ es ++ old
  pub by : AreBy c None es
  pub own : List Entry
  pub grows : own ≡ es ++ before
  pub made : Made server home c new true (left_turns turns) own

pub left_so : (server : Server) (home at : Home) (c : ℕ) (turns : List Turn) (past past' own : List Entry) (r : Rest) → Legal (whole home past') → OnlyNewestOpen turns → MayLeave server home c turns
    → Settles (whole at past) (Leave c) r (whole at past') → Made server home c past false turns own → Leaving server home c turns past past' own
left_so server home at c turns past past' own rest.Stays legal newest may t m =
    let grown : past' ≡ Leave c ∷ past = past_is (whole at past) (whole at past') (Leave c ∷ []) t.1 in
    let l = legal_so home (Leave c ∷ past) past' grown legal in
    record {
      es = Leave c ∷ [];
      is = grown;
      by = (same_number c, tt);
      own = Leave c ∷ own;
      grows = refl;
      made = subst (λ (p : List Entry). Made server home c p true (left_turns turns) (Leave c ∷ own)) (sym grown) (made_left server home c past turns own l.0.before_shut newest may t.0 m);
    }
left_so server home at c turns past past' own (rest.Shut items) legal newest may t m =
    let grown : past' ≡ Shut items ∷ Leave c ∷ past = past_is (whole at past) (whole at past') (Shut items ∷ Leave c ∷ []) t.2 in
    let l = legal_so home (Shut items ∷ Leave c ∷ past) past' grown legal in
    let none = l.1.0.before_shut in
    record {
      es = Shut items ∷ Leave c ∷ [];
      is = grown;
      by = (refl, (same_number c, tt));
      own = Shut items ∷ Leave c ∷ own;
      grows = refl;
      made =
          subst (λ (p : List Entry). Made server home c p true (left_turns turns) (Shut items ∷ Leave c ∷ own)) (sym grown)
          (made_shut server home c (Leave c) items past true (left_turns turns) own (own_unshut home c (numbers_of turns) past own m.shut none) (entered_left server home c past turns own newest may m));
    }

-- ---- a connection joins

module _ (c : ℕ) where
  quiet_entries : (ts : List Turn) → AllByRecursion IsQuiet ts → all_entries c ts ≡ []
  quiet_entries [] q = refl
  quiet_entries (Binding asked ∷ ts) q = quiet_entries ts q.1
  quiet_entries (Bound asked group octets ∷ ts) q = absurd q.0
  quiet_entries (NotBound asked reason octets ∷ ts) q = quiet_entries ts q.1
  quiet_entries (Answered octets ∷ ts) q = quiet_entries ts q.1
  quiet_entries (Called r ∷ ts) q = absurd q.0
  quiet_entries (Closed octets fault ∷ ts) q = quiet_entries ts q.1

  quiet_numbers : (ts : List Turn) → AllByRecursion IsQuiet ts → numbers_of ts ≡ []
  quiet_numbers [] q = refl
  quiet_numbers (Binding asked ∷ ts) q = quiet_numbers ts q.1
  quiet_numbers (Bound asked group octets ∷ ts) q = absurd q.0
  quiet_numbers (NotBound asked reason octets ∷ ts) q = quiet_numbers ts q.1
  quiet_numbers (Answered octets ∷ ts) q = quiet_numbers ts q.1
  quiet_numbers (Called r ∷ ts) q = absurd q.0
  quiet_numbers (Closed octets fault ∷ ts) q = quiet_numbers ts q.1

  quiet_test : (p : Turn → Bool) → ((t : Turn) → IsQuiet t → p t ≡ false) → (ts : List Turn) → AllByRecursion IsQuiet ts → list_any p ts ≡ false
  quiet_test p none [] q = refl
  quiet_test p none (t ∷ ts) q = let here = none t q.0 in let more = quiet_test p none ts q.1 in rw (here, more) refl

  quiet_open : (t : Turn) → IsQuiet t → turn_open t ≡ false
  quiet_open (Binding asked) q = refl
  quiet_open (Bound asked group octets) q = absurd q
  quiet_open (NotBound asked reason octets) q = refl
  quiet_open (Answered octets) q = refl
  quiet_open (Called r) q = absurd q
  quiet_open (Closed octets fault) q = refl

  quiet_left : (t : Turn) → IsQuiet t → turn_left t ≡ false
  quiet_left (Binding asked) q = refl
  quiet_left (Bound asked group octets) q = absurd q
  quiet_left (NotBound asked reason octets) q = refl
  quiet_left (Answered octets) q = refl
  quiet_left (Called r) q = absurd q
  quiet_left (Closed octets fault) q = refl

  quiet_stand : (gone : Bool) (past : List Entry) (ts : List Turn) → AllByRecursion IsQuiet ts → AllByRecursion (Stands c gone past) ts
  quiet_stand gone past [] q = tt
  quiet_stand gone past (Binding asked ∷ ts) q = (tt, quiet_stand gone past ts q.1)
  quiet_stand gone past (Bound asked group octets ∷ ts) q = absurd q.0
  quiet_stand gone past (NotBound asked reason octets ∷ ts) q = (tt, quiet_stand gone past ts q.1)
  quiet_stand gone past (Answered octets ∷ ts) q = (tt, quiet_stand gone past ts q.1)
  quiet_stand gone past (Called r ∷ ts) q = absurd q.0
  quiet_stand gone past (Closed octets fault ∷ ts) q = (tt, quiet_stand gone past ts q.1)

  pub quiet_all : (gone : Bool) (past : List Entry) (ts : List Turn) → calls_of c past ≡ [] → AllByRecursion IsQuiet ts → StandAll c gone past ts
  quiet_all gone past ts none q = record {
    calls = none ∙ sym (quiet_numbers ts q);
    stand = quiet_stand gone past ts q;
    none_open = λ is. quiet_test turn_open quiet_open ts q;
    none_left = λ is. quiet_test turn_left quiet_left ts q;
  }

module _ (server : Server) (home at : Home) (c d : ℕ) (past old : List Entry) where
  pub quiet_due : (ts : List Turn) → AllByRecursion IsQuiet ts → AllDue server at d old ts → AllDue server home c past ts
  quiet_due [] q h = tt
  quiet_due (Binding asked ∷ ts) q h = (tt, quiet_due ts q.1 h.1)
  quiet_due (Bound asked group octets ∷ ts) q h = absurd q.0
  quiet_due (NotBound asked reason octets ∷ ts) q h = (h.0, quiet_due ts q.1 h.1)
  quiet_due (Answered octets ∷ ts) q h = (tt, quiet_due ts q.1 h.1)
  quiet_due (Called r ∷ ts) q h = absurd q.0
  quiet_due (Closed octets fault ∷ ts) q h = (tt, quiet_due ts q.1 h.1)

module _ (server : Server) (home at : Home) (c d : ℕ) (past old : List Entry) (ts : List Turn) (asked group : ℕ) (octets : List ℕ) where
  joined_first : filter (of_conn c) (Join c ∷ past) ≡ Join c ∷ filter (of_conn c) past
  joined_first = rw (same_number c) refl

  pub joined_new : filter (of_conn c) past ≡ [] → calls_of c past ≡ [] → AllByRecursion IsQuiet ts → AllDue server at d old ts → (group ≡ home.group) × IsItsGroup asked group c
      → Made server home c (Join c ∷ past) false (Bound asked group octets ∷ ts) (Join c ∷ [])
  joined_new conns calls q due its =
      let s = quiet_all c false (Join c ∷ past) ts calls q in
      record {
        entries = ap (λ (l : List Entry). Join c ∷ l) (sym (quiet_entries c ts q));
        shut = (refl, λ x. absurd cc);
        due = (its, quiet_due server home at c d (Join c ∷ past) old ts q due);
        stand = record { calls = s.calls; stand = (tt, s.stand); none_open = s.none_open; none_left = s.none_left };
        conns = joined_first ∙ ap (λ (l : List Entry). Join c ∷ l) conns;
      }

  pub joined_so : Legal (whole home (Join c ∷ past)) → has_joined (whole home past) c ≡ false → AllByRecursion IsQuiet ts → AllDue server at d old ts → (group ≡ home.group) × IsItsGroup asked group c
      → Made server home c (Join c ∷ past) false (Bound asked group octets ∷ ts) (Join c ∷ [])
  joined_so legal new q due its = joined_new (unjoined_conns home past c legal.1 new) (unjoined_calls home past c legal.1 new) q due its
