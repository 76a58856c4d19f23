-- The end of a call or the leave of a connection, and the Shut after it.
use Rattle.std.proofs.Common.{◌≡◌, ℕ, ◌+◌, ◌≤◌, Bool, true, false, ◌&&◌, not, ◌==◌, if◌then◌else◌, List, ◌∷◌, length, refl, sym, ◌∙◌, ap, subst, arith}
use Rattle.std.specs.List.{list_any, filter}
use Rattle.std.proofs.lemmas.Grind.{common_steps}
use Rattle.handle_model.specs.declared.entry.Home.{Home}
use Rattle.handle_model.specs.declared.entry.Outcome.{Outcome}
use Rattle.handle_model.specs.declared.entry.Said.{Said}
use Rattle.handle_model.specs.declared.entry.DueItem.{DueItem}
use Rattle.handle_model.specs.declared.entry.Entry.{Entry}
use Rattle.handle_model.specs.declared.entry.Entry.TheVariants.{End, Leave, Shut}
use Rattle.handle_model.specs.Journal.{is_cancelled, is_orphaned, join_count, waits, runs, slots, suit, is_open, is_shut, is_empty, conns, running, due, Legal, Fits}
use Rattle.handle_model.specs.History.{History, IsSound, with_entry}
use Rattle.handle_model.specs.declared.entry.Slot.{Slot}
use Rattle.handle_model.specs.Slots.{opens}
use Rattle.handle_model.proofs.Tests.{or_right}
use Rattle.handle_table.proofs.Steps.{issued_within}
use Rattle.call_table.proofs.Found.{slots_shown}
use Rattle.group_core.proofs.Openings.{without_openings}
use Rattle.handle_model.proofs.Steps.{legal_more, open_unshut, runs_unshut}
use Rattle.handle_table.specs.Handles.{Handles}
use Rattle.handle_table.specs.Ended.{ended, issue_count}
use Rattle.call_table.specs.declared.row.Row.{Row}
use Rattle.call_table.specs.Rows.{OpenCalls, is_running, slots_at, without, left, owed_of}
use Rattle.call_table.specs.Shown.{rows_of}
use Rattle.call_table.proofs.Counts.{idle_shown}
use Rattle.journal_tables.specs.declared.conns.OpenConn.{OpenConn}
use Rattle.journal_tables.specs.Conns as open_conns
use Rattle.journal_tables.specs.Conns.{OpenConns}
use Rattle.journal_tables.proofs.Joined.{none_shown}
use Rattle.journal_tables.specs.Folding.{BaseBegun}
use Rattle.group_core.specs.declared.answer.Rest.{Rest}
use Rattle.group_core.specs.declared.answer.Rest.TheVariants as rest
use Rattle.group_core.specs.declared.counts.Counts.{Counts}
use Rattle.group_core.specs.Conns.{Settles}
use Rattle.group_core.specs.Owed.{owed, shut_owed}
use Rattle.group_core.specs.Kept.{IsKept, Logged, Came, logged, Shows}
use Rattle.group_core.specs.Judges.{ShutsIfDue, is_due_at}
use Rattle.group_core.proofs.Owing.{end_owed, leave_owed, shut_less}
use Rattle.group_core.proofs.Shown.{end_shows, leave_shows, shut_shows}
use Rattle.group_core.proofs.Keeping.{newest}

-- after the entry, while a Shut may be due
pub record Mid (home : Home) (log mid : Logged) (entry : Entry) (handles : Handles) (calls : OpenCalls) (counts : Counts) : Type 0 where
  pub legal : Legal (with_entry (logged home log) entry)
  pub unshut : list_any is_shut (entry ∷ (logged home log).past) ≡ false
  pub entries : Came log entry mid
  pub begun : BaseBegun log.base
  pub owes : owed (with_entry (logged home log) entry) ≡ mid.spare
  pub shows : Shows (with_entry (logged home log) entry) handles calls counts

unshut_one : (j : History) → list_any is_shut j.past ≡ false → shut_owed j ≡ 1
unshut_one j u = rw u refl

-- there is room for the Shut
pub mid_room : (home : Home) (log mid : Logged) (entry : Entry) (handles : Handles) (calls : OpenCalls) (counts : Counts) → Mid home log mid entry handles calls counts → 1 ≤ mid.spare
mid_room home log mid entry handles calls counts m = let one = unshut_one (with_entry (logged home log) entry) m.unshut in omega (arith, one, m.owes)

due_parts : (v s c r : Bool) → s ≡ false → (not v && c && not (not r)) ≡ (not v && not s && c && r)
due_parts true s c r e = refl
due_parts false true c r e = cc
due_parts false false true true e = refl
due_parts false false true false e = refl
due_parts false false false r e = refl

-- the Shut is due by the counts where it is
due_is : (j : History) (handles : Handles) (calls : OpenCalls) (counts : Counts) → Shows j handles calls counts → Legal j → list_any is_shut j.past ≡ false → is_due_at counts (list_any is_running calls.rows) ≡ due j
due_is j handles calls counts s l u =
    let v : (counts.joined == 0) ≡ (join_count j == 0) = ap (λ n. n == 0) s.joined_is in
    let c : (length counts.conns.conns == 0) ≡ is_empty (conns j) = ap (λ (os : List OpenConn). length os == 0) s.conns_are ∙ none_shown j in
    let r : list_any is_running calls.rows ≡ not (is_empty (running j)) = ap (list_any is_running) s.rows_are ∙ idle_shown j l in
    rw (v, c, r) (due_parts (join_count j == 0) (list_any is_shut j.past) (is_empty (conns j)) (is_empty (running j)) u)

shut_settled : (j : History) (items : List DueItem) → due (with_entry j (Shut items)) ≡ false
shut_settled j items = grind (arith, common_steps)

last : (home : Home) (log mid new : Logged) (entry : Entry) (items : List DueItem) → Came log entry mid → Came mid (Shut items) new → logged home new ≡ with_entry (with_entry (logged home log) entry) (Shut items)
last home log mid new entry items e f = newest home mid new (Shut items) f ∙ ap (λ (x : History). with_entry x (Shut items)) (newest home log mid entry e)

-- what is then kept
pub closed_kept : (home : Home) (log mid new : Logged) (entry : Entry) (rest : Rest) (handles left : Handles) (calls : OpenCalls) (counts : Counts) → Mid home log mid entry handles calls counts → ShutsIfDue (is_due_at counts (list_any is_running calls.rows)) mid handles rest new left → IsKept home new left calls counts
closed_kept home log mid new entry rest.Stays handles left calls counts m c =
    let before = with_entry (logged home log) entry in
    let e = sym (ap (λ (x : Logged). logged home x) c.1 ∙ newest home log mid entry m.entries) in
    let d = sym (due_is before handles calls counts m.shows m.legal m.unshut) ∙ c.0 in
    let spare : new.spare ≡ mid.spare = ap (λ (x : Logged). x.spare) c.1 in
    record {
      sound = subst IsSound e (record { legal = m.legal; settled = d });
      begun = subst BaseBegun (ap (λ (x : History). x.base) e) m.begun;
      owes = subst (λ (x : History). owed x ≡ new.spare) e (m.owes ∙ sym spare);
      shows = subst (λ (x : History). Shows x left calls counts) e (subst (λ (x : Handles). Shows before x calls counts) (sym c.2) m.shows);
    }
closed_kept home log mid new entry (rest.Shut items) handles left calls counts m c =
    let before = with_entry (logged home log) entry in
    let e = sym (last home log mid new entry items m.entries c.2) in
    let d : due before ≡ true = sym (due_is before handles calls counts m.shows m.legal m.unshut) ∙ c.0 in
    let legal : Legal (with_entry before (Shut items)) = (record { before_shut = m.unshut; shut_when_due = λ _. refl; fits = (d, c.1 ∙ m.shows.items_are) }, m.legal) in
    record {
      sound = subst IsSound e (record { legal = legal; settled = shut_settled before items });
      begun = subst BaseBegun (ap (λ (x : History). x.base) e) m.begun;
      owes = subst (λ (x : History). owed x ≡ new.spare) e (omega (arith, shut_less before items m.unshut, m.owes, c.3));
      shows = subst (λ (x : History). Shows x left calls counts) e (shut_shows before items handles left calls counts m.shows legal c.4);
    }

-- and what was added
pub closed_settles : (home : Home) (log mid new : Logged) (entry : Entry) (rest : Rest) (handles left : Handles) (calls : OpenCalls) (counts : Counts) → Mid home log mid entry handles calls counts → ShutsIfDue (is_due_at counts (list_any is_running calls.rows)) mid handles rest new left → Settles (logged home log) entry rest (logged home new)
closed_settles home log mid new entry rest.Stays handles left calls counts m c = (
  sym (due_is (with_entry (logged home log) entry) handles calls counts m.shows m.legal m.unshut) ∙ c.0,
  ap (λ (x : Logged). logged home x) c.1 ∙ newest home log mid entry m.entries,
)
closed_settles home log mid new entry (rest.Shut items) handles left calls counts m c = (
  sym (due_is (with_entry (logged home log) entry) handles calls counts m.shows m.legal m.unshut) ∙ c.0,
  c.1 ∙ m.shows.items_are,
  last home log mid new entry items m.entries c.2,
)

-- THE TWO ENTRIES

pub end_room : (home : Home) (log : Logged) (k : ℕ) (results : List Outcome) (said : Said) (handles : Handles) (calls : OpenCalls) (counts : Counts) → IsKept home log handles calls counts → runs (logged home log) k ≡ true → 1 + ((if is_cancelled (logged home log) k then 0 else 1) + (if is_orphaned (logged home log) k then 0 else 1)) ≤ log.spare
end_room home log k results said handles calls counts kept r =
    let j = logged home log in omega (arith, end_owed j k results said kept.sound.legal r, kept.owes)

pub end_mid : (home : Home) (log mid : Logged) (k : ℕ) (results : List Outcome) (said : Said) (freed : ℕ) (handles handles' : Handles) (calls calls' : OpenCalls) (counts : Counts) → IsKept home log handles calls counts → Fits (logged home log) (End k results said) → Came log (End k results said) mid → freed ≡ (if is_cancelled (logged home log) k then 0 else 1) + (if is_orphaned (logged home log) k then 0 else 1) → mid.spare + freed + 1 ≡ log.spare → handles'.home ≡ handles.home → handles'.items ≡ ended handles.home (slots_at calls.rows k) results handles.items → handles.room ≤ handles'.room + issue_count results → calls'.rows ≡ without k calls.rows → Mid home log mid (End k results said) handles' calls' counts
end_mid home log mid k results said freed handles handles' calls calls' counts kept fits entries f spare h i m r =
    let j = logged home log in
    let u = runs_unshut j.home j.base j.past k kept.sound.legal fits.0 in
    let legal = legal_more (logged home log) (End k results said) kept.sound u fits in
    record {
      legal = legal;
      unshut = u;
      begun = kept.begun;
      entries = entries;
      owes = omega (arith, end_owed j k results said kept.sound.legal fits.0, kept.owes, f, spare);
      shows = end_shows j k results said handles handles' calls calls' counts kept.shows legal h i m r;
    }

pub leave_room : (home : Home) (log : Logged) (c : ℕ) (handles : Handles) (calls : OpenCalls) (counts : Counts) → IsKept home log handles calls counts → is_open (logged home log) c ≡ true → (freed : ℕ) → freed + owed_of (left c calls.rows) ≡ owed_of calls.rows → freed + 1 ≤ log.spare
leave_room home log c handles calls counts kept o freed f =
    let j = logged home log in
    let all : freed + owed_of (left c (rows_of j)) ≡ owed_of (rows_of j) = subst (λ (rs : List Row). freed + owed_of (left c rs) ≡ owed_of rs) kept.shows.rows_are f in
    omega (arith, leave_owed j c freed kept.sound.legal o all, kept.owes)

pub leave_mid : (home : Home) (log mid : Logged) (c : ℕ) (handles : Handles) (calls calls' : OpenCalls) (counts : Counts) (conns : OpenConns) (freed : ℕ) → IsKept home log handles calls counts → is_open (logged home log) c ≡ true → Came log (Leave c) mid → freed + owed_of calls'.rows ≡ owed_of calls.rows → mid.spare + freed + 1 ≡ log.spare → calls'.rows ≡ left c calls.rows → conns.conns ≡ open_conns.without c counts.conns.conns → Mid home log mid (Leave c) handles calls' (record { joined = counts.joined; conns = conns; accepted = counts.accepted; opened = counts.opened })
leave_mid home log mid c handles calls calls' counts conns freed kept o entries f spare r e =
    let j = logged home log in
    let u = open_unshut j.home j.base j.past c kept.sound.legal o in
    let legal = legal_more (logged home log) (Leave c) kept.sound u o in
    record {
      legal = legal;
      unshut = u;
      begun = kept.begun;
      entries = entries;
      owes =
          let all : freed + owed_of (left c (rows_of j)) ≡ owed_of (rows_of j) = subst (λ (rs : List Row). freed + owed_of (left c rs) ≡ owed_of rs) kept.shows.rows_are (rw r at f) in
          omega (arith, leave_owed j c freed kept.sound.legal o all, kept.owes, spare);
      shows = leave_shows j c handles calls calls' counts conns kept.shows legal r e;
    }

-- the results issue no more than there is room for
pub end_issues : (home : Home) (log : Logged) (k : ℕ) (results : List Outcome) (handles : Handles) (calls : OpenCalls) (counts : Counts) → IsKept home log handles calls counts → runs (logged home log) k ≡ true → suit (slots (logged home log) k) results ≡ true → issue_count results ≤ handles.room
end_issues home log k results handles calls counts kept r s =
    let j = logged home log in
    let u = runs_unshut j.home j.base j.past k kept.sound.legal r in
    let those : slots_at (rows_of j) k ≡ slots j k = slots_shown j k kept.sound.legal (or_right (waits j k) (runs j k) r) in
    let all : length (filter opens (slots_at (rows_of j) k)) ≡ length (filter opens (slots j k)) = ap (λ (ss : List Slot). length (filter opens ss)) those in
    omega (arith, without_openings k (rows_of j), kept.shows.issues u, issued_within (slots j k) results s, all)
