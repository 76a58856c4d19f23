-- What the tables and counts show after each entry.
use Rattle.std.proofs.Common.{◌≡◌, ℕ, ◌+◌, ◌≤◌, true, false, Option, List, [], ◌∷◌, ◌++◌, length, refl, sym, ◌∙◌, ap, subst, arith}
use Rattle.std.specs.List.{filter}
use Rattle.std.proofs.lemmas.Grind.{common_steps}
use Rattle.handle_model.specs.declared.entry.Slot.{Slot}
use Rattle.handle_model.specs.declared.entry.Asked.{Asked}
use Rattle.handle_model.specs.declared.entry.Outcome.{Outcome}
use Rattle.handle_model.specs.declared.entry.Said.{Said}
use Rattle.handle_model.specs.declared.entry.DueItem.{DueItem}
use Rattle.handle_model.specs.declared.entry.Entry.TheVariants.{Join, Accept, Take, Deny, Cancel, Orphan, End, Leave, Shut}
use Rattle.handle_model.specs.Slots.{opens}
use Rattle.handle_model.specs.History.{History, with_entry, size}
use Rattle.handle_model.specs.Journal.{waits, runs, slots, due_items, Legal}
use Rattle.handle_model.proofs.Tests.{or_right}
use Rattle.handle_table.specs.Handles.{Handles}
use Rattle.handle_table.specs.Ended.{ended, issue_count}
use Rattle.handle_table.proofs.Live.{end_due}
use Rattle.handle_table.proofs.Steps.{join_due, accept_due, take_due, deny_due, cancel_due, orphan_due, leave_due, shut_due, issued_within}
use Rattle.call_table.specs.declared.row.Row.{Row}
use Rattle.call_table.specs.Rows.{OpenCalls, openings_of, slots_at, with_start, with_cancel, with_orphan, without, left, stays, is_other}
use Rattle.call_table.specs.Shown.{rows_of}
use Rattle.call_table.proofs.Found.{slots_shown}
use Rattle.call_table.proofs.Steps.{join_rows, accept_rows, take_rows, deny_rows, cancel_rows, flag_rows, orphan_rows, drop_rows, end_rows, leave_rows, shut_rows}
use Rattle.journal_tables.specs.declared.conns.OpenConn.{OpenConn}
use Rattle.journal_tables.specs.Conns as open_conns
use Rattle.journal_tables.specs.Conns.{OpenConns}
use Rattle.journal_tables.proofs.Joined.{join_conns, leave_conns}
use Rattle.group_core.specs.declared.counts.Counts.{Counts}
use Rattle.group_core.specs.Kept.{Shows}
use Rattle.group_core.proofs.Openings.{start_openings, cancel_openings, orphan_openings, filter_openings, without_openings, append_openings}

-- other rows, which may issue no more
issues_by : (rows rows' before : List Row) (room : ℕ) → rows ≡ rows' → openings_of rows' ≤ openings_of before → openings_of before ≤ room → openings_of rows ≤ room
issues_by rows rows' before room e less h = subst (λ (rs : List Row). openings_of rs ≤ room) (sym e) (omega (arith, less, h))

pub join_shows : (j : History) (c : ℕ) (handles : Handles) (calls : OpenCalls) (counts : Counts) (conns : OpenConns) → Shows j handles calls counts → Legal (with_entry j (Join c)) → conns.conns ≡ counts.conns.conns ++ record { conn = c; place = size j } ∷ [] → Shows (with_entry j (Join c)) handles calls (record { joined = counts.joined + 1; conns = conns; accepted = counts.accepted; opened = counts.opened })
join_shows j c handles calls counts conns s l o =
    record {
      home_is = s.home_is;
      items_are = s.items_are ∙ sym (join_due j c l);
      rows_are = s.rows_are ∙ sym (join_rows j c);
      joined_is = let e = s.joined_is in grind (arith, common_steps);
      conns_are = o ∙ (ap (λ (os : List OpenConn). os ++ record { conn = c; place = size j } ∷ []) s.conns_are ∙ sym (join_conns j c l.1 l.0.fits.0));
      accepted_is = s.accepted_is;
      opened_is = omega (arith, s.opened_is);
      issues = λ u. issues_by (rows_of (with_entry j (Join c))) (rows_of j) (rows_of j) handles.room (join_rows j c) (omega arith) (s.issues u);
    }

pub accept_shows : (j : History) (k : ℕ) (a : Asked) (handles new : Handles) (calls calls' : OpenCalls) (counts : Counts) (n : ℕ) → Shows j handles calls counts → Legal (with_entry j (Accept k a)) → new.home ≡ handles.home → new.items ≡ handles.items → calls'.rows ≡ calls.rows ++ record { call = k; conn = a.conn; slots = a.slots; place = size j; runs = false; cancelled = false; orphaned = false } ∷ [] → n ≡ length (filter opens a.slots) → openings_of calls.rows + n ≤ new.room → Shows (with_entry j (Accept k a)) new calls' (record { joined = counts.joined; conns = counts.conns; accepted = counts.accepted + 1; opened = counts.opened + n })
accept_shows j k a handles new calls calls' counts n s l h i r o room =
    let row : Row = record { call = k; conn = a.conn; slots = a.slots; place = size j; runs = false; cancelled = false; orphaned = false } in
    let rows = accept_rows j k a l in
    record {
      home_is = h ∙ s.home_is;
      items_are = i ∙ (s.items_are ∙ sym (accept_due j k a l));
      rows_are = r ∙ (ap (λ (rs : List Row). rs ++ row ∷ []) s.rows_are ∙ sym rows);
      joined_is = s.joined_is;
      conns_are = s.conns_are;
      accepted_is = let e = s.accepted_is in grind (arith, common_steps);
      opened_is = omega (arith, s.opened_is, o);
      issues = λ u. let same : openings_of calls.rows ≡ openings_of (rows_of j) = ap openings_of s.rows_are in
          subst (λ (rs : List Row). openings_of rs ≤ new.room) (sym rows) (omega (arith, append_openings row (rows_of j), same, o, room));
    }

pub take_shows : (j : History) (k : ℕ) (cookies : List (Option ℕ)) (handles : Handles) (calls calls' : OpenCalls) (counts : Counts) → Shows j handles calls counts → Legal (with_entry j (Take k cookies)) → calls'.rows ≡ with_start k calls.rows → Shows (with_entry j (Take k cookies)) handles calls' counts
take_shows j k cookies handles calls calls' counts s l r =
    let rows = take_rows j k cookies l.1 l.0.fits.0 in
    record {
      home_is = s.home_is;
      items_are = s.items_are ∙ sym (take_due j k cookies l);
      rows_are = r ∙ (ap (with_start k) s.rows_are ∙ sym rows);
      joined_is = s.joined_is;
      conns_are = s.conns_are;
      accepted_is = s.accepted_is;
      opened_is = omega (arith, s.opened_is);
      issues = λ u. issues_by (rows_of (with_entry j (Take k cookies))) (with_start k (rows_of j)) (rows_of j) handles.room rows (omega (arith, start_openings k (rows_of j))) (s.issues u);
    }

pub deny_shows : (j : History) (k v : ℕ) (handles : Handles) (calls calls' : OpenCalls) (counts : Counts) → Shows j handles calls counts → Legal (with_entry j (Deny k v)) → calls'.rows ≡ without k calls.rows → Shows (with_entry j (Deny k v)) handles calls' counts
deny_shows j k v handles calls calls' counts s l r =
    let rows = deny_rows j k v l.0.fits.0 in
    record {
      home_is = s.home_is;
      items_are = s.items_are ∙ sym (deny_due j k v l);
      rows_are = r ∙ (ap (without k) s.rows_are ∙ sym rows);
      joined_is = s.joined_is;
      conns_are = s.conns_are;
      accepted_is = s.accepted_is;
      opened_is = omega (arith, s.opened_is);
      issues = λ u. issues_by (rows_of (with_entry j (Deny k v))) (without k (rows_of j)) (rows_of j) handles.room rows (filter_openings (is_other k) (rows_of j)) (s.issues u);
    }

-- a waiting call is cancelled, or a running one
pub ended_shows : (j : History) (k : ℕ) (handles : Handles) (calls calls' : OpenCalls) (counts : Counts) → Shows j handles calls counts → Legal (with_entry j (Cancel k)) → waits j k ≡ true → calls'.rows ≡ without k calls.rows → Shows (with_entry j (Cancel k)) handles calls' counts
ended_shows j k handles calls calls' counts s l w r =
    let rows = cancel_rows j k w in
    record {
      home_is = s.home_is;
      items_are = s.items_are ∙ sym (cancel_due j k l);
      rows_are = r ∙ (ap (without k) s.rows_are ∙ sym rows);
      joined_is = s.joined_is;
      conns_are = s.conns_are;
      accepted_is = s.accepted_is;
      opened_is = omega (arith, s.opened_is);
      issues = λ u. issues_by (rows_of (with_entry j (Cancel k))) (without k (rows_of j)) (rows_of j) handles.room rows (filter_openings (is_other k) (rows_of j)) (s.issues u);
    }

pub flagged_shows : (j : History) (k : ℕ) (handles : Handles) (calls calls' : OpenCalls) (counts : Counts) → Shows j handles calls counts → Legal (with_entry j (Cancel k)) → runs j k ≡ true → calls'.rows ≡ with_cancel k calls.rows → Shows (with_entry j (Cancel k)) handles calls' counts
flagged_shows j k handles calls calls' counts s l w r =
    let rows = flag_rows j k w in
    record {
      home_is = s.home_is;
      items_are = s.items_are ∙ sym (cancel_due j k l);
      rows_are = r ∙ (ap (with_cancel k) s.rows_are ∙ sym rows);
      joined_is = s.joined_is;
      conns_are = s.conns_are;
      accepted_is = s.accepted_is;
      opened_is = omega (arith, s.opened_is);
      issues = λ u. issues_by (rows_of (with_entry j (Cancel k))) (with_cancel k (rows_of j)) (rows_of j) handles.room rows (omega (arith, cancel_openings k (rows_of j))) (s.issues u);
    }

-- and so with an orphaned one
pub dropped_shows : (j : History) (k : ℕ) (handles : Handles) (calls calls' : OpenCalls) (counts : Counts) → Shows j handles calls counts → Legal (with_entry j (Orphan k)) → waits j k ≡ true → calls'.rows ≡ without k calls.rows → Shows (with_entry j (Orphan k)) handles calls' counts
dropped_shows j k handles calls calls' counts s l w r =
    let rows = orphan_rows j k w in
    record {
      home_is = s.home_is;
      items_are = s.items_are ∙ sym (orphan_due j k l);
      rows_are = r ∙ (ap (without k) s.rows_are ∙ sym rows);
      joined_is = s.joined_is;
      conns_are = s.conns_are;
      accepted_is = s.accepted_is;
      opened_is = omega (arith, s.opened_is);
      issues = λ u. issues_by (rows_of (with_entry j (Orphan k))) (without k (rows_of j)) (rows_of j) handles.room rows (filter_openings (is_other k) (rows_of j)) (s.issues u);
    }

pub unanswered_shows : (j : History) (k : ℕ) (handles : Handles) (calls calls' : OpenCalls) (counts : Counts) → Shows j handles calls counts → Legal (with_entry j (Orphan k)) → runs j k ≡ true → calls'.rows ≡ with_orphan k calls.rows → Shows (with_entry j (Orphan k)) handles calls' counts
unanswered_shows j k handles calls calls' counts s l w r =
    let rows = drop_rows j k w in
    record {
      home_is = s.home_is;
      items_are = s.items_are ∙ sym (orphan_due j k l);
      rows_are = r ∙ (ap (with_orphan k) s.rows_are ∙ sym rows);
      joined_is = s.joined_is;
      conns_are = s.conns_are;
      accepted_is = s.accepted_is;
      opened_is = omega (arith, s.opened_is);
      issues = λ u. issues_by (rows_of (with_entry j (Orphan k))) (with_orphan k (rows_of j)) (rows_of j) handles.room rows (omega (arith, orphan_openings k (rows_of j))) (s.issues u);
    }

pub end_shows : (j : History) (k : ℕ) (results : List Outcome) (said : Said) (handles new : Handles) (calls calls' : OpenCalls) (counts : Counts) → Shows j handles calls counts → Legal (with_entry j (End k results said)) → new.home ≡ handles.home → new.items ≡ ended handles.home (slots_at calls.rows k) results handles.items → handles.room ≤ new.room + issue_count results → calls'.rows ≡ without k calls.rows → Shows (with_entry j (End k results said)) new calls' counts
end_shows j k results said handles new calls calls' counts s l h i m r =
    let rows = end_rows j k results said l.0.fits.0 in
    let those : slots_at (rows_of j) k ≡ slots j k = slots_shown j k l.1 (or_right (waits j k) (runs j k) l.0.fits.0) in
    let there : slots_at calls.rows k ≡ slots j k = ap (λ (rs : List Row). slots_at rs k) s.rows_are ∙ those in
    let items : ended handles.home (slots_at calls.rows k) results handles.items ≡ ended j.home (slots j k) results (due_items j) =
    rw (s.home_is, there, s.items_are) refl in
    record {
      home_is = h ∙ s.home_is;
      items_are = i ∙ (items ∙ sym (end_due j k results said l));
      rows_are = r ∙ (ap (without k) s.rows_are ∙ sym rows);
      joined_is = s.joined_is;
      conns_are = s.conns_are;
      accepted_is = s.accepted_is;
      opened_is = omega (arith, s.opened_is);
      issues = λ u. let few = issued_within (slots j k) results l.0.fits.1 in
          let all : length (filter opens (slots_at (rows_of j) k)) ≡ length (filter opens (slots j k)) = ap (λ (ss : List Slot). length (filter opens ss)) those in
          subst (λ (rs : List Row). openings_of rs ≤ new.room) (sym rows) (omega (arith, without_openings k (rows_of j), s.issues u, few, all, m));
    }

pub leave_shows : (j : History) (c : ℕ) (handles : Handles) (calls calls' : OpenCalls) (counts : Counts) (conns : OpenConns) → Shows j handles calls counts → Legal (with_entry j (Leave c)) → calls'.rows ≡ left c calls.rows → conns.conns ≡ open_conns.without c counts.conns.conns → Shows (with_entry j (Leave c)) handles calls' (record { joined = counts.joined; conns = conns; accepted = counts.accepted; opened = counts.opened })
leave_shows j c handles calls calls' counts conns s l r o =
    let rows = leave_rows j c in
    record {
      home_is = s.home_is;
      items_are = s.items_are ∙ sym (leave_due j c l);
      rows_are = r ∙ (ap (left c) s.rows_are ∙ sym rows);
      joined_is = s.joined_is;
      conns_are = o ∙ (ap (open_conns.without c) s.conns_are ∙ sym (leave_conns j c));
      accepted_is = s.accepted_is;
      opened_is = omega (arith, s.opened_is);
      issues = λ u. issues_by (rows_of (with_entry j (Leave c))) (left c (rows_of j)) (rows_of j) handles.room rows (filter_openings (stays c) (rows_of j)) (s.issues u);
    }

pub shut_shows : (j : History) (items : List DueItem) (handles new : Handles) (calls : OpenCalls) (counts : Counts) → Shows j handles calls counts → Legal (with_entry j (Shut items)) → new ≡ record { home = handles.home; items = []; room = 0 } → Shows (with_entry j (Shut items)) new calls counts
shut_shows j items handles new calls counts s l e =
    record {
      home_is = ap (λ (x : Handles). x.home) e ∙ s.home_is;
      items_are = ap (λ (x : Handles). x.items) e ∙ sym (shut_due j items l);
      rows_are = s.rows_are ∙ sym (shut_rows j items);
      joined_is = s.joined_is;
      conns_are = s.conns_are;
      accepted_is = s.accepted_is;
      opened_is = omega (arith, s.opened_is);
      issues = λ u. absurd (cc);
    }
