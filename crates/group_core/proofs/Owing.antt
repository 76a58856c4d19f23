-- What each entry takes from what is owed.
use Rattle.std.proofs.Common.{◌≡◌, if◌then◌else◌, ℕ, ◌+◌, Bool, true, false, not, Option, Some, List, [], ◌∷◌, ◌++◌, length, map, refl, ◌∙◌, ap, arith, inl, inr}
use Rattle.std.specs.List.{list_any}
use Rattle.std.proofs.lemmas.Grind.{common_steps}
use Rattle.std.proofs.lemmas.Bool.{cases_Bool, false_from_ne_true}
use Rattle.handle_model.specs.declared.entry.Asked.{Asked}
use Rattle.handle_model.specs.declared.entry.Outcome.{Outcome}
use Rattle.handle_model.specs.declared.entry.Said.{Said}
use Rattle.handle_model.specs.declared.entry.DueItem.{DueItem}
use Rattle.handle_model.specs.declared.entry.Entry.TheVariants.{Join, Accept, Take, Deny, Cancel, Orphan, End, Leave, Shut}
use Rattle.handle_model.specs.Journal.{waits, runs, is_taken, is_cancelled, is_orphaned, join_count, conns, is_open, is_shut, Legal}
use Rattle.handle_model.specs.History.{History, with_entry, size}
use Rattle.handle_model.proofs.Tests.{and_left, and_right}
use Rattle.call_table.specs.declared.row.Row.{Row}
use Rattle.call_table.specs.Rows.{row_at, at_call, taken, cancelled, orphaned, without, left, owed_by, owed_of}
use Rattle.call_table.specs.Shown.{rows_of}
use Rattle.call_table.proofs.Steps.{join_rows, accept_rows, take_rows, deny_rows, cancel_rows, flag_rows, orphan_rows, drop_rows, end_rows, leave_rows, shut_rows}
use Rattle.call_table.proofs.Calls.{taken_decided}
use Rattle.call_table.proofs.Owed.{rises_shown, owed_append, owed_marked, owed_without, waiting_row, running_row}
use Rattle.group_core.specs.Owed.{shut_owed, owed}
use Rattle.group_core.specs.Calls.{is_cancellable, is_orphanable}
use Rattle.group_core.proofs.Counting.{join_counted, leave_counted}

-- CALLS

-- a waiting call was not taken
pub waits_untaken : (j : History) (k : ℕ) → waits j k ≡ true → is_taken j k ≡ false
waits_untaken j k w = false_from_ne_true (is_taken j k) (λ t. let d = taken_decided j k t in grind (arith, common_steps))

-- WHAT IS OWED OF ONE CALL

take_by : (r : Row) → r.runs ≡ false → r.cancelled ≡ false → r.orphaned ≡ false → owed_by r ≡ owed_by (taken r) + 1
take_by r a b c = rw (a, b, c) refl

waits_by : (r : Row) → r.runs ≡ false → owed_by r ≡ 4
waits_by r a = rw a refl

flag_by : (r : Row) → r.runs ≡ true → r.cancelled ≡ false → owed_by r ≡ owed_by (cancelled r) + 1
flag_by r a b = elim (cases_Bool r.orphaned) [ inl t ↦ rw (a, b, t) refl | inr t ↦ rw (a, b, t) refl ]

drop_by : (r : Row) → r.runs ≡ true → r.orphaned ≡ false → owed_by r ≡ owed_by (orphaned r) + 1
drop_by r a b = elim (cases_Bool r.cancelled) [ inl t ↦ rw (a, b, t) refl | inr t ↦ rw (a, b, t) refl ]

runs_by : (r : Row) (c o : Bool) → r.runs ≡ true → r.cancelled ≡ c → r.orphaned ≡ o → owed_by r ≡ 1 + ((if c then 0 else 1) + (if o then 0 else 1))
runs_by r true true a b e = rw (a, b, e) refl
runs_by r true false a b e = rw (a, b, e) refl
runs_by r false true a b e = rw (a, b, e) refl
runs_by r false false a b e = rw (a, b, e) refl

not_is : (b : Bool) → not b ≡ true → b ≡ false
not_is true h = absurd (cc)
not_is false h = refl

-- WHAT EACH ENTRY TAKES

-- an entry with these rows, beside which the connections and the Shut stay as they are
from_rows : (before after : History) (m : ℕ) → owed_of (rows_of after) + m ≡ owed_of (rows_of before) → length (conns after) ≡ length (conns before) → shut_owed after ≡ shut_owed before → owed after + m ≡ owed before
from_rows before after m r c s = omega (arith, r, c, s)

gone : (j after : History) (k n : ℕ) (r : Row) → Legal j → rows_of after ≡ without k (rows_of j) → row_at (rows_of j) k ≡ Some r → owed_by r ≡ n → owed_of (rows_of after) + n ≡ owed_of (rows_of j)
gone j after k n r l e there is =
    let less = owed_without 0 (rows_of j) k r (rises_shown j l) there in
    let rows : owed_of (rows_of after) ≡ owed_of (without k (rows_of j)) = ap owed_of e in omega (arith, less, rows, is)

marked : (j after : History) (f : Row → Row) (k : ℕ) (r : Row) → Legal j → rows_of after ≡ map (at_call k f) (rows_of j) → row_at (rows_of j) k ≡ Some r → owed_by r ≡ owed_by (f r) + 1 → owed_of (rows_of after) + 1 ≡ owed_of (rows_of j)
marked j after f k r l e there is =
    let one = owed_marked f 0 (rows_of j) k r (rises_shown j l) there in
    let rows : owed_of (rows_of after) ≡ owed_of (map (at_call k f) (rows_of j)) = ap owed_of e in omega (arith, one, rows, is)

pub take_owed : (j : History) (k : ℕ) (cookies : List (Option ℕ)) → Legal j → waits j k ≡ true → owed (with_entry j (Take k cookies)) + 1 ≡ owed j
take_owed j k cookies l w =
    let r = waiting_row j k l w in
    from_rows j (with_entry j (Take k cookies)) 1
    (marked j (with_entry j (Take k cookies)) taken k r.row l (take_rows j k cookies l w) r.there (take_by r.row r.waits_ r.uncancelled r.unorphaned)) refl refl

pub deny_owed : (j : History) (k v : ℕ) → Legal j → waits j k ≡ true → owed (with_entry j (Deny k v)) + 4 ≡ owed j
deny_owed j k v l w =
    let r = waiting_row j k l w in
    from_rows j (with_entry j (Deny k v)) 4 (gone j (with_entry j (Deny k v)) k 4 r.row l (deny_rows j k v w) r.there (waits_by r.row r.waits_)) refl refl

pub ended_owed : (j : History) (k : ℕ) → Legal j → waits j k ≡ true → owed (with_entry j (Cancel k)) + 4 ≡ owed j
ended_owed j k l w =
    let r = waiting_row j k l w in
    from_rows j (with_entry j (Cancel k)) 4 (gone j (with_entry j (Cancel k)) k 4 r.row l (cancel_rows j k w) r.there (waits_by r.row r.waits_)) refl refl

pub dropped_owed : (j : History) (k : ℕ) → Legal j → waits j k ≡ true → owed (with_entry j (Orphan k)) + 4 ≡ owed j
dropped_owed j k l w =
    let r = waiting_row j k l w in
    from_rows j (with_entry j (Orphan k)) 4 (gone j (with_entry j (Orphan k)) k 4 r.row l (orphan_rows j k w) r.there (waits_by r.row r.waits_)) refl refl

pub flagged_owed : (j : History) (k : ℕ) → Legal j → is_cancellable j k ≡ true → owed (with_entry j (Cancel k)) + 1 ≡ owed j
flagged_owed j k l c =
    let runs_ = and_left (runs j k) _ c in
    let first = not_is (is_cancelled j k) (and_right (runs j k) _ c) in
    let r = running_row j k l runs_ in
    from_rows j (with_entry j (Cancel k)) 1
    (marked j (with_entry j (Cancel k)) cancelled k r.row l (flag_rows j k runs_) r.there (flag_by r.row r.runs_ (r.cancelled_ ∙ first))) refl refl

pub unanswered_owed : (j : History) (k : ℕ) → Legal j → is_orphanable j k ≡ true → owed (with_entry j (Orphan k)) + 1 ≡ owed j
unanswered_owed j k l c =
    let runs_ = and_left (runs j k) _ c in
    let first = not_is (is_orphaned j k) (and_right (runs j k) _ c) in
    let r = running_row j k l runs_ in
    from_rows j (with_entry j (Orphan k)) 1
    (marked j (with_entry j (Orphan k)) orphaned k r.row l (drop_rows j k runs_) r.there (drop_by r.row r.runs_ (r.orphaned_ ∙ first))) refl refl

-- what is left of a running call
abbrev pub left_of : History → ℕ → ℕ
left_of j k = 1 + ((if is_cancelled j k then 0 else 1) + (if is_orphaned j k then 0 else 1))

pub end_owed : (j : History) (k : ℕ) (results : List Outcome) (said : Said) → Legal j → runs j k ≡ true → owed (with_entry j (End k results said)) + left_of j k ≡ owed j
end_owed j k results said l runs_ =
    let r = running_row j k l runs_ in
    from_rows j (with_entry j (End k results said)) (left_of j k)
    (gone j (with_entry j (End k results said)) k (left_of j k) r.row l (end_rows j k results said runs_) r.there
    (runs_by r.row (is_cancelled j k) (is_orphaned j k) r.runs_ r.cancelled_ r.orphaned_)) refl refl

pub accept_owed : (j : History) (k : ℕ) (a : Asked) → Legal (with_entry j (Accept k a)) → owed (with_entry j (Accept k a)) ≡ owed j + 4
accept_owed j k a l =
    let row : Row = record { call = k; conn = a.conn; slots = a.slots; place = size j; runs = false; cancelled = false; orphaned = false } in
    let rows : owed_of (rows_of (with_entry j (Accept k a))) ≡ owed_of (rows_of j ++ row ∷ []) = ap owed_of (accept_rows j k a l) in
    let conns_ : length (conns (with_entry j (Accept k a))) ≡ length (conns j) = refl in
    let shut : shut_owed (with_entry j (Accept k a)) ≡ shut_owed j = refl in
    omega (arith, rows, owed_append (rows_of j) row, conns_, shut)

-- CONNECTIONS AND THE SHUT

pub join_owed : (j : History) (c : ℕ) → Legal j → c ≡ join_count j + 1 → owed (with_entry j (Join c)) ≡ owed j + 1
join_owed j c l e =
    let rows : owed_of (rows_of (with_entry j (Join c))) ≡ owed_of (rows_of j) = ap owed_of (join_rows j c) in
    let shut : shut_owed (with_entry j (Join c)) ≡ shut_owed j = refl in
    omega (arith, rows, join_counted j c l e, shut)

pub leave_owed : (j : History) (c freed : ℕ) → Legal j → is_open j c ≡ true → freed + owed_of (left c (rows_of j)) ≡ owed_of (rows_of j) → owed (with_entry j (Leave c)) + (freed + 1) ≡ owed j
leave_owed j c freed l o f =
    let rows : owed_of (rows_of (with_entry j (Leave c))) ≡ owed_of (left c (rows_of j)) = ap owed_of (leave_rows j c) in
    let shut : shut_owed (with_entry j (Leave c)) ≡ shut_owed j = refl in
    omega (arith, rows, leave_counted j c l o, shut, f)

pub shut_less : (j : History) (items : List DueItem) → list_any is_shut j.past ≡ false → owed (with_entry j (Shut items)) + 1 ≡ owed j
shut_less j items u =
    let rows : owed_of (rows_of (with_entry j (Shut items))) ≡ owed_of (rows_of j) = ap owed_of (shut_rows j items) in
    let conns_ : length (conns (with_entry j (Shut items))) ≡ length (conns j) = refl in
    let now : shut_owed (with_entry j (Shut items)) ≡ 0 = refl in
    let before : shut_owed j ≡ 1 = rw u refl in
    omega (arith, rows, conns_, now, before)
