-- In what order the entries of a call stand in a legal history, whose newest entry is its first:
-- `newer` came after an entry of the history, and after the history j.
use Rattle.std.specs.Prelude.{◌≡◌, ℕ, ◌+◌, ◌≤◌, Bool, true, false, ◌==◌, Option, Some, None, is_some, List, length, filter}
use Rattle.handle_model.specs.declared.entry.Asked.{Asked}
use Rattle.handle_model.specs.declared.entry.Outcome.{Outcome}
use Rattle.handle_model.specs.declared.entry.Said.{Said}
use Rattle.handle_model.specs.declared.entry.Entry.{Entry}
use Rattle.handle_model.specs.declared.entry.Entry.TheVariants.{Accept, Take, End}
use Rattle.handle_model.specs.Bases.{asked_before, taken_before, cancelled_before, orphaned_before}
use Rattle.handle_model.specs.History.{History, with_entry}
use Rattle.handle_model.specs.Journal.{Legal, takes, denies, cancels, orphans, decides, ends, asked, has_left, is_taken, runs}
use Rattle.handle_model.specs.Further.{with_entries, once_where}

-- ACCEPTED

abbrev pub accepts : ℕ → Entry → Bool
accepts k (Accept m a) = m == k
accepts k _ = false

-- a call is accepted once: before the base, or by an Accept
abbrev pub AcceptsOnce : Type 0
AcceptsOnce =
    (j : History) (k : ℕ) → Legal j → once_where (is_some (asked_before j.base k)) + length (filter (accepts k) j.past) ≤ 1

-- a further one has a new number
abbrev pub AcceptsNew : Type 0
AcceptsNew =
    (j : History) (newer : List Entry) (k : ℕ) (a : Asked) → Legal (with_entries (with_entry j (Accept k a)) newer) → asked j k ≡ None

-- a call asks what its Accept says: its connection, its slots, its stub and the rest
abbrev pub AsksAsAccepted : Type 0
AsksAsAccepted =
    (j : History) (newer : List Entry) (k : ℕ) (a : Asked) → Legal (with_entries (with_entry j (Accept k a)) newer)
    → asked (with_entries (with_entry j (Accept k a)) newer) k ≡ Some a

-- and what it asked stays, whatever comes after
abbrev pub AskedStays : Type 0
AskedStays =
    (j : History) (newer : List Entry) (k : ℕ) (a : Asked) → Legal (with_entries j newer) → asked j k ≡ Some a
    → asked (with_entries j newer) k ≡ Some a

-- DECIDED

-- a call is accepted before its Take, its Deny, its Cancel and its Orphan
abbrev pub DecidesAfterAccept : Type 0
DecidesAfterAccept =
    (j : History) (newer : List Entry) (e : Entry) (k : ℕ) → Legal (with_entries (with_entry j e) newer) → decides k e ≡ true
    → is_some (asked j k) ≡ true

-- where it doesn't run, its connection leaves after these
abbrev pub DecidesBeforeLeave : Type 0
DecidesBeforeLeave =
    (j : History) (newer : List Entry) (e : Entry) (k : ℕ) → Legal (with_entries (with_entry j e) newer) → decides k e ≡ true
    → runs j k ≡ false → has_left j (asked j k) ≡ false

-- it is decided once: taken before the base, or by a Take, or by a Deny
abbrev pub DecidedOnce : Type 0
DecidedOnce =
    (j : History) (k : ℕ) → Legal j
    → once_where (taken_before j.base k) + length (filter (takes k) j.past) + length (filter (denies k) j.past) ≤ 1

-- it is cancelled once, and orphaned once
abbrev pub CancelsOnce : Type 0
CancelsOnce = (j : History) (k : ℕ) → Legal j → once_where (cancelled_before j.base k) + length (filter (cancels k) j.past) ≤ 1

abbrev pub OrphansOnce : Type 0
OrphansOnce = (j : History) (k : ℕ) → Legal j → once_where (orphaned_before j.base k) + length (filter (orphans k) j.past) ≤ 1

-- TAKEN AND ENDED

-- a call is accepted before it is taken
abbrev pub TakesAfterAccept : Type 0
TakesAfterAccept =
    (j : History) (newer : List Entry) (k : ℕ) (cookies : List (Option ℕ)) → Legal (with_entries (with_entry j (Take k cookies)) newer)
    → is_some (asked j k) ≡ true

-- and taken before it ends
abbrev pub EndsAfterTake : Type 0
EndsAfterTake =
    (j : History) (newer : List Entry) (k : ℕ) (results : List Outcome) (said : Said)
    → Legal (with_entries (with_entry j (End k results said)) newer) → is_taken j k ≡ true

-- it is taken once, and ends once
abbrev pub TakesOnce : Type 0
TakesOnce = (j : History) (k : ℕ) → Legal j → once_where (taken_before j.base k) + length (filter (takes k) j.past) ≤ 1

abbrev pub EndsOnce : Type 0
EndsOnce = (j : History) (k : ℕ) → Legal j → length (filter (ends k) j.past) ≤ 1
