-- How many entries of each kind journals have. A journal is its entries, the newest first.
use Rattle.std.specs.Prelude.{◌≡◌, ℕ, ◌+◌, ◌-◌, ◌^◌, min, Bool, true, false, List, [], ◌∷◌, length, filter}
use Rattle.handle_model.specs.declared.entry.Entry.{Entry}
use Rattle.handle_model.specs.declared.entry.Entry.TheVariants.{Accept, Take, Deny, Cancel, End, Shut}
use Rattle.handle_model.specs.declared.entry.Outcome.{Outcome}
use Rattle.handle_model.specs.declared.entry.Outcome.TheVariants.{Close, Issue}
use Rattle.replay_script.specs.declared.counts.Counts.{Counts}

-- ---- what an entry counts

abbrev pub accepts : Entry → ℕ
accepts (Accept k asked) = 1
accepts _ = 0

abbrev pub takes : Entry → ℕ
takes (Take k cookies) = 1
takes _ = 0

abbrev pub denies : Entry → ℕ
denies (Deny k slot) = 1
denies _ = 0

abbrev pub cancels : Entry → ℕ
cancels (Cancel k) = 1
cancels _ = 0

abbrev pub is_issue : Outcome → Bool
is_issue (Issue serial cookie) = true
is_issue _ = false

abbrev pub is_close : Outcome → Bool
is_close Close = true
is_close _ = false

-- an End's results that issue a handle, and that close one
abbrev pub issues : Entry → ℕ
issues (End k results said) = length (filter is_issue results)
issues _ = 0

abbrev pub closes : Entry → ℕ
closes (End k results said) = length (filter is_close results)
closes _ = 0

-- the handles of a Shut
abbrev pub runs_down : Entry → ℕ
runs_down (Shut items) = length items
runs_down _ = 0

-- ---- what journals count

abbrev pub count_in : (Entry → ℕ) → List Entry → ℕ
count_in f [] = 0
count_in f (e ∷ past) = count_in f past + f e

abbrev pub count_all : (Entry → ℕ) → List (List Entry) → ℕ
count_all f [] = 0
count_all f (past ∷ more) = count_in f past + count_all f more

abbrev pub counts_of : List (List Entry) → Counts
counts_of pasts =
    record {
      groups = length pasts;
      accepted = count_all accepts pasts;
      taken = count_all takes pasts;
      denied = count_all denies pasts;
      cancelled = count_all cancels pasts;
      issued = count_all issues pasts;
      closed = count_all closes pasts;
      rundown = count_all runs_down pasts;
    }

-- ---- an entry more

abbrev pub with_entry : Entry → Counts → Counts
with_entry e x =
    record {
      groups = x.groups;
      accepted = x.accepted + accepts e;
      taken = x.taken + takes e;
      denied = x.denied + denies e;
      cancelled = x.cancelled + cancels e;
      issued = x.issued + issues e;
      closed = x.closed + closes e;
      rundown = x.rundown + runs_down e;
    }

abbrev pub with_group : Counts → Counts
with_group x = record x { groups = x.groups + 1 }

-- ---- as 64 bits tell them

-- a count that is told stops at the greatest number
abbrev pub stopped : ℕ → ℕ
stopped n = min n (2 ^ 64 - 1)

abbrev pub shown : Counts → Counts
shown x =
    record {
      groups = stopped x.groups;
      accepted = stopped x.accepted;
      taken = stopped x.taken;
      denied = stopped x.denied;
      cancelled = stopped x.cancelled;
      issued = stopped x.issued;
      closed = stopped x.closed;
      rundown = stopped x.rundown;
    }

-- it shows the counts of the journals
abbrev pub TellsJournals : Counts → List (List Entry) → Type 0
TellsJournals x pasts = x ≡ shown (counts_of pasts)

-- what shows some counts shows those with an entry more, or with a journal more
abbrev pub Adds : Entry → Counts → Counts → Type 0
Adds e x y = (z : Counts) → x ≡ shown z → y ≡ shown (with_entry e z)

abbrev pub AddsGroup : Counts → Counts → Type 0
AddsGroup x y = (z : Counts) → x ≡ shown z → y ≡ shown (with_group z)

-- these are the counts that it shows
abbrev pub IsWhole : Counts → Type 0
IsWhole x = (z : Counts) → x ≡ shown z → x ≡ z
