-- What is answered of a call, and what it adds.
use Rattle.std.specs.Prelude.{◌≡◌, ℕ, ◌+◌, Bool, ◌&&◌, not, true, false, Option, Some, None, Result, Ok, Err, List, [], ◌∷◌, ◌++◌, take}
use Rattle.handle_model.specs.declared.entry.Slot.{Slot}
use Rattle.handle_model.specs.declared.entry.Slot.TheVariants.{Opens}
use Rattle.handle_model.specs.declared.entry.Asked.{Asked}
use Rattle.handle_model.specs.declared.entry.Outcome.{Outcome}
use Rattle.handle_model.specs.declared.entry.Said.{Said}
use Rattle.handle_model.specs.declared.entry.Entry.TheVariants.{Accept, Take, Deny, Cancel, Orphan, End}
use Rattle.handle_model.specs.declared.limits.AcceptLimit.TheVariants as limit
use Rattle.handle_model.specs.Journal.{waits, runs, is_cancelled, is_orphaned, blocker, fault, slots, cookies_for, accept_count, opened, filled}
use Rattle.handle_model.specs.History.{History}
use Rattle.handle_model.specs.Limits.{accept_limit}
use Rattle.group_core.specs.declared.answer.AcceptRefusal.{AcceptRefusal}
use Rattle.group_core.specs.declared.answer.AcceptRefusal.TheVariants.{Calls, Handles, Numbers, Memory}
use Rattle.group_core.specs.declared.answer.Taking.{Taking}
use Rattle.group_core.specs.declared.answer.Taking.TheVariants as taking
use Rattle.group_core.specs.declared.answer.Cancelled.{Cancelled}
use Rattle.group_core.specs.declared.answer.Cancelled.TheVariants as cancelled
use Rattle.group_core.specs.declared.answer.Orphaned.{Orphaned}
use Rattle.group_core.specs.declared.answer.Orphaned.TheVariants as orphaned
use Rattle.group_core.specs.declared.answer.Rest.{Rest}
use Rattle.group_core.specs.Adds.{Adds}
use Rattle.group_core.specs.Conns.{Settles}

-- what is asked, with the serials of the handles that it may issue going on from those before
abbrev pub numbered : History → Asked → Asked
numbered j a = record a { slots = filled (opened j) a.slots }

-- a call is accepted, with the next number, or what is asked comes back
abbrev pub Accepts : History → Asked → Result ℕ (Asked × AcceptRefusal) → History → Type 0
Accepts old a (Ok k) new =
    (accept_limit old a.slots ≡ None) × (k ≡ accept_count old + 1) × Adds old (Accept k (numbered old a) ∷ []) new
Accepts old a (Err (b, Calls)) new = (accept_limit old a.slots ≡ Some limit.Calls) × (b ≡ a) × Adds old [] new
Accepts old a (Err (b, Handles)) new = (accept_limit old a.slots ≡ Some limit.Handles) × (b ≡ a) × Adds old [] new
Accepts old a (Err (b, Numbers)) new = (accept_limit old a.slots ≡ Some limit.Numbers) × (b ≡ a) × Adds old [] new
Accepts old a (Err (b, Memory)) new = (b ≡ a) × Adds old [] new

-- the cookies of at most four slots, in a row of four
abbrev pub cookie_row : List (Option ℕ) → List (Option ℕ)
cookie_row cookies = take 4 (cookies ++ None ∷ None ∷ None ∷ None ∷ [])

-- the serial of the first slot that may issue a handle, 0 where none may
abbrev pub first_serial : List Slot → ℕ
first_serial [] = 0
first_serial (Opens kind serial ∷ later) = serial
first_serial (_ ∷ later) = first_serial later

-- a call is taken, denied, over already, or has to wait for another
abbrev pub Takes : History → ℕ → Taking → History → Type 0
Takes old k (taking.Run row serial) new =
    (waits old k ≡ true) × (blocker old k ≡ None) × (fault old k ≡ None)
    × (row ≡ cookie_row (cookies_for old (slots old k))) × (serial ≡ first_serial (slots old k))
    × Adds old (Take k (cookies_for old (slots old k)) ∷ []) new
Takes old k (taking.Denied slot) new =
    (waits old k ≡ true) × (blocker old k ≡ None) × (fault old k ≡ Some slot) × Adds old (Deny k slot ∷ []) new
Takes old k taking.Dropped new = (waits old k ≡ false) × Adds old [] new
Takes old k (taking.Wait m) new = (waits old k ≡ true) × (blocker old k ≡ Some m) × Adds old [] new

-- a running call without such an entry
abbrev pub is_cancellable : History → ℕ → Bool
is_cancellable j k = runs j k && not (is_cancelled j k)

abbrev pub is_orphanable : History → ℕ → Bool
is_orphanable j k = runs j k && not (is_orphaned j k)

-- a call ends where it waited, is told where it runs, and else it is too late
abbrev pub Cancels : History → ℕ → Cancelled → History → Type 0
Cancels old k cancelled.Ended new = (waits old k ≡ true) × Adds old (Cancel k ∷ []) new
Cancels old k cancelled.Flagged new = (is_cancellable old k ≡ true) × Adds old (Cancel k ∷ []) new
Cancels old k cancelled.Late new = (waits old k ≡ false) × (is_cancellable old k ≡ false) × Adds old [] new

-- a call ends where it waited, loses its answer where it runs, and else it is too late
abbrev pub Orphans : History → ℕ → Orphaned → History → Type 0
Orphans old k orphaned.Dropped new = (waits old k ≡ true) × Adds old (Orphan k ∷ []) new
Orphans old k orphaned.Running new = (is_orphanable old k ≡ true) × Adds old (Orphan k ∷ []) new
Orphans old k orphaned.Late new = (waits old k ≡ false) × (is_orphanable old k ≡ false) × Adds old [] new

abbrev pub Ends : History → ℕ → List Outcome → Said → Rest → History → Type 0
Ends old k results said rest new = Settles old (End k results said) rest new
