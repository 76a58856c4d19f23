-- What one entry is.
use Rattle.std.specs.Prelude.{ℕ, Bool, true, false, ◌==◌, Option, Some, None, length, filter}
use Rattle.std.specs.List.{list_any}
use Rattle.handle_model.specs.declared.entry.Outcome.{Outcome}
use Rattle.handle_model.specs.declared.entry.Outcome.TheVariants.{Issue}
use Rattle.handle_model.specs.declared.entry.DueItem.{DueItem}
use Rattle.handle_model.specs.declared.entry.Entry.{Entry}
use Rattle.handle_model.specs.declared.entry.Entry.TheVariants.{Join, Accept, Take, Deny, Cancel, Orphan, End, Leave, Shut}
use Rattle.handle_model.specs.Slots.{opens}

abbrev pub joins : ℕ → Entry → Bool
joins c (Join d) = d == c
joins c _ = false

abbrev pub leaves : ℕ → Entry → Bool
leaves c (Leave d) = d == c
leaves c _ = false

abbrev pub takes : ℕ → Entry → Bool
takes k (Take m cookies) = m == k
takes k _ = false

abbrev pub denies : ℕ → Entry → Bool
denies k (Deny m slot) = m == k
denies k _ = false

abbrev pub cancels : ℕ → Entry → Bool
cancels k (Cancel m) = m == k
cancels k _ = false

abbrev pub orphans : ℕ → Entry → Bool
orphans k (Orphan m) = m == k
orphans k _ = false

abbrev pub ends : ℕ → Entry → Bool
ends k (End m results said) = m == k
ends k _ = false

-- a Take, Deny, Cancel or Orphan of the call
abbrev pub decides : ℕ → Entry → Bool
decides k (Take m cookies) = m == k
decides k (Deny m slot) = m == k
decides k (Cancel m) = m == k
decides k (Orphan m) = m == k
decides k _ = false

abbrev pub is_shut : Entry → Bool
is_shut (Shut items) = true
is_shut _ = false

abbrev pub is_join : Entry → Bool
is_join (Join c) = true
is_join _ = false

abbrev pub is_accept : Entry → Bool
is_accept (Accept k a) = true
is_accept _ = false

-- the number in a Join, an Accept and a Take
abbrev pub joined_in : Entry → Option ℕ
joined_in (Join c) = Some c
joined_in _ = None

abbrev pub accepted_in : Entry → Option ℕ
accepted_in (Accept k a) = Some k
accepted_in _ = None

abbrev pub taken_in : Entry → Option ℕ
taken_in (Take k cookies) = Some k
taken_in _ = None

-- how many handles the call that is accepted may issue
abbrev pub opens_in : Entry → ℕ
opens_in (Accept k a) = length (filter opens a.slots)
opens_in _ = 0

-- the end of a call issued h at one slot, and at one of its slots
abbrev pub issues : ℕ → Outcome → Bool
issues h (Issue serial cookie) = serial == h
issues h _ = false

abbrev pub issues_in : ℕ → Entry → Bool
issues_in h (End k results said) = list_any (issues h) results
issues_in h _ = false

-- h is run down
abbrev pub is_item_of : ℕ → DueItem → Bool
is_item_of h item = item.serial == h

abbrev pub runs_down : ℕ → Entry → Bool
runs_down h (Shut items) = list_any (is_item_of h) items
runs_down h _ = false
