-- Which entry may come next, and what a legal journal is.
use Rattle.std.specs.Prelude.{◌≡◌, ℕ, ◌+◌, ◌≤◌, ◌<◌, ◌^◌, Bool, true, false, ◌&&◌, ◌||◌, not, ◌==◌, IsTrue, Some, None, if◌then◌else◌, List, [], ◌∷◌, length, filter}
use Rattle.std.specs.List.{list_any}
use Rattle.handle_model.specs.declared.entry.Home.{Home}
use Rattle.handle_model.specs.declared.entry.Slot.{Slot}
use Rattle.handle_model.specs.declared.entry.Slot.TheVariants.{Shares, Holds, Changes, Opens}
use Rattle.handle_model.specs.declared.entry.Outcome.{Outcome}
use Rattle.handle_model.specs.declared.entry.Outcome.TheVariants.{Keep, Close, Issue, Nothing}
use Rattle.handle_model.specs.declared.entry.Entry.{Entry}
use Rattle.handle_model.specs.declared.entry.Entry.TheVariants.{Join, Accept, Take, Deny, Cancel, Orphan, End, Leave, Shut}
use Rattle.handle_model.specs.declared.base.Base.{Base}
use Rattle.handle_model.specs.Slots.{opens, with_serial}
use Rattle.handle_model.specs.Since.{History, since}
use Rattle.handle_model.specs.Entries.{is_shut}
use Rattle.handle_model.specs.Calls.{join_count, is_open, conns, accept_count, slots, waits, runs, running, is_cancelled, is_orphaned, blocker}
use Rattle.handle_model.specs.Handles.{opened, fault, cookies_for, due_items}
use Rattle.handle_model.specs.Sound.{IsSoundBase}

-- SERIALS AND RESULTS

-- the serials of the slots that may issue a handle go on from n
abbrev pub follow : ℕ → List Slot → Bool
follow n [] = true
follow n (Opens _ serial ∷ later) = (serial == n + 1) && follow (n + 1) later
follow n (_ ∷ later) = follow n later

-- the serial that follows n where the slot may issue a handle
abbrev pub next_serial : ℕ → Slot → ℕ
next_serial n s = if opens s then n + 1 else n

-- the slots with the serials of those that may issue a handle going on from n
abbrev pub filled : ℕ → List Slot → List Slot
filled n [] = []
filled n (s ∷ later) = with_serial (next_serial n s) s ∷ filled (next_serial n s) later

-- what the end of a call may do at a slot
abbrev pub suits : Slot → Outcome → Bool
suits (Shares _ w) Nothing = true
suits (Holds _ w) Nothing = true
suits (Changes _ w) (Keep c) = true
suits (Changes _ w) Close = true
suits (Opens _ serial) Nothing = true
suits (Opens _ serial) (Issue h c) = h == serial
suits _ _ = false

-- one result for each slot, which suits it
abbrev pub suit : List Slot → List Outcome → Bool
suit [] [] = true
suit (s ∷ ss) (o ∷ os) = suits s o && suit ss os
suit [] (o ∷ os) = false
suit (s ∷ ss) [] = false

-- THE END OF A GROUP

abbrev pub is_empty : List ℕ → Bool
is_empty [] = true
is_empty (n ∷ ns) = false

-- a connection joined, none is open, no call runs, and there is no Shut
abbrev pub due : History → Bool
due j = not (join_count j == 0) && not (list_any is_shut j.past) && is_empty (conns j) && is_empty (running j)

-- RULES

-- what the entry itself needs of the journal before it
abbrev pub Fits : History → Entry → Type 0
Fits j (Join c) = (c ≡ join_count j + 1) × (c < 2 ^ 32)
Fits j (Accept k a) =
    (k ≡ accept_count j + 1) × IsTrue (is_open j a.conn) × (length a.slots ≤ 4) × IsTrue (follow (opened j) a.slots)
    × (opened j + length (filter opens a.slots) < 2 ^ 32) × (k < 2 ^ 32)
Fits j (Take k cookies) = IsTrue (waits j k) × (blocker j k ≡ None) × (fault j k ≡ None) × (cookies ≡ cookies_for j (slots j k))
Fits j (Deny k slot) = IsTrue (waits j k) × (blocker j k ≡ None) × (fault j k ≡ Some slot)
Fits j (Cancel k) = IsTrue (waits j k || runs j k && not (is_cancelled j k))
Fits j (Orphan k) = IsTrue (waits j k || runs j k && not (is_orphaned j k))
Fits j (End k results said) = IsTrue (runs j k) × IsTrue (suit (slots j k) results)
Fits j (Leave c) = IsTrue (is_open j c)
Fits j (Shut items) = IsTrue (due j) × (items ≡ due_items j)

-- an entry that may come next
pub record Allowed (j : History) (entry : Entry) : Type 0 where
  pub before_shut : list_any is_shut j.past ≡ false
  pub shut_when_due : due j ≡ true → is_shut entry ≡ true
  pub fits : Fits j entry

-- the base is sound, and each entry was allowed after those before it
abbrev pub LegalSince : Home → Base → List Entry → Type 0
LegalSince home base [] = IsSoundBase home base
LegalSince home base (entry ∷ past) = Allowed (since home base past) entry × LegalSince home base past

abbrev pub Legal : History → Type 0
Legal j = LegalSince j.home j.base j.past
