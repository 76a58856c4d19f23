-- What the table of a legal journal shows: its live handles are those of the journal.
use Rattle.std.specs.Prelude.{◌≡◌, ℕ, ◌+◌, ◌≤◌, true, Some, None, if◌then◌else◌, List, [], ◌∷◌, length, filter}
use Rattle.handle_model.specs.declared.entry.Home.{Home}
use Rattle.handle_model.specs.declared.base.Base.{Base}
use Rattle.handle_model.specs.declared.entry.Slot.{Slot}
use Rattle.handle_model.specs.declared.entry.Outcome.{Outcome}
use Rattle.handle_model.specs.declared.entry.Said.{Said}
use Rattle.handle_model.specs.declared.entry.DueItem.{DueItem}
use Rattle.handle_model.specs.declared.entry.Entry.{Entry}
use Rattle.handle_model.specs.declared.entry.Entry.TheVariants.{End, Shut}
use Rattle.handle_model.specs.Slots.{opens}
use Rattle.handle_model.specs.History.{History, since, with_entry}
use Rattle.handle_model.specs.Sound.{IsSoundBase}
use Rattle.handle_model.specs.Journal.{Legal, is_live, kind, cookie, slots, fault_in, cookies_for, due_item, due_items}
use Rattle.handle_table.specs.Handles.{item_at}
use Rattle.handle_table.specs.Uses.{fault_at, cookies_at}
use Rattle.handle_table.specs.Ended.{ended}

-- the live handles of a base are its handles
abbrev pub ShowsBase : Type 0
ShowsBase = (home : Home) (base : Base) → IsSoundBase home base → due_items (since home base []) ≡ base.handles

-- a serial is found exactly where its handle is live, with its kind and its cookie
abbrev pub ShowsLive : Type 0
ShowsLive =
    (j : History) (h : ℕ) → Legal j
    → item_at (due_items j) h ≡ (if is_live j h then Some (due_item j h) else None)

-- those are the kind of the slot that issued it and the cookie that was given last
abbrev pub ShowsKind : Type 0
ShowsKind =
    (j : History) (h : ℕ) → Legal j → is_live j h ≡ true
    → (kind j h ≡ Some (due_item j h).kind) × (cookie j h ≡ Some (due_item j h).cookie)

-- a call's first slot at fault is the same, and so are its cookies where there is none
abbrev pub ShowsFaults : Type 0
ShowsFaults = (j : History) (ss : List Slot) → Legal j → fault_at j.home (due_items j) ss ≡ fault_in j ss

abbrev pub ShowsCookies : Type 0
ShowsCookies =
    (j : History) (ss : List Slot) → Legal j → fault_in j ss ≡ None
    → cookies_at j.home (due_items j) ss ≡ cookies_for j ss

-- the list that an entry leaves
abbrev pub left_by : History → List DueItem → Entry → List DueItem
left_by j items (End k results said) = ended j.home (slots j k) results items
left_by j items (Shut due) = []
left_by j items _ = items

abbrev pub FollowsEntries : Type 0
FollowsEntries =
    (j : History) (e : Entry) → Legal (with_entry j e) → due_items (with_entry j e) ≡ left_by j (due_items j) e

-- the end of a call adds no more than its slots may issue
abbrev pub GrowsWithin : Type 0
GrowsWithin =
    (j : History) (k : ℕ) (results : List Outcome) (said : Said) → Legal (with_entry j (End k results said))
    → length (due_items (with_entry j (End k results said))) ≤ length (due_items j) + length (filter opens (slots j k))
