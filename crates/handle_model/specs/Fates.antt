-- What becomes of the handles of a legal history, whose newest entry is its first.
use Rattle.std.specs.Prelude.{◌≡◌, ◌≢◌, ℕ, ◌+◌, true, if◌then◌else◌, Some, List, [], ◌∷◌, ◌++◌, length, filter, slice_get}
use Rattle.rpc_base.specs.declared.identifiers.WireHandle.{WireHandle}
use Rattle.handle_model.specs.declared.entry.Home.{Home}
use Rattle.handle_model.specs.declared.entry.Slot.{Slot}
use Rattle.handle_model.specs.declared.entry.Outcome.{Outcome}
use Rattle.handle_model.specs.declared.entry.Outcome.TheVariants.{Close}
use Rattle.handle_model.specs.declared.entry.Said.{Said}
use Rattle.handle_model.specs.declared.entry.Entry.{Entry}
use Rattle.handle_model.specs.declared.entry.Entry.TheVariants.{End, Shut}
use Rattle.handle_model.specs.declared.base.Base.{Base}
use Rattle.handle_model.specs.Slots.{wire_of, names}
use Rattle.handle_model.specs.History.{History, since}
use Rattle.handle_model.specs.Journal.{Legal, slots, issues, closes, is_item_of, is_issued, is_live}

-- how often the handle was issued: it stands among the base's handles, or an End issued it
abbrev pub issuings_since : Base → List Entry → ℕ → ℕ
issuings_since base [] h = length (filter (is_item_of h) base.handles)
issuings_since base (End k results said ∷ past) h = length (filter (issues h) results) + issuings_since base past h
issuings_since base (_ ∷ past) h = issuings_since base past h

abbrev pub issuings : History → ℕ → ℕ
issuings j h = issuings_since j.base j.past h

-- at how many slots it was closed
abbrev pub closed_slots : WireHandle → List Slot → List Outcome → ℕ
closed_slots wire (s ∷ ss) (o ∷ os) = (if closes wire s o then 1 else 0) + closed_slots wire ss os
closed_slots wire [] os = 0
closed_slots wire (s ∷ ss) [] = 0

abbrev pub closings_since : Home → Base → List Entry → ℕ → ℕ
closings_since home base [] h = 0
closings_since home base (End k results said ∷ past) h =
    closed_slots (wire_of home h) (slots (since home base past) k) results + closings_since home base past h
closings_since home base (_ ∷ past) h = closings_since home base past h

abbrev pub closings : History → ℕ → ℕ
closings j h = closings_since j.home j.base j.past h

-- how often it stands in a Shut
abbrev pub rundowns : List Entry → ℕ → ℕ
rundowns [] h = 0
rundowns (Shut items ∷ past) h = length (filter (is_item_of h) items) + rundowns past h
rundowns (_ ∷ past) h = rundowns past h

-- a handle that was issued was issued once, and is live, or closed once, or run down once
abbrev pub OneFate : Type 0
OneFate =
    (j : History) (h : ℕ) → Legal j → is_issued j h ≡ true
    → (issuings j h ≡ 1) × (closings j h + rundowns j.past h + (if is_live j h then 1 else 0) ≡ 1)

-- the place among a call's slots at which its results close the handle of this wire value
pub record ClosesAt (wire : WireHandle) (slots : List Slot) (results : List Outcome) : Type 0 where
  pub place : ℕ
  pub slot : Slot
  pub is_slot : slice_get slots place ≡ Some slot
  pub names_it : names wire slot ≡ true
  pub is_closed : slice_get results place ≡ Some Close

-- an End that closed the handle, behind the newer entries; the call's slots are those of the entries older than it
pub record ClosedBy (j : History) (h : ℕ) : Type 0 where
  pub call : ℕ
  pub results : List Outcome
  pub said : Said
  pub newer : List Entry
  pub older : List Entry
  pub is : j.past ≡ newer ++ End call results said ∷ older
  pub at : ClosesAt (wire_of j.home h) (slots (since j.home j.base older) call) results

-- a handle that was closed was closed by the End of a call, at a slot that names it
abbrev pub ClosingsAreEnds : Type 0
ClosingsAreEnds = (j : History) (h : ℕ) → closings j h ≢ 0 → ClosedBy j h
