-- What holds of the running calls of a legal history, whose newest entry is its first.
use Rattle.std.specs.Prelude.{◌≡◌, ◌≢◌, ℕ, true, false, Option, Some, is_some, List, [], ◌∷◌}
use Rattle.handle_model.specs.declared.entry.Slot.{Slot}
use Rattle.handle_model.specs.declared.entry.Entry.{Entry}
use Rattle.handle_model.specs.declared.entry.Entry.TheVariants.{Take}
use Rattle.handle_model.specs.Slots.{wire_of, named}
use Rattle.handle_model.specs.History.{History, with_entry}
use Rattle.handle_model.specs.Journal.{Legal, is_issued, is_taken, runs, conflict, slots, is_usable}
use Rattle.handle_model.specs.Further.{with_entries}

-- two running calls don't conflict
abbrev pub RunningApart : Type 0
RunningApart = (j : History) (k m : ℕ) → Legal j → runs j k ≡ true → runs j m ≡ true → k ≢ m → conflict j k m ≡ false

-- each slot that names a handle names a live one of its kind
abbrev pub AllUsable : History → List Slot → Type 0
AllUsable j [] = Unit {0}
AllUsable j (s ∷ ss) = (is_some (named s) ≡ true → is_usable j s ≡ true) × AllUsable j ss

-- every handle that a running call names is live, with the slot's kind
abbrev pub NamedLive : Type 0
NamedLive = (j : History) (k : ℕ) → Legal j → runs j k ≡ true → AllUsable j (slots j k)

-- and it was so when the call was taken
abbrev pub TakenLive : Type 0
TakenLive =
    (j : History) (newer : List Entry) (k : ℕ) (cookies : List (Option ℕ)) → Legal (with_entries (with_entry j (Take k cookies)) newer)
    → AllUsable j (slots j k)

-- a slot that names a handle names one of the group that was issued, or stands among the base's
pub record NamesIssued (j : History) (s : Slot) : Type 0 where
  pub serial : ℕ
  pub name : named s ≡ Some (wire_of j.home serial)
  pub issued : is_issued j serial ≡ true

abbrev pub AllIssued : History → List Slot → Type 0
AllIssued j [] = Unit {0}
AllIssued j (s ∷ ss) = (is_some (named s) ≡ true → NamesIssued j s) × AllIssued j ss

-- a call that was taken names no other handles, then and ever after
abbrev pub TakenIssued : Type 0
TakenIssued = (j : History) (k : ℕ) → Legal j → is_taken j k ≡ true → AllIssued j (slots j k)
