-- What folding keeps.
use Rattle.std.specs.Prelude.{◌≡◌, ℕ, ◌<◌, true, false, ◌⊎◌, ◌↔◌, None, List, [], ◌∷◌, ◌++◌}
use Rattle.std.specs.List.{list_any}
use Rattle.handle_model.specs.declared.entry.Home.{Home}
use Rattle.handle_model.specs.declared.entry.Slot.{Slot}
use Rattle.handle_model.specs.declared.entry.Entry.{Entry}
use Rattle.handle_model.specs.declared.base.Base.{Base}
use Rattle.handle_model.specs.Folds.{open_calls, base_of, advance, fold}
use Rattle.handle_model.specs.History.{History, IsSound, since, size}
use Rattle.handle_model.specs.Sound.{IsSoundBase}
use Rattle.handle_model.specs.Bases.{empty_base}
use Rattle.handle_model.specs.Journal.{Legal, Allowed, join_count, conns, accept_count, waits, runs, blocker, opened, due_items, fault_in, cookies_for, is_shut, due}
pub use Rattle.handle_model.specs.Further.{with_entries}
use Rattle.journal_tables.specs.Shown.{tables_of, base_tables}
use Rattle.journal_tables.specs.Unplaced.{unplaced}

-- a base that says what a journal says, but for places
abbrev pub Stands : Base → History → Type 0
Stands base j = unplaced (base_tables j.home base) ≡ unplaced (tables_of j)

-- further entries are legal after such a base where they are so after the journal, and then both say the same
pub record GoesOn (base : Base) (j : History) (newer : List Entry) : Type 0 where
  pub legal : Legal (since j.home base newer)
  pub tables : unplaced (tables_of (since j.home base newer)) ≡ unplaced (tables_of (with_entries j newer))

abbrev pub KeepsLegal : Type 0
KeepsLegal =
    (j : History) (base : Base) (newer : List Entry) → IsSoundBase j.home base → Stands base j → Legal (with_entries j newer)
    → GoesOn base j newer

-- a connection joined, or nothing was ever entered
abbrev pub HasBegun : History → Type 0
HasBegun j = (0 < join_count j) ⊎ (j ≡ since j.home empty_base [])

-- the same of a base
abbrev pub BaseBegun : Base → Type 0
BaseBegun base = (0 < base.joins) ⊎ (base ≡ empty_base)

-- the base that a legal journal gives is sound, where the group goes on
abbrev pub GivesSound : Type 0
GivesSound = (j : History) → Legal j → list_any is_shut j.past ≡ false → due j ≡ false → HasBegun j → IsSoundBase j.home (base_of j)

-- two journals say the same of what is still open: connections, calls with what they asked and their marks, handles
pub record SaysSame (j h : History) : Type 0 where
  pub sizes : size j ≡ size h
  pub joins : join_count j ≡ join_count h
  pub accepts : accept_count j ≡ accept_count h
  pub opens : opened j ≡ opened h
  pub conns_same : conns j ≡ conns h
  pub calls : open_calls j ≡ open_calls h
  pub waits_same : (k : ℕ) → waits j k ≡ waits h k
  pub runs_same : (k : ℕ) → runs j k ≡ runs h k
  pub blockers : (k : ℕ) → waits h k ≡ true → blocker j k ≡ blocker h k
  pub live : due_items j ≡ due_items h
  pub faults : (ss : List Slot) → fault_in j ss ≡ fault_in h ss
  pub cookies : (ss : List Slot) → fault_in h ss ≡ None → cookies_for j ss ≡ cookies_for h ss
  pub dues : due j ≡ due h
  pub allows : (e : Entry) → Allowed j e ↔ Allowed h e

-- a journal that has begun and not ended may be folded at any entry: it stays legal and settled, and says the same
pub record FoldsTo (n : ℕ) (j : History) : Type 0 where
  pub sound : IsSound (fold n j)
  pub begun : BaseBegun (fold n j).base
  pub says : SaysSame (fold n j) j

abbrev pub Folds : Type 0
Folds = (j : History) (n : ℕ) → IsSound j → list_any is_shut j.past ≡ false → BaseBegun j.base → FoldsTo n j

-- advancing by the entries of a legal journal gives the base that its selections give
abbrev pub AdvancesTo : Type 0
AdvancesTo =
    (home : Home) (base : Base) (past : List Entry) → BaseBegun base → Legal (since home base past) → list_any is_shut past ≡ false
    → advance home base past ≡ base_of (since home base past)

-- advancing by two runs of entries is advancing by both
abbrev pub AdvancesTwice : Type 0
AdvancesTwice = (home : Home) (base : Base) (newer older : List Entry) → advance home base (newer ++ older) ≡ advance home (advance home base older) newer
