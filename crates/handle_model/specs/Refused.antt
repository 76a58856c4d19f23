-- Which slots are at fault in every legal history, whose newest entry is its first.
use Rattle.std.specs.Prelude.{◌≡◌, ◌≢◌, ℕ, ◌^◌, ◌<◌, ◌≤◌, ◌↔◌, Bool, true, ◌&&◌, Option, Some, List, ◌∷◌, ◌++◌, length}
use Rattle.std.specs.List.{list_any}
use Rattle.rpc_base.specs.declared.identifiers.WireHandle.{WireHandle}
use Rattle.handle_model.specs.declared.entry.Home.{Home}
use Rattle.handle_model.specs.declared.entry.Slot.{Slot}
use Rattle.handle_model.specs.declared.entry.Entry.TheVariants.{Take}
use Rattle.handle_model.specs.Slots.{wire_of, kind_of, named, names, is_null, is_exclusive}
use Rattle.handle_model.specs.History.{History}
use Rattle.handle_model.specs.Journal.{Legal, Allowed, is_live, kind, is_usable, is_at_fault, fault, slots}

-- WHAT A SLOT MAY NAME

-- the slot names a live handle of its kind
pub record NamesLive (j : History) (s : Slot) : Type 0 where
  pub serial : ℕ
  pub name : named s ≡ Some (wire_of j.home serial)
  pub live : is_live j serial ≡ true
  pub its_kind : kind j serial ≡ Some (kind_of s)

-- that, and nothing else, makes a slot usable
abbrev pub UsableNamesLive : Type 0
UsableNamesLive = (j : History) (s : Slot) → (is_usable j s ≡ true) ↔ NamesLive j s

-- a slot that names null is at fault, whatever slots stand beside it
abbrev pub NullAtFault : Type 0
NullAtFault =
    (j : History) (earlier all : List Slot) (s : Slot) (wire : WireHandle) → Legal j
    → named s ≡ Some wire → is_null wire ≡ true → is_at_fault j earlier all s ≡ true

-- and so is one that names a handle of another group or another server
abbrev pub ForeignAtFault : Type 0
ForeignAtFault =
    (j : History) (other : Home) (earlier all : List Slot) (s : Slot) (serial : ℕ) → Legal j
    → j.home.group < 2 ^ 32 → other.group < 2 ^ 32 → serial < 2 ^ 32 → other ≢ j.home → named s ≡ Some (wire_of other serial)
    → is_at_fault j earlier all s ≡ true

-- a slot names the handle for its call alone
abbrev pub any_alone : WireHandle → List Slot → Bool
any_alone wire all = list_any (λ t. names wire t && is_exclusive t) all

-- a handle that a call names twice, one of the uses being exclusive, is at fault at its second slot
abbrev pub TwiceAtFault : Type 0
TwiceAtFault =
    (j : History) (front middle rest : List Slot) (s t : Slot) (wire : WireHandle)
    → named s ≡ Some wire → named t ≡ Some wire → any_alone wire (front ++ s ∷ middle ++ t ∷ rest) ≡ true
    → is_at_fault j (front ++ s ∷ middle) (front ++ s ∷ middle ++ t ∷ rest) t ≡ true

-- WHAT A SLOT AT FAULT DOES

-- the call's first slot at fault stands at a place up to that one, and no Take of the call is allowed
pub record RefusedBy (j : History) (k place : ℕ) : Type 0 where
  pub slot : ℕ
  pub first : fault j k ≡ Some slot
  pub within : slot ≤ place
  pub untaken : (cookies : List (Option ℕ)) → Allowed j (Take k cookies) → ⊥

-- a call with a slot at fault is not taken
abbrev pub FaultRefuses : Type 0
FaultRefuses =
    (j : History) (k : ℕ) (front rest : List Slot) (s : Slot) → slots j k ≡ front ++ s ∷ rest
    → is_at_fault j front (slots j k) s ≡ true → RefusedBy j k (length front)
