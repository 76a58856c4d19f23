-- What stands beside the rows of the open calls.
use Rattle.std.specs.Prelude.{◌≡◌, ℕ, Bool, true, false, ◌&&◌, ◌||◌, not, ◌==◌, Option, Some, None, ◌⊎◌, List, [], ◌∷◌}
use Rattle.std.specs.Ordering.{nat_cmp, ordering_then}
use Rattle.std.specs.declared.cmp.Ordering.{Ordering}
use Rattle.std.specs.BTreeSet.{BTreeSet, contains}
use Rattle.rpc_base.specs.declared.identifiers.WireHandle.{WireHandle}
use Rattle.handle_model.specs.declared.entry.Slot.{Slot}
use Rattle.handle_model.specs.Slots.{named, is_exclusive}
use Rattle.call_table.specs.declared.row.Row.{Row}
use Rattle.call_table.specs.Rows.{is_left, row_at}
use Rattle.audit_tables.specs.declared.index.Index.{Index}
use Rattle.audit_tables.specs.Users.{Use, has, IsUsedBefore, claims, holds_in}

abbrev pub pair_cmp : ℕ × ℕ → ℕ × ℕ → Ordering
pair_cmp x y = ordering_then (nat_cmp x.0 y.0) (nat_cmp x.1 y.1)

abbrev pub has_waiting : BTreeSet (ℕ × ℕ) → ℕ → ℕ → Bool
has_waiting waiting c k = contains pair_cmp waiting (c, k)

-- the sets have what the rows say
abbrev pub UsersAre : Bool → List Row → BTreeSet Use → Type 0
UsersAre any rows users = (w : WireHandle) (waits : Bool) (k : ℕ) → has users w waits k ≡ holds_in (claims any w waits) (row_at rows k)

pub record IsOf (rows : List Row) (index : Index) : Type 0 where
  pub any_are : UsersAre true rows index.any
  pub exclusive_are : UsersAre false rows index.exclusive
  pub waiting_are : (c k : ℕ) → has_waiting index.waiting c k ≡ holds_in (is_left c) (row_at rows k)

-- the row is that of call k, and it is so
abbrev pub is_of : (Row → Bool) → ℕ → Row → Bool
is_of p k r = p r && (r.call == k)

-- a row more
pub record Enters (old : Index) (r : Row) (new : Index) : Type 0 where
  pub any_more : (w : WireHandle) (b : Bool) (k : ℕ) → has new.any w b k ≡ (is_of (claims true w b) k r || has old.any w b k)
  pub exclusive_more : (w : WireHandle) (b : Bool) (k : ℕ) → has new.exclusive w b k ≡ (is_of (claims false w b) k r || has old.exclusive w b k)
  pub waiting_more : (c k : ℕ) → has_waiting new.waiting c k ≡ (is_of (is_left c) k r || has_waiting old.waiting c k)

-- and a row less
pub record Leaves (old : Index) (r : Row) (new : Index) : Type 0 where
  pub any_less : (w : WireHandle) (b : Bool) (k : ℕ) → has new.any w b k ≡ (not (is_of (claims true w b) k r) && has old.any w b k)
  pub exclusive_less : (w : WireHandle) (b : Bool) (k : ℕ) → has new.exclusive w b k ≡ (not (is_of (claims false w b) k r) && has old.exclusive w b k)
  pub waiting_less : (c k : ℕ) → has_waiting new.waiting c k ≡ (not (is_of (is_left c) k r) && has_waiting old.waiting c k)

-- a call that uses the slot's handle comes before call k, and one of the two uses excludes the other
abbrev pub Before : Index → Bool → Option WireHandle → ℕ → Type 0
Before index exclusive None k = ⊥
Before index true (Some w) k = IsUsedBefore index.any w k
Before index false (Some w) k = IsUsedBefore index.exclusive w k

abbrev pub AnyBefore : Index → List Slot → ℕ → Type 0
AnyBefore index [] k = ⊥
AnyBefore index (s ∷ ss) k = Before index (is_exclusive s) (named s) k ⊎ AnyBefore index ss k
