-- What tables say of a group, which entry may come next by them, and what it makes of them.
use Rattle.std.specs.Prelude.{◌≡◌, ℕ, suc, ◌+◌, ◌<◌, ◌≤◌, ◌^◌, Bool, true, false, ◌&&◌, ◌||◌, not, ◌==◌, IsTrue, Option, Some, None, if◌then◌else◌, List, [], ◌∷◌, ◌++◌, length, filter}
use Rattle.std.specs.List.{list_any}
use Rattle.handle_model.specs.declared.entry.Home.{Home}
use Rattle.handle_model.specs.declared.entry.DueItem.{DueItem}
use Rattle.handle_model.specs.declared.entry.Entry.{Entry}
use Rattle.handle_model.specs.declared.entry.Entry.TheVariants.{Join, Accept, Take, Deny, Cancel, Orphan, End, Leave, Shut}
use Rattle.handle_model.specs.Slots.{opens}
use Rattle.handle_model.specs.Journal.{is_join, is_accept, is_shut, opens_in, follow, suit}
use Rattle.handle_table.specs.Uses.{fault_at, cookies_at}
use Rattle.handle_table.specs.Ended.{ended, issue_count}
use Rattle.call_table.specs.declared.row.Row.{Row}
use Rattle.call_table.specs.Rows.{row_at, slots_at, conflict_of, over, is_running}
use Rattle.call_table.specs.Laws as rows
use Rattle.journal_tables.specs.declared.conns.OpenConn.{OpenConn}
use Rattle.journal_tables.specs.Conns.{has_open, without}

-- whose they are, the live handles, the calls that wait or run, the open connections, how many joined and were
-- accepted, the last serial that may be issued, and whether the group has ended
pub record Tables : Type 0 where
  pub home : Home
  pub items : List DueItem
  pub rows : List Row
  pub conns : List OpenConn
  pub joins : ℕ
  pub accepts : ℕ
  pub opens : ℕ
  pub shut : Bool

-- and for how many more connections, calls and handles there is room
pub record Roomy : Type 0 where
  pub tables : Tables
  pub conn_room : ℕ
  pub call_room : ℕ
  pub handle_room : ℕ

-- A ROW

-- is that of a waiting call, of a running one, of one that may yet be cancelled or orphaned
abbrev pub waits_in : Option Row → Bool
waits_in None = false
waits_in (Some r) = not r.runs

abbrev pub runs_in : Option Row → Bool
runs_in None = false
runs_in (Some r) = r.runs

abbrev pub cancels_in : Option Row → Bool
cancels_in None = false
cancels_in (Some r) = not r.runs || not r.cancelled

abbrev pub orphans_in : Option Row → Bool
orphans_in None = false
orphans_in (Some r) = not r.runs || not r.orphaned

-- A WAITING CALL THAT NO OTHER STANDS IN THE WAY OF

-- has a handle at each of its slots, with these cookies
abbrev pub IsTakable : List Row → ℕ → Home → List DueItem → List (Option ℕ) → Type 0
IsTakable rows k home items cookies =
    IsTrue (waits_in (row_at rows k)) × (conflict_of rows k ≡ None) × (fault_at home items (slots_at rows k) ≡ None)
    × (cookies ≡ cookies_at home items (slots_at rows k))

-- has its first slot without its handle here
abbrev pub IsDeniable : List Row → ℕ → Home → List DueItem → ℕ → Type 0
IsDeniable rows k home items slot =
    IsTrue (waits_in (row_at rows k)) × (conflict_of rows k ≡ None) × (fault_at home items (slots_at rows k) ≡ Some slot)

-- WHICH ENTRY MAY COME

-- a connection joined, none is open, no call runs, and the group has not ended
abbrev pub is_due : Tables → Bool
is_due t = not (t.joins == 0) && not t.shut && (length t.conns == 0) && not (list_any is_running t.rows)

-- what the entry itself needs
abbrev pub FitsIn : Tables → Entry → Type 0
FitsIn t (Join c) = (c ≡ t.joins + 1) × (c < 2 ^ 32)
FitsIn t (Accept k a) =
    (k ≡ t.accepts + 1) × IsTrue (over k t.rows) × IsTrue (has_open t.conns a.conn) × (length a.slots ≤ 4) × IsTrue (follow t.opens a.slots)
    × (t.opens + length (filter opens a.slots) < 2 ^ 32) × (k < 2 ^ 32)
FitsIn t (Take k cookies) =
    IsTrue (waits_in (row_at t.rows k)) × (conflict_of t.rows k ≡ None) × (fault_at t.home t.items (slots_at t.rows k) ≡ None)
    × (cookies ≡ cookies_at t.home t.items (slots_at t.rows k))
FitsIn t (Deny k slot) =
    IsTrue (waits_in (row_at t.rows k)) × (conflict_of t.rows k ≡ None) × (fault_at t.home t.items (slots_at t.rows k) ≡ Some slot)
FitsIn t (Cancel k) = IsTrue (cancels_in (row_at t.rows k))
FitsIn t (Orphan k) = IsTrue (orphans_in (row_at t.rows k))
FitsIn t (End k results said) = IsTrue (runs_in (row_at t.rows k)) × IsTrue (suit (slots_at t.rows k) results)
FitsIn t (Leave c) = IsTrue (has_open t.conns c)
FitsIn t (Shut items) = IsTrue (is_due t) × (items ≡ t.items)

pub record Admits (t : Tables) (entry : Entry) : Type 0 where
  pub before_shut : t.shut ≡ false
  pub shut_when_due : is_due t ≡ true → is_shut entry ≡ true
  pub fits : FitsIn t entry

-- WHAT IT MAKES OF THEM

-- whether the call that an entry speaks of runs
abbrev pub speaks_of_running : Tables → Entry → Bool
speaks_of_running t (Cancel k) = runs_in (row_at t.rows k)
speaks_of_running t (Orphan k) = runs_in (row_at t.rows k)
speaks_of_running t _ = false

abbrev pub items_after : Tables → Entry → List DueItem
items_after t (End k results said) = ended t.home (slots_at t.rows k) results t.items
items_after t (Shut due) = []
items_after t _ = t.items

-- the entry stands at this place
abbrev pub conns_after : Tables → ℕ → Entry → List OpenConn
conns_after t place (Join c) = t.conns ++ record { conn = c; place = place } ∷ []
conns_after t place (Leave c) = without c t.conns
conns_after t place _ = t.conns

abbrev pub entered : Tables → ℕ → Entry → Tables
entered t place e =
    record {
      home = t.home;
      items = items_after t e;
      rows = rows.left_by t.rows place e (speaks_of_running t e);
      conns = conns_after t place e;
      joins = if is_join e then suc t.joins else t.joins;
      accepts = if is_accept e then suc t.accepts else t.accepts;
      opens = opens_in e + t.opens;
      shut = is_shut e || t.shut;
    }

-- there is room for it
abbrev pub HasRoom : Roomy → Entry → Type 0
HasRoom v (Join c) = 1 ≤ v.conn_room
HasRoom v (Accept k a) = 1 ≤ v.call_room
HasRoom v (End k results said) = issue_count results ≤ v.handle_room
HasRoom v _ = Unit {0}
