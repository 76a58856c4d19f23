-- What a group makes where its older entries move into the base.
use Rattle.std.specs.Prelude.{◌≡◌, ℕ, ◌+◌, ◌-◌, ◌≤◌, ◌<◌, false, ◌&&◌, min, unwrap_or, List, length, reverse, take, drop}
use Rattle.std.specs.List.{list_any}
use Rattle.handle_model.specs.declared.entry.Home.{Home}
use Rattle.handle_model.specs.declared.base.Base.{Base}
use Rattle.handle_model.specs.Bases.{is_call}
use Rattle.handle_model.specs.Journal.{is_shut, least}
use Rattle.handle_model.specs.Folds.{advance, folded}
use Rattle.handle_model.specs.History.{History, IsSound, history_of}
use Rattle.handle_table.specs.Handles.{Handles}
use Rattle.call_table.specs.declared.row.Row.{Row}
use Rattle.call_table.specs.Rows.{OpenCalls, running_places}
use Rattle.journal_tables.specs.declared.conns.OpenConn.{OpenConn}
use Rattle.journal_tables.specs.Floor.{open_places, lesser_of}
use Rattle.journal_tables.specs.Folding.{BaseBegun}
use Rattle.group_core.specs.declared.counts.Counts.{Counts}
use Rattle.group_core.specs.Owed.{owed}
use Rattle.group_core.specs.Marks.{Marked, is_marked}
use Rattle.group_core.specs.Kept.{Logged, Same, logged, accepted_in, is_asked_in, Shows}

-- how many entries stand before the Join of each open connection and the Accept of each running call
abbrev pub older_count : Logged → List Row → List OpenConn → ℕ
older_count log rows conns =
    min (unwrap_or (lesser_of (least (open_places conns)) (least (running_places rows))) (log.base.count + length log.entries) - log.base.count)
    (length log.entries)

-- the base after the n oldest entries, and the journal that goes on from it
abbrev pub base_after : Home → Logged → ℕ → Base
base_after home log n = advance home log.base (reverse (take n log.entries))

abbrev pub rest_after : Home → Logged → ℕ → History
rest_after home log n = history_of home (base_after home log n) (drop n log.entries)

-- the marks from a base on that stands for the older entries, with room for so many more
pub record MarksLeft (log : Logged) (base : Base) (more : ℕ) (m : Marked) : Type 0 where
  pub first_is : m.first ≡ base.accepts
  pub counts : m.first + length m.later ≡ accepted_in log
  pub early_is : (k : ℕ) → k ≤ base.accepts → is_marked m k ≡ (list_any (is_call k) base.calls && is_asked_in log k)
  pub later_is : (k : ℕ) → base.accepts < k → is_marked m k ≡ is_asked_in log k
  pub room : log.spare + more ≤ m.room

-- BEFORE A JOIN

-- the journal is folded, and there is room for a connection more, its Leave and its Join
pub record IsReady (home : Home) (log new : Logged) (handles : Handles) (calls : OpenCalls) (counts counts' : Counts) : Type 0 where
  pub folds : logged home new ≡ folded (logged home log)
  pub sound : IsSound (logged home new)
  pub begun : BaseBegun new.base
  pub unshut : list_any is_shut (logged home new).past ≡ false
  pub owes : owed (logged home new) + 2 ≡ new.spare
  pub shows : Shows (logged home new) handles calls counts'
  pub conn_room : 1 ≤ counts'.conns.room
  pub joined_same : counts'.joined ≡ counts.joined

-- nothing changed but the room for a connection
pub record IsUnready (log new : Logged) (counts counts' : Counts) : Type 0 where
  pub same : Same log new
  pub spare : new.spare ≡ log.spare
  pub conns_same : counts'.conns.conns ≡ counts.conns.conns
  pub joined_same : counts'.joined ≡ counts.joined
  pub accepted_same : counts'.accepted ≡ counts.accepted
  pub opened_same : counts'.opened ≡ counts.opened
