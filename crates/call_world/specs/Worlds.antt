-- A program's world, the world that it is, and whether a move's condition holds there.
use Rattle.std.specs.Prelude.{◌≡◌, ℕ, ◌<◌, Bool, true, false, Some, List, [], ◌∷◌, length, map, slice_get}
use Rattle.ndr_table.specs.Shown.{shown}
use Rattle.world_laws.specs.Ends.{Line}
use Rattle.world_laws.specs.Moves.{Move}
use Rattle.world_laws.specs.Leading.{MayCome}
use Rattle.handle_model.specs.declared.entry.Entry.{Entry}
use Rattle.world_laws.specs.Worlds.{World, Started, Plays, GoesOnFor}
use Rattle.world_server.specs.Servers.{seen, IsWhole, Goes}
use Rattle.call_world.specs.Lines.{IsLine}
use Rattle.call_world.specs.declared.line.Line.{Line as Wire}
use Rattle.call_world.specs.declared.world.Started.{Started as Place}
use Rattle.call_world.specs.declared.world.World.{World as Machine}

abbrev pub started_of : Place → Started
started_of p = record { line = p.line; place = p.place }

-- each is the connection at the same place
pub record AreLines (ts : List Wire) (ls : List Line) : Type 0 where
  pub count : length ts ≡ length ls
  pub each : (i : ℕ) (t : Wire) (l : Line) → slice_get ts i ≡ Some t → slice_get ls i ≡ Some l → IsLine t l

-- no two have one name
abbrev pub AreApart : List Line → Type 0
AreApart ls = (i j : ℕ) (l m : Line) → slice_get ls i ≡ Some l → slice_get ls j ≡ Some m → l.name ≡ m.name → i ≡ j

-- each call that was started has its row among those of its connection
abbrev pub HasRow : List Line → Started → Type 0
HasRow ls s = (l : Line) × (slice_get ls s.line ≡ Some l) × (s.place < length l.caller.rows)

abbrev pub HaveRows : List Line → List Started → Type 0
HaveRows ls ss = (n : ℕ) (s : Started) → slice_get ss n ≡ Some s → HasRow ls s

pub record IsWorld (x : Machine) (w : World) : Type 0 where
  pub lines : AreLines x.lines.items w.lines
  pub apart : AreApart w.lines
  pub past : (seen x.server).past ≡ w.past
  pub is_whole : IsWhole (seen x.server)
  pub tables : (seen x.server).tables ≡ shown x.table ∷ []
  pub starts : map started_of x.starts.items ≡ w.starts
  pub rows : HaveRows w.lines w.starts

-- The server goes by its journal, and has the one interface.
pub record IsReady (x : Machine) : Type 0 where
  pub is_whole : IsWhole (seen x.server)
  pub tables : (seen x.server).tables ≡ shown x.table ∷ []

-- The move is played, or its condition doesn't hold.
abbrev pub Tries : Move → Bool → Machine → Machine → Type 0
Tries m true x y =
    (shown y.table ≡ shown x.table) × ((w : World) → IsWorld x w → (v : World) × Plays (shown x.table) w m v × IsWorld y v)
Tries m false x y = (w : World) → IsWorld x w → MayCome (shown x.table) w m → ⊥

-- the connection on which the call waits for its answer goes on, where it stands
abbrev pub GoesFor : ℕ → Machine → Machine → Type 0
GoesFor k x y =
    (shown y.table ≡ shown x.table) × ((w : World) → IsWorld x w → (v : World) × GoesOnFor (shown x.table) k w v × IsWorld y v)

-- the server's journal goes on so, and nothing else changes
abbrev pub Enters : (List Entry → List Entry → Type 0) → Machine → Machine → Type 0
Enters Says x y = (y ≡ record x { server = y.server }) × Goes (seen x.server) Says (seen y.server)
