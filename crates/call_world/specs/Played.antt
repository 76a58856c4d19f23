-- What a list of moves leaves.
use Rattle.std.specs.Prelude.{◌≡◌, ℕ, Some, List, slice_get, take, ⊤}
use Rattle.ndr_table.specs.Shown.{shown}
use Rattle.ndr_table.specs.Tables.{TableForm}
use Rattle.world_laws.specs.Moves.{Move}
use Rattle.world_laws.specs.Worlds.{World, Played, StopsAt}
use Rattle.world_laws.specs.Clauses.{CallsAreRows, FatesAreTrue}
use Rattle.world_laws.specs.Ends.{Line}
use Rattle.world_laws.specs.Starts.{StartsAreRows}
use Rattle.world_laws.specs.Telling.{FatesAreTold}
use Rattle.world_laws.specs.Leading.{MayCome}
use Rattle.world_laws.specs.Keeping.{HandlesAreKept}
use Rattle.call_world.specs.declared.play.WorldFault.{WorldFault}
use Rattle.call_world.specs.declared.play.WorldFault.TheVariants.{NotNow, Memory}
use Rattle.call_world.specs.declared.world.World.{World as Machine}
use Rattle.call_world.specs.Worlds.{IsWorld}

-- The moves lead there, one after the other. Whatever they are: no two of the calls that were started have one number, and
-- each call that the server accepted is one of these; what the caller knows of each of them is true, and is what was told first
-- behind its start; each call that a move started has its row, in order; and handles that came and that were kept are there.
pub record Leads (table : TableForm) (moves : List Move) (x : Machine) : Type 0 where
  pub world : World
  pub played : Played table moves world
  pub is_world : IsWorld x world
  pub rows : CallsAreRows world
  pub fates : FatesAreTrue table world
  pub told : (i : ℕ) (l : Line) → slice_get world.lines i ≡ Some l → FatesAreTold table l
  pub starts : StartsAreRows world moves
  pub handles : HandlesAreKept table world

-- the same before anything is said of the calls
abbrev pub IsPlayed : TableForm → List Move → Machine → Type 0
IsPlayed table moves x = (shown x.table ≡ table) × (w : World) × Played table moves w × IsWorld x w

-- All moves before are played, and the condition of that one doesn't hold then. Each of those before met its own, as it led to a
-- world (`OnlyWhereItMay`): it is the first move whose condition fails.
pub record StopsHere (table : TableForm) (moves : List Move) (i : ℕ) : Type 0 where
  pub before : World
  pub plays : Played table (take i moves) before
  pub move : Move
  pub there : slice_get moves i ≡ Some move
  pub cannot : MayCome table before move → ⊥

-- the first move whose condition doesn't hold then
abbrev pub Stops : TableForm → List Move → WorldFault → Type 0
Stops table moves (NotNow i) = StopsHere table moves i
Stops table moves Memory = ⊤

-- there it leads to no world
abbrev pub LeadsNowhere : TableForm → List Move → WorldFault → Type 0
LeadsNowhere table moves (NotNow i) = StopsAt table moves i
LeadsNowhere table moves Memory = ⊤
