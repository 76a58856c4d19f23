-- A player behind rounds of a load.
use Rattle.std.specs.Prelude.{◌≡◌, ℕ, Option, None, List, length}
use Rattle.ndr_table.specs.Tables.{TableForm}
use Rattle.desk_service.specs.State.{Services}
use Rattle.replay_script.specs.declared.line.Line.{Line}
use Rattle.replay_world.specs.Worlds.{World}
use Rattle.replay_world.specs.Replays.{Leads}
use Rattle.replay_groups.specs.Service.{service_of}
use Rattle.replay_events.specs.declared.player.Player.{Player}
use Rattle.replay_events.specs.Standing.{Stands}
use Rattle.replay_script.specs.declared.load.Load.{Load}
use Rattle.replay_script.specs.Rounds.{Round, AreMade}
use Rattle.replay_script.specs.Knowing.{Knows}
use Rattle.replay_world.specs.Loads.{PlaysRounds}

-- lines are played, one after the other
abbrev pub LinesLead : List Line → Option TableForm → World Services → World Services → Type 0
LinesLead lines echo w v = Leads (service_of echo) w lines v

-- The rounds are those of the load of that number, and were played on the built-in interfaces to a world that the player stands
-- for.
pub record ArePlayed (number : ℕ) (rounds : List Round) (x : Player) : Type 0 where
  pub made : AreMade number rounds
  pub world : World Services
  pub plays : PlaysRounds (service_of None) rounds world
  pub stands : Stands None x world

-- and the load knows of them
pub record IsBehind (number : ℕ) (rounds : List Round) (x : Player) (l : Load) : Type 0 where
  pub knows : Knows number rounds l
  pub played : ArePlayed number rounds x

-- so many rounds were played
abbrev pub HasPlayed : ℕ → ℕ → Player → Type 0
HasPlayed number steps x = (rounds : List Round) × (length rounds ≡ steps) × ArePlayed number rounds x
