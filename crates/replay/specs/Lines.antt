-- What a line of a script does to a player.
use Rattle.std.specs.Prelude.{Bool, true, false, Option}
use Rattle.ndr_table.specs.Tables.{TableForm}
use Rattle.desk_service.specs.State.{Services}
use Rattle.replay_script.specs.declared.line.Line.{Line}
use Rattle.replay_world.specs.Worlds.{World}
use Rattle.replay_world.specs.Plays.{Plays, MayCome}
use Rattle.replay_groups.specs.Service.{service_of}
use Rattle.replay_events.specs.declared.player.Player.{Player}
use Rattle.replay_events.specs.Standing.{Stands}

-- it stands for some world
abbrev pub HasWorld : Player → Type 0
HasWorld p = (echo : Option TableForm) × (w : World Services) × Stands echo p w

-- from each world that the player stood for, the line leads to one that it stands for now
abbrev pub PlaysLine : Player → Line → Player → Type 0
PlaysLine old line new =
    (echo : Option TableForm) (w : World Services) → Stands echo old w → (v : World Services) × Plays (service_of echo) w line v × Stands echo new v

-- the line may come in none of these worlds
abbrev pub BarsLine : Player → Line → Type 0
BarsLine old line = (echo : Option TableForm) (w : World Services) → Stands echo old w → MayCome (service_of echo) w line → ⊥

-- it was played, or it may not come
abbrev pub Comes : Player → Line → Bool → Player → Type 0
Comes old line true new = PlaysLine old line new
Comes old line false new = BarsLine old line
