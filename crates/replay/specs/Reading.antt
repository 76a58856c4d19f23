-- What was read and played of a text behind its first line.
use Rattle.std.specs.Prelude.{◌≡◌, ◌≢◌, ℕ, ◌+◌, Option, List, [], ◌++◌, length, ◌⊎◌, ⊤}
use Rattle.ndr_table.specs.Tables.{TableForm}
use Rattle.desk_service.specs.State.{Services}
use Rattle.replay_script.specs.declared.line.Line.{Line}
use Rattle.replay_script.specs.declared.line.Line.TheVariants.{Boot}
use Rattle.replay_script.specs.Lines.{FitLines, text_of_lines, BeginsWith, BeginsWithNoLine}
use Rattle.replay_world.specs.declared.fault.ReplayFault.{ReplayFault}
use Rattle.replay_world.specs.declared.fault.ReplayFault.TheVariants as faults
use Rattle.replay_world.specs.Worlds.{World}
use Rattle.replay_world.specs.Replays.{Leads}
use Rattle.replay_groups.specs.Service.{service_of}
use Rattle.replay_events.specs.declared.player.Player.{Player}
use Rattle.replay_events.specs.Standing.{Stands}
use Rattle.replay.specs.Lines.{PlaysLine, BarsLine}

-- it isn't such a line
abbrev pub HasNoBoot : Line → Type 0
HasNoBoot line = (word : ℕ) → line ≢ Boot word

-- ---- one line

-- a line was played, and the rest follows it
pub record Continues (old : Player) (text rest : List ℕ) (new : Player) : Type 0 where
  pub line : Line
  pub begins : BeginsWith line rest text
  pub plays : PlaysLine old line new

-- the line that begins the text may not come
pub record IsBarred (old : Player) (text : List ℕ) : Type 0 where
  pub line : Line
  pub rest : List ℕ
  pub begins : BeginsWith line rest text
  pub bars : BarsLine old line

abbrev pub Stops : Player → List ℕ → ℕ → ReplayFault → Type 0
Stops old text number (faults.Line n) = (n ≡ number) × IsBarred old text
Stops old text number faults.Memory = ⊤

-- ---- lines in a row

-- the lines lead from each world to one that the player stands for then
abbrev pub LeadsTo : Player → List Line → Player → Type 0
LeadsTo old lines new =
    (echo : Option TableForm) (w : World Services) → Stands echo old w → (v : World Services) × Leads (service_of echo) w lines v × Stands echo new v

-- so many lines of the text were played, and this is left of it
pub record Reads (old : Player) (text rest : List ℕ) (count : ℕ) (new : Player) : Type 0 where
  pub lines : List Line
  pub fit : FitLines lines
  pub counted : length lines ≡ count
  pub written : text ≡ text_of_lines lines ++ rest
  pub leads : LeadsTo old lines new

-- all were
abbrev pub Played : Player → List ℕ → Player → Type 0
Played old text new = (count : ℕ) × Reads old text [] count new

-- the text doesn't go on by a line that may come: no line begins it and it isn't at its end, or its line may not come
abbrev pub GoesNowhere : Player → List ℕ → Type 0
GoesNowhere p rest = (BeginsWithNoLine rest × (rest ≢ [])) ⊎ IsBarred p rest

-- so many lines were played, and then it goes nowhere
pub record HaltsAt (old : Player) (text : List ℕ) (count : ℕ) : Type 0 where
  pub rest : List ℕ
  pub player : Player
  pub reads : Reads old text rest count player
  pub nowhere : GoesNowhere player rest

-- at the line of that number, where the text begins with the second
abbrev pub Halts : Player → List ℕ → ReplayFault → Type 0
Halts old text (faults.Line n) = (count : ℕ) × (n ≡ count + 2) × HaltsAt old text count
Halts old text faults.Memory = ⊤
