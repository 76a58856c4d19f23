-- The line at which a text departs from the scripts: what stands before it is played, and there no line that may come
-- follows. Of a text that doesn't depart, `ServesAll` says how the played script served its connections.
use Rattle.std.specs.Prelude.{◌≡◌, ◌≢◌, ℕ, ◌+◌, List, [], ◌++◌, length, ◌⊎◌, ⊤}
use Rattle.replay_script.specs.declared.line.Line.{Line}
use Rattle.replay_script.specs.declared.line.Line.TheVariants.{Boot}
use Rattle.replay_script.specs.Lines.{FitLines, text_of_lines, BeginsWith, BeginsWithNoLine}
use Rattle.replay_world.specs.declared.fault.ReplayFault.{ReplayFault}
use Rattle.replay_world.specs.declared.fault.ReplayFault.TheVariants as faults
use Rattle.replay_world.specs.Services.{Service}
use Rattle.replay_world.specs.Worlds.{World}
use Rattle.replay_world.specs.Plays.{MayCome}
use Rattle.replay_world.specs.Replays.{PlaysTo}
pub use Rattle.replay.specs.Laws.{ServesAll}

-- no line with a boot word begins the text
abbrev pub BeginsWithNoBoot : List ℕ → Type 0
BeginsWithNoBoot text = (word : ℕ) (rest : List ℕ) → BeginsWith (Boot word) rest text → ⊥

module _ (service : Service) where
  -- the text begins with a line that may not come in the world
  pub record IsBarredIn (w : World service.State) (text : List ℕ) : Type 0 where
    pub line : Line
    pub rest : List ℕ
    pub begins : BeginsWith line rest text
    pub bars : MayCome service w line → ⊥

  -- no line begins it and it isn't at its end, or its line may not come
  abbrev pub HasNoNext : World service.State → List ℕ → Type 0
  HasNoNext w text = (BeginsWithNoLine text × (text ≢ [])) ⊎ IsBarredIn w text

  -- The lines before the one of this number are played to a world, and what is left of the text has no next line there.
  pub record HaltsBehind (text : List ℕ) (number : ℕ) : Type 0 where
    pub lines : List Line
    pub fit : FitLines lines
    pub counted : number ≡ length lines + 1
    pub rest : List ℕ
    pub written : text ≡ text_of_lines lines ++ rest
    pub world : World service.State
    pub plays : PlaysTo service lines world
    pub nowhere : HasNoNext world rest

  -- the first line is none with a boot word, or the text halts behind lines that are played
  abbrev pub StopsAt : List ℕ → ReplayFault → Type 0
  StopsAt text (faults.Line n) = ((n ≡ 1) × BeginsWithNoBoot text) ⊎ HaltsBehind text n
  StopsAt text faults.Memory = ⊤
