-- A load as it is played, and what it prints.
use Rattle.std.specs.Prelude.{◌≡◌, ℕ, List, [], ◌∷◌, ◌++◌, length}
use Rattle.replay_world.specs.Services.{Service, IsDetermined}
use Rattle.replay_world.specs.Worlds.{World, Printed, booted}
use Rattle.replay_world.specs.Replays.{Leads, Closes, EndsAs}
use Rattle.replay_script.specs.Rounds.{Round, AreMade}
use Rattle.replay_script.specs.LoadScripts.{lines_of, script_of}
use Rattle.replay_world.specs.Answered.{answered_pdus}
use Rattle.replay_script.specs.Counting.{counts_of}
use Rattle.replay_script.specs.Summary.{summary_text}

-- The lines of a round are played one after the other, and its answers are the PDUs that they print.
pub record PlaysRound (service : Service) (w : World service.State) (r : Round) (v : World service.State) : Type 0 where
  pub leads : Leads service w (lines_of r.step.deed) v
  pub lines : List Printed
  pub printed : v.out ≡ w.out ++ lines
  pub answers : r.answers ≡ answered_pdus lines

-- the rounds, of which the newest is the first, on a server with the boot word 1
abbrev pub PlaysRounds : (service : Service) → List Round → World service.State → Type 0
PlaysRounds service [] v = v ≡ booted 1 service.start
PlaysRounds service (r ∷ past) v = (w : World service.State) × PlaysRounds service past w × PlaysRound service w r v

-- So many rounds, each the one that the number and the rounds before call for, are played; and then connections are lost and
-- running calls finished, as behind the last line of a script.
pub record IsLoad (service : Service) (number steps : ℕ) (end : World service.State) : Type 0 where
  pub rounds : List Round
  pub many : length rounds ≡ steps
  pub made : AreMade number rounds
  pub last : World service.State
  pub plays : PlaysRounds service rounds last
  pub closes : Closes service last end

-- what is printed is the line that counts the journals of its groups, of which nothing is folded
abbrev pub IsSummary : Service → ℕ → ℕ → List ℕ → Type 0
IsSummary service number steps text = (end : World service.State) × IsLoad service number steps end × (text ≡ summary_text steps (counts_of end.groups))

-- A number and so many steps come to one end, and to one line.
abbrev pub OneLoad : Service → Type 0
OneLoad service =
    IsDetermined service → (number steps : ℕ) (end end' : World service.State) → IsLoad service number steps end → IsLoad service number steps end' → end ≡ end'

-- A load is a replay: the script of its rounds is played to the same end.
abbrev pub LoadsAreReplays : Service → Type 0
LoadsAreReplays service = (number steps : ℕ) (end : World service.State) (l : IsLoad service number steps end) → EndsAs service (script_of l.rounds) end
