-- The script of a load.
use Rattle.std.specs.Prelude.{◌≡◌, ℕ, List, [], ◌∷◌, ◌++◌, length}
use Rattle.replay_script.specs.declared.line.Line.{Line}
use Rattle.replay_script.specs.declared.line.Line.TheVariants as line
use Rattle.replay_script.specs.declared.deed.Deed.{Deed}
use Rattle.replay_script.specs.declared.deed.Deed.TheVariants.{Open, Lose, Run, Finish, Cancel, Issue, Close}
use Rattle.replay_script.specs.Sending.{bind_of, cancel_of, issue_of, close_of}
use Rattle.replay_script.specs.Rounds.{Round}

-- the server's boot word is 1
abbrev pub first_line : Line
first_line = line.Boot 1

abbrev pub lines_of : Deed → List Line
lines_of (Open name group) = line.Open name ∷ line.Send name (bind_of group) ∷ []
lines_of (Lose name) = line.Lose name ∷ []
lines_of (Run name) = line.Run name ∷ []
lines_of (Finish name) = line.Finish name ∷ []
lines_of (Cancel name call) = line.Send name (cancel_of call) ∷ []
lines_of (Issue name call number) = line.Send name (issue_of call number) ∷ []
lines_of (Close name call handle) = line.Send name (close_of call handle) ∷ []

-- the lines of the rounds, of which the newest is the first
abbrev pub script_of : List Round → List Line
script_of [] = first_line ∷ []
script_of (r ∷ past) = script_of past ++ lines_of r.step.deed
