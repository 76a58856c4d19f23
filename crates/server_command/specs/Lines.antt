-- The lines of connections, and the status.
use Rattle.std.specs.Prelude.{ℕ, ◌+◌, List, [], ◌∷◌, ◌++◌, map}
use Rattle.server_ends.specs.declared.ended.Ending.{Ending}
use Rattle.server_rounds.specs.declared.settled.Settled.{Settled}
use Rattle.server_rounds.specs.declared.round.Stop.{Stop}
use Rattle.server_rounds.specs.declared.round.Stop.TheVariants.{Done, DoorClosed, DoorFault, Memory}
use Rattle.server_command.specs.Texts.{connection_text}
use Rattle.server_command.specs.Statuses.{status_by}

-- a line for each connection, numbered from n on
abbrev pub lines_from : {K : Type 0} → ℕ → List (Settled K) → List ℕ
lines_from n [] = []
lines_from n (c ∷ later) = connection_text n c.ending ++ lines_from (n + 1) later

abbrev pub endings_in : {K : Type 0} → List (Settled K) → List Ending
endings_in finished = map (λ c. c.ending) finished

-- the door failed; memory ran out; or it is by the endings
abbrev pub status_with : Stop → List Ending → ℕ
status_with DoorFault whys = 7
status_with Memory whys = 5
status_with Done whys = status_by whys
status_with DoorClosed whys = status_by whys
