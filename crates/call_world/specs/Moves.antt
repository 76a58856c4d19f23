-- A program's move, and the move of the world that it is.
use Rattle.std.specs.Prelude.{List, map}
use Rattle.ndr_value.specs.Values.{msg}
use Rattle.world_laws.specs.Moves.{Move}
use Rattle.world_laws.specs.Moves.{Move as moves}
use Rattle.call_world.specs.declared.moves.Move.{Move as Step}
use Rattle.call_world.specs.declared.moves.Move.TheVariants as steps

abbrev pub move_of : Step → Move
move_of (steps.Open conn group) = moves.Open conn group
move_of (steps.Start conn op message) = moves.Start conn op (msg message)
move_of (steps.ToServer conn octets) = moves.ToServer conn octets
move_of (steps.ToCaller conn octets) = moves.ToCaller conn octets
move_of (steps.Cancel conn) = moves.Cancel conn
move_of (steps.Lose conn) = moves.Lose conn
move_of steps.Restart = moves.Restart
move_of (steps.Take call) = moves.Take call
move_of (steps.Finish call kepts out) = moves.Finish call kepts (msg out)

abbrev pub moves_of : List Step → List Move
moves_of played = map move_of played
