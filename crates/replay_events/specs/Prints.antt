-- Answered PDUs as lines.
use Rattle.std.specs.Prelude.{◌≡◌, ℕ, List, ◌++◌, length, map}
use Rattle.std.specs.List.{AllByRecursion}
use Rattle.pdu_codec.specs.Pdus.{AreSpelled}
use Rattle.server_counts.specs.Pieces.{IsOnePdu}
use Rattle.replay_world.specs.Worlds.Printed.{Answered}
use Rattle.replay_world.specs.Printing.{out_text}
use Rattle.replay_world.specs.Answered.{FitsPrinted}

-- Each PDU of the octets is printed as answered on the connection, so that it can be read again, and so many are.
pub record Prints (c : ℕ) (octets old : List ℕ) (count : ℕ) (new : List ℕ) : Type 0 where
  pub pieces : List (List ℕ)
  pub cut : AreSpelled IsOnePdu pieces octets
  pub text : new ≡ old ++ out_text (map (Answered c) pieces)
  pub fit : AllByRecursion FitsPrinted (map (Answered c) pieces)
  pub count_is : count ≡ length pieces
