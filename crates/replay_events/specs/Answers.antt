-- What is answered on a connection, printed and counted.
use Rattle.std.specs.Prelude.{◌≡◌, ℕ, Option, Some, None, List, [], ◌++◌, length, map}
use Rattle.std.specs.List.{AllByRecursion}
use Rattle.pdu_codec.specs.Pdus.{AreSpelled}
use Rattle.desk_counts.specs.Numbers.{Numbers, with_more}
use Rattle.conn_asks.specs.declared.events.Act.{Act}
use Rattle.conn_histories.specs.Histories.{act_octets}
use Rattle.replay_world.specs.Worlds.Printed.{Answered}
use Rattle.server_counts.specs.Pieces.{IsOnePdu}
use Rattle.replay_world.specs.Printing.{out_text}
use Rattle.replay_world.specs.Answered.{FitsPrinted}

-- the octets of an act, if there is one
abbrev pub act_octets_of : Option Act → List ℕ
act_octets_of (Some act) = act_octets act
act_octets_of None = []

-- PDUs are printed as answered on the connection, so that they can be read again, and counted.
pub record Answers (c : ℕ) (octets : List ℕ) (totals : Numbers) (out : List ℕ) (totals' : Numbers) (out' : List ℕ) : Type 0 where
  pub pieces : List (List ℕ)
  pub cut : AreSpelled IsOnePdu pieces octets
  pub text : out' ≡ out ++ out_text (map (Answered c) pieces)
  pub fit : AllByRecursion FitsPrinted (map (Answered c) pieces)
  pub sum : totals' ≡ with_more totals 0 0 (length pieces)
