-- How what is printed is written, and which lines an answer has.
use Rattle.std.specs.Prelude.{◌≡◌, ℕ, ◌==◌, if◌then◌else◌, List, [], ◌++◌, map, codes, decimal}
use Rattle.std.specs.List.{flat_map}
use Rattle.hex.specs.Hex.{encode_lower}
use Rattle.pdu_codec.specs.Pdus.{AreSpelled}
use Rattle.server_counts.specs.Pieces.{IsOnePdu}
use Rattle.replay_world.specs.Worlds.{Printed}
use Rattle.replay_world.specs.Worlds.Printed.{Answered, Waits, Idle}

-- THE LINES

abbrev pub printed_body : Printed → List ℕ
printed_body (Answered c octets) = decimal c ++ codes " " ++ encode_lower octets
printed_body (Waits c k) = decimal c ++ codes " waits " ++ decimal k
printed_body (Idle c) = decimal c ++ codes " idle"

unfoldable pub printed_text : Printed → List ℕ
printed_text line = printed_body line ++ codes "\n"

unfoldable pub out_text : List Printed → List ℕ
out_text lines = flat_map printed_text lines

-- THE LINES OF AN ANSWER

-- The octets are those of PDUs, one after the other, each of which is printed as answered on the connection.
pub record ArePrinted (c : ℕ) (octets : List ℕ) (lines : List Printed) : Type 0 where
  pub pieces : List (List ℕ)
  pub cut : AreSpelled IsOnePdu pieces octets
  pub lines_are : lines ≡ map (Answered c) pieces

-- ---- what was answered on a connection

abbrev pub answered_in : ℕ → Printed → List ℕ
answered_in c (Answered d octets) = if d == c then octets else []
answered_in c _ = []

abbrev pub answered_on : ℕ → List Printed → List ℕ
answered_on c lines = flat_map (answered_in c) lines
