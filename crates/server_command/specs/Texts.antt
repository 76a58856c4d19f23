-- The lines that `serve` prints.
use Rattle.std.specs.Prelude.{ℕ, List, ◌++◌, codes, decimal}
use Rattle.server_ends.specs.declared.ended.Ending.{Ending}
use Rattle.server_ends.specs.declared.ended.Ending.TheVariants.{Closed, Cut, LinkFault, Refused, Memory}

unfoldable pub ending_text : Ending → List ℕ
ending_text Closed = codes "closed"
ending_text (Cut count) = codes "cut " ++ decimal count
ending_text LinkFault = codes "link"
ending_text (Refused fault) = codes "refused"
ending_text Memory = codes "memory"

-- the line of a connection, by its number
unfoldable pub first_word : List ℕ
first_word = codes "connection "

unfoldable pub connection_text : ℕ → Ending → List ℕ
connection_text number why = first_word ++ decimal number ++ codes " " ++ ending_text why ++ codes "\n"

-- the line behind the last connection: calls in, calls out, packets in, packets out
unfoldable pub stats_text : ℕ → ℕ → ℕ → ℕ → List ℕ
stats_text calls_in calls_out packets_in packets_out =
    codes "stats " ++ decimal calls_in ++ codes " " ++ decimal calls_out ++ codes " " ++ decimal packets_in ++ codes " " ++ decimal packets_out
    ++ codes "\n"
