-- Turns of a connection that is in no group.
use Rattle.std.specs.Prelude.{⊤}
use Rattle.conn_histories.specs.declared.turn.Turn.{Turn}
use Rattle.conn_histories.specs.declared.turn.Turn.TheVariants.{Bound, Called}

abbrev pub IsQuiet : Turn → Type 0
IsQuiet (Bound asked group octets) = ⊥
IsQuiet (Called r) = ⊥
IsQuiet _ = ⊤
