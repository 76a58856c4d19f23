-- What holds the turn, after a write to its value.
use Rattle.std.specs.Prelude.{Some}
use Rattle.turn_lock.specs.declared.lock.Held.{Held}

abbrev pub held_with : {T E S : Type 0} → Held T E S → T → Held T E S
held_with held x = record held { value = Some x }
