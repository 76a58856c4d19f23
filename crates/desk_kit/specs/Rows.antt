-- Values in front of others.
use Rattle.std.specs.Prelude.{List, [], ◌∷◌}
use Rattle.ndr_value.specs.declared.value.Value.{Value}
use Rattle.ndr_value.specs.Values.{val, Vals, then_val}

abbrev pub vals_then : List Value → Vals → Vals
vals_then [] rest = rest
vals_then (v ∷ vs) rest = then_val (val v) (vals_then vs rest)
