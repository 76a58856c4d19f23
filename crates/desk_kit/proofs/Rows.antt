-- A row of values grows at its end.
use Rattle.std.proofs.Common.{◌≡◌, List, [], ◌∷◌, ◌++◌, refl, ap}
use Rattle.std.proofs.lemmas.Grind.{common_steps}
use Rattle.ndr_value.specs.declared.value.Value.{Value}
use Rattle.ndr_value.specs.Values.{val, vals, Vals, no_val, then_val}
use Rattle.desk_kit.specs.Rows.{vals_then}

pub one_more : (vs : List Value) (v : Value) (rest : Vals) → vals_then (vs ++ v ∷ []) rest ≡ vals_then vs (then_val (val v) rest)
one_more [] v rest = refl
one_more (w ∷ vs) v rest = ap (then_val (val w)) (one_more vs v rest)

pub none_more : (vs : List Value) → vals_then vs no_val ≡ vals vs
none_more [] = refl
none_more (v ∷ vs) = ap (then_val (val v)) (none_more vs)

pub ruleset rows = (one_more, none_more, common_steps)
