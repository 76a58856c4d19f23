-- Values behind values that are there, and their texts. Only private clauses speak of this.
use Rattle.std.specs.Prelude.{ℕ, Bool, true, false, List, ◌++◌, codes, Ok}
use Rattle.ndr_value.specs.Values.{Val, Vals, no_val, then_val}
use Rattle.value_text.specs.Bind.{◌>>=◌}
use Rattle.value_text.specs.Reading.{Row}
use Rattle.value_text.specs.Texts.{value_text, list_text, more_text}

abbrev pub join : Vals → Vals → Vals
join no_val ws = ws
join (then_val v vs) ws = then_val v (join vs ws)

abbrev pub with_front : Vals → Row → Row
with_front front row = row >>= λ y. Ok (join front y.0, y.1)

-- a value of a list, behind a comma unless it is the first
abbrev pub item_text : Bool → Val → List ℕ
item_text true v = value_text v
item_text false v = codes ", " ++ value_text v

abbrev pub rest_text : Bool → Vals → List ℕ
rest_text true vs = list_text vs
rest_text false vs = more_text vs
