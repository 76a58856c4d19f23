-- Where reading stands: an index, and what was met before it.
use Rattle.std.specs.Prelude.{ℕ, suc, List, [], ◌∷◌, ◌++◌, Option, Some, None, ◌==◌, if◌then◌else◌}
use Rattle.rpc_base.specs.declared.identifiers.WireHandle.{WireHandle}
use Rattle.ndr_value.specs.Forms.{Form}
use Rattle.ndr_value.specs.Values.{Val}
use Rattle.ndr_model.specs.declared.mark.Mark.{Mark}

-- an index, the ids of full pointers met before it with the shapes behind them, and the context handles met before it
pub record Place : Type 0 where
  pub at : ℕ
  pub met : List (ℕ × Form)
  pub wires : List WireHandle

-- the same behind more octets
abbrev pub past : Place → ℕ → Place
past p i = record { at = i; met = p.met; wires = p.wires }

-- where referents go on, with the numbers and values of the heap's items that were read, and the marks of what was read, each value's
-- referents before what follows the value
pub record Last : Type 0 where
  pub here : Place
  pub items : List (ℕ × Val)
  pub marks : List Mark

-- the same, where referents go on at p
abbrev pub onto : Place → Last → Last
onto p q = record { here = p; items = q.items; marks = q.marks }

-- the same with more marks
abbrev pub noting : List Mark → Last → Last
noting ms q = record { here = q.here; items = q.items; marks = q.marks ++ ms }

-- the same with the heap's item of that number
abbrev pub keeping : ℕ → Val → Last → Last
keeping n v q = record { here = q.here; items = (n, v) ∷ q.items; marks = q.marks }

-- the number of an id that was met, and the shape behind it
abbrev pub look_from : ℕ → List (ℕ × Form) → ℕ → Option (ℕ × Form)
look_from n [] id = None
look_from n (m ∷ ms) id = if m.0 == id then Some (n, m.1) else look_from (suc n) ms id

abbrev pub look : List (ℕ × Form) → ℕ → Option (ℕ × Form)
look ms id = look_from 0 ms id
