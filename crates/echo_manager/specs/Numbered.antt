-- Values whose items of the heap have other numbers: each the place at which it was met.
use Rattle.std.specs.Prelude.{ℕ, Bool, true, false, List, [], ◌∷◌, length, unwrap_or, Option, Some, None}
use Rattle.ndr_value.specs.Values.{Val, VStruct, VUnion, VArray, VPtr, VFull, Vals, no_val, then_val}
use Rattle.ndr_table.specs.Tables.{ParamForm}
use Rattle.ndr_model.specs.Named.{nth}
use Rattle.echo_manager.specs.Met.{place_in}

-- no item has the number that one gets which wasn't met
abbrev pub new_number : List ℕ → ℕ → ℕ
new_number met n = unwrap_or (place_in n met) (length met)

abbrev pub new_item : List ℕ → Option ℕ → Option ℕ
new_item met None = None
new_item met (Some n) = Some (new_number met n)

abbrev mutual
  pub numbered : List ℕ → Val → Val
  numbered met (VStruct vs) = VStruct (all_numbered met vs)
  numbered met (VUnion tag v) = VUnion tag (numbered met v)
  numbered met (VArray vs) = VArray (all_numbered met vs)
  numbered met (VPtr v) = VPtr (numbered met v)
  numbered met (VFull item) = VFull (new_item met item)
  numbered met v = v

  pub all_numbered : List ℕ → Vals → Vals
  all_numbered met no_val = no_val
  all_numbered met (then_val v vs) = then_val (numbered met v) (all_numbered met vs)

abbrev pub then_item : List ℕ → Option Val → Vals → Vals
then_item met None vs = vs
then_item met (Some v) vs = then_val (numbered met v) vs

-- the items of those numbers
abbrev pub items_of : Vals → List ℕ → List ℕ → Vals
items_of heap met [] = no_val
items_of heap met (n ∷ ns) = then_item met (nth heap n) (items_of heap met ns)

-- of the values that go in those that come out, and the result behind them
abbrev pub next_back : List ℕ → Bool → Bool → (Vals → Vals) → Vals → Vals
next_back met true true go (then_val v vs) = then_val (numbered met v) (go vs)
next_back met true false go (then_val v vs) = go vs
next_back met true _ go no_val = no_val
next_back met false _ go vs = go vs

abbrev pub brought_back : List ℕ → Vals → List ParamForm → Vals → Vals
brought_back met result [] vs = result
brought_back met result (p ∷ ps) vs = next_back met p.inward p.outward (brought_back met result ps) vs
