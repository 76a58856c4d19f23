-- The values of a stub: those of its way in order, each with its referents, and at most seven octets more.
use Rattle.std.specs.Prelude.{◌≡◌, ℕ, suc, ◌+◌, ◌≤◌, List, [], ◌∷◌, length, Option, Some, None, ◌==◌, Bool, if◌then◌else◌}
use Rattle.rpc_base.specs.declared.identifiers.Order.{Order}
use Rattle.ndr_value.specs.Forms.{Form, OfRef}
use Rattle.ndr_value.specs.Values.{Val, Vals, no_val, then_val, count_of, Msg}
use Rattle.ndr_table.specs.declared.operation.Bounds.{Bounds}
use Rattle.ndr_table.specs.Tables.{ParamForm, OpForm}
use Rattle.ndr_scalars.specs.Scalars.{up}
use Rattle.ndr_model.specs.declared.way.Way.{Way}
use Rattle.ndr_model.specs.declared.way.Way.TheVariants.{Request, Response}
use Rattle.ndr_model.specs.declared.mark.Mark.{Mark}
use Rattle.ndr_model.specs.declared.mark.Mark.TheVariants.{Ranged}
use Rattle.ndr_model.specs.Places.{Last, noting}
use Rattle.ndr_model.specs.Part.{Whole, tag_size}

-- what stands in a stub for a parameter or for the result
pub record Entry : Type 0 where
  pub shape : Form
  pub range : Option Bounds

-- a parameter's own Ref has no octets and is no level: what it points to stands in its place
abbrev pub of_param : Form → Form
of_param (OfRef s) = s
of_param s = s

abbrev pub param_entry : ParamForm → Entry
param_entry p = record { shape = of_param p.shape; range = p.range }

abbrev pub goes : Way → ParamForm → Bool
goes Request p = p.inward
goes Response p = p.outward

abbrev pub last_entry : Way → Option Form → List Entry
last_entry Response (Some s) = record { shape = s; range = None } ∷ []
last_entry _ _ = []

-- the parameters that go that way in order, and in a response the result behind them
abbrev pub entries_of : Way → List ParamForm → Option Form → List Entry
entries_of way [] result = last_entry way result
entries_of way (p ∷ ps) result = if goes way p then param_entry p ∷ entries_of way ps result else entries_of way ps result

abbrev pub entries : Way → OpForm → List Entry
entries way op = entries_of way op.params op.result

abbrev pub ranged : Option Bounds → ℕ → List Mark
ranged None i = []
ranged (Some b) i = Ranged i ∷ []

-- the mark of a number with a range, after index i
abbrev pub range_marks : Entry → ℕ → List Mark
range_marks e i = ranged e.range (up i (tag_size e.shape))

-- nothing was met before the first octet
abbrev pub start : Last
start = record { here = record { at = 0; met = []; wires = [] }; items = []; marks = [] }

abbrev pub item : List (ℕ × Val) → ℕ → Option Val
item [] n = None
item (x ∷ xs) n = if x.0 == n then Some x.1 else item xs n

-- the heap's items from number n on
abbrev pub HasItems : List (ℕ × Val) → ℕ → Vals → Type 0
HasItems items n no_val = Unit {0}
HasItems items n (then_val v vs) = (item items n ≡ Some v) × HasItems items (suc n) vs

module _ (types : List Form) (order : Order) (octets : List ℕ) where
  -- each value where the one before it and its referents end; none stands at more than 256 levels
  abbrev pub Follow : List Entry → Vals → Last → Last → Type 0
  Follow [] no_val q q' = q ≡ q'
  Follow [] (then_val v vs) q q' = ⊥
  Follow (e ∷ es) no_val q q' = ⊥
  Follow (e ∷ es) (then_val v vs) q q' = (h : Last) × Whole types order octets 256 e.shape v q h × Follow es vs (noting (range_marks e q.here.at) h) q'

  -- the message stands in the octets up to the end: every item of its heap was met, and its handles are those that were met, in order
  pub record IsRead (es : List Entry) (m : Msg) (end : Last) : Type 0 where
    pub follow : Follow es m.values start end
    pub rest : length octets ≤ end.here.at + 7
    pub heap : (count_of m.heap ≡ length end.here.met) × HasItems end.items 0 m.heap
    pub wires : m.wires ≡ end.here.wires
