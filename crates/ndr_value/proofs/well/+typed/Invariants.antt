use Rattle.std.proofs.Common.{◌≡◌, map, drop}
use Rattle.ndr_value.specs.Forms.{form, forms}
use Rattle.ndr_value.specs.Values.{vals}
use Rattle.ndr_value.specs.Judged.{all_typed, each_typed}
use Rattle.ndr_value.proofs.well.+typed.Given as goal

abbrev pub invariant-all_of-loop-item : goal.invariant-all_of-loop-item
invariant-all_of-loop-item l = all_typed (map form l.types) l.heap l.level (vals (drop l.item-index l.items)) (form l.shape) ≡ all_typed (map form l.types) l.heap l.level (vals l.items) (form l.shape)

abbrev pub invariant-each_of-loop-value : goal.invariant-each_of-loop-value
invariant-each_of-loop-value l = each_typed (map form l.types) l.heap l.level (vals (drop l.value-index l.values)) (forms l.rest) ≡ each_typed (map form l.types) l.heap l.level (vals l.values) (forms l.shapes)
