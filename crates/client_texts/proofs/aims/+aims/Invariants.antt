use Rattle.std.proofs.Common.{◌≡◌, ◌++◌, drop, map}
use Rattle.ndr_value.specs.Forms.{form, forms}
use Rattle.ndr_value.specs.Values.{vals}
use Rattle.client_texts.specs.Heaps.{each_aims, all_aims}
use Rattle.client_texts.specs.Pointers.{aim_of}
use Rattle.client_texts.proofs.aims.+aims.Given as goal

abbrev pub invariant-add_each-loop-value : goal.invariant-add_each-loop-value
invariant-add_each-loop-value l =
    map aim_of l.into.items ++ each_aims (map form l.types) (forms l.rest) (vals (drop l.value-index l.values)) ≡ map aim_of l.initial.into.items ++ each_aims (map form l.types) (forms l.shapes) (vals l.values)

abbrev pub invariant-add_all-loop-item : goal.invariant-add_all-loop-item
invariant-add_all-loop-item l = map aim_of l.into.items ++ all_aims (map form l.types) (form l.shape) (vals (drop l.item-index l.items)) ≡ map aim_of l.initial.into.items ++ all_aims (map form l.types) (form l.shape) (vals l.items)
