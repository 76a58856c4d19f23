use Rattle.std.proofs.Common.{◌≡◌, ◌++◌, drop, map}
use Rattle.ndr_value.specs.Forms.{form}
use Rattle.ndr_value.specs.Values.{vals}
use Rattle.ndr_table.specs.Tables.{param_form}
use Rattle.client_texts.specs.Texts.{inwards}
use Rattle.client_texts.specs.Heaps.{each_aims}
use Rattle.client_texts.specs.Pointers.{aim_of}
use Rattle.client_texts.proofs.aims.add_row_aims.Given as goal

abbrev pub invariant-loop-param : goal.invariant-loop-param
invariant-loop-param l =
    map aim_of l.into.items ++ each_aims (map form l.types) (inwards (map param_form (drop l.param-index l.params))) (vals l.rest)
    ≡ map aim_of l.initial.into.items ++ each_aims (map form l.types) (inwards (map param_form l.params)) (vals l.values)
