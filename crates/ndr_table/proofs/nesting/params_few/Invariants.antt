use Rattle.std.proofs.Common.{◌≡◌, drop, map}
use Rattle.std.specs.List.{list_all}
use Rattle.ndr_table.specs.Nested.{param_few}
use Rattle.ndr_table.specs.Tables.{param_form}
use Rattle.ndr_table.proofs.nesting.params_few.Given as goal

abbrev pub invariant-loop-param : goal.invariant-loop-param
invariant-loop-param l = list_all (param_few 256 l.depths) (map param_form (drop l.param-index l.params)) ≡ list_all (param_few 256 l.depths) (map param_form l.params)
