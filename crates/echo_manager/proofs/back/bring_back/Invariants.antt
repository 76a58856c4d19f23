use Rattle.std.proofs.Common.{◌≡◌, map, drop}
use Rattle.ndr_value.specs.Values.{Vals, vals}
use Rattle.ndr_table.specs.Tables.{param_form}
use Rattle.desk_kit.specs.Rows.{vals_then}
use Rattle.echo_manager.specs.Numbered as numbers
use Rattle.echo_manager.proofs.back.bring_back.Given as goal

abbrev pub invariant-loop-param : goal.invariant-loop-param
invariant-loop-param l = (last : Vals)
    → vals_then l.into.items (numbers.brought_back l.met last (map param_form (drop l.param-index l.params)) (vals l.rest))
    ≡ vals_then l.initial.into.items (numbers.brought_back l.met last (map param_form l.params) (vals l.values))
