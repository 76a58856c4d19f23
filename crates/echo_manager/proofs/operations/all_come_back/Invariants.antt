use Rattle.std.proofs.Common.{◌≡◌, drop, map}
use Rattle.std.specs.List.{list_all}
use Rattle.ndr_table.specs.Tables.{param_form}
use Rattle.echo_manager.specs.Steps.{comes_back}
use Rattle.echo_manager.proofs.operations.all_come_back.Given as goal

abbrev pub invariant-loop-param : goal.invariant-loop-param
invariant-loop-param l = list_all comes_back (map param_form (drop l.param-index l.params)) ≡ list_all comes_back (map param_form l.params)
