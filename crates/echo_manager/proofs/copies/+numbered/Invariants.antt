use Rattle.std.proofs.Common.{◌≡◌, drop}
use Rattle.ndr_value.specs.Values.{vals}
use Rattle.desk_kit.specs.Rows.{vals_then}
use Rattle.echo_manager.specs.Numbered as spec
use Rattle.echo_manager.proofs.copies.+numbered.Given as goal

abbrev pub invariant-all_numbered-loop-value : goal.invariant-all_numbered-loop-value
invariant-all_numbered-loop-value l = vals_then l.copies.items (spec.all_numbered l.met (vals (drop l.value-index l.values))) ≡ spec.all_numbered l.met (vals l.values)
