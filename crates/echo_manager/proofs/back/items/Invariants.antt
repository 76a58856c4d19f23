use Rattle.std.proofs.Common.{◌≡◌, drop}
use Rattle.ndr_value.specs.Values.{vals}
use Rattle.desk_kit.specs.Rows.{vals_then}
use Rattle.echo_manager.specs.Numbered as numbers
use Rattle.echo_manager.proofs.back.items.Given as goal

abbrev pub invariant-loop-number : goal.invariant-loop-number
invariant-loop-number l = vals_then l.back.items (numbers.items_of (vals l.heap) l.met (drop l.number-index l.order)) ≡ numbers.items_of (vals l.heap) l.met l.met
