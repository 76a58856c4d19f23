use Rattle.std.proofs.Common.{◌≡◌, drop}
use Rattle.desk_kit.specs.Rows.{vals_then}
use Rattle.mgmt_manager.specs.Steps as spec
use Rattle.mgmt_manager.proofs.answers.uints.Given as goal

abbrev pub invariant-loop-number : goal.invariant-loop-number
invariant-loop-number l = vals_then l.values.items (spec.uints (drop l.number-index l.numbers)) ≡ spec.uints l.numbers
