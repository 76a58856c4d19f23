use Rattle.std.proofs.Common.{◌≡◌, ◌++◌, drop}
use Rattle.std.specs.List.{flat_map}
use Rattle.marshal_table.specs.Bodies.{case_in}
use Rattle.marshal_table.proofs.bodies.cases.Given as goal

abbrev pub invariant-loop-label : goal.invariant-loop-label
invariant-loop-label l = l.all ++ flat_map case_in (drop l.label-index l.labels) ≡ flat_map case_in l.labels
