use Rattle.std.proofs.Common.{◌≡◌, ◌++◌, map, drop}
use Rattle.ndr_value.specs.Forms.{form}
use Rattle.marshal_table.specs.Shapes.{declared_form}
use Rattle.marshal_table.proofs.bodies.add_declared.Given as goal

abbrev pub invariant-loop-one : goal.invariant-loop-one
invariant-loop-one l = map form l.into.items ++ map (declared_form l.terms) (drop l.one-index l.declared) ≡ map form l.initial.into.items ++ map (declared_form l.terms) l.declared
