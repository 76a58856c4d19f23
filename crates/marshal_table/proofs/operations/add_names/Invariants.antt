use Rattle.std.proofs.Common.{◌≡◌, ◌++◌, map, drop}
use Rattle.marshal_table.specs.Bodies.{names_in}
use Rattle.marshal_table.proofs.operations.add_names.Given as goal

abbrev pub invariant-loop-declared : goal.invariant-loop-declared
invariant-loop-declared l = l.names.items ++ map (λ d. d.name) (drop l.declared-index l.field.declared) ≡ l.initial.names.items ++ names_in l.field
