use Rattle.std.proofs.Common.{◌≡◌, drop}
use Rattle.marshal_table.specs.Shapes.{given, most_in}
use Rattle.marshal_table.proofs.terms.most.Given as goal

-- what is left of the attributes has the answer
abbrev pub invariant-loop-one : goal.invariant-loop-one
invariant-loop-one l = given (most_in l.place l.names) (drop l.one-index l.list) ≡ given (most_in l.place l.names) l.list
