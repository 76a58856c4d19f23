use Rattle.std.proofs.Common.{◌≡◌, drop}
use Rattle.marshal_table.specs.Shapes.{given, range_in}
use Rattle.marshal_table.proofs.terms.range.Given as goal

-- what is left of the attributes has the answer
abbrev pub invariant-loop-one : goal.invariant-loop-one
invariant-loop-one l = given range_in (drop l.one-index l.list) ≡ given range_in l.list
