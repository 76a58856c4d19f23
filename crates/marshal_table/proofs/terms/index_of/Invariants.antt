use Rattle.std.proofs.Common.{◌≡◌, ◌+◌, drop}
use Rattle.marshal_table.specs.Shapes.{index_of}
use Rattle.marshal_table.proofs.terms.index_of.Given as goal

abbrev pub invariant-loop-other : goal.invariant-loop-other
invariant-loop-other l = record { place : l.index ≡ l.other-index; rest : index_of l.name (drop l.other-index l.names) + l.index ≡ index_of l.name l.names }
