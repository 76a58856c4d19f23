use Rattle.std.proofs.Common.{◌≡◌, drop, map}
use Rattle.std.specs.List.{list_all}
use Rattle.ndr_value.specs.Forms.{form}
use Rattle.ndr_table.specs.Nested.{reaches_few}
use Rattle.ndr_table.proofs.nesting.types_reach.Given as goal

abbrev pub invariant-loop-ty : goal.invariant-loop-ty
invariant-loop-ty l = list_all (reaches_few 256 l.depths) (map form (drop l.ty-index l.types)) ≡ list_all (reaches_few 256 l.depths) (map form l.types)
