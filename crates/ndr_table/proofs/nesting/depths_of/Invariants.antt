use Rattle.std.proofs.Common.{◌≡◌, drop, map, true}
use Rattle.std.specs.List.{list_all}
use Rattle.ndr_value.specs.Forms.{form}
use Rattle.ndr_table.specs.Nested.{depths_past, depths_of, is_few}
use Rattle.ndr_table.proofs.nesting.depths_of.Given as goal

abbrev pub invariant-loop-ty : goal.invariant-loop-ty
invariant-loop-ty l = record {
  rest : depths_past l.depths (map form (drop l.ty-index l.types)) ≡ depths_of (map form l.types);
  few : list_all (is_few 256) l.depths ≡ true;
}
