use Rattle.std.proofs.Common.{◌≡◌, drop, map}
use Rattle.std.specs.List.{list_all}
use Rattle.ndr_table.specs.Nested.{op_few}
use Rattle.ndr_table.specs.Tables.{op_form}
use Rattle.ndr_table.proofs.nesting.ops_few.Given as goal

abbrev pub invariant-loop-op : goal.invariant-loop-op
invariant-loop-op l = list_all (op_few 256 l.depths) (map op_form (drop l.op-index l.ops)) ≡ list_all (op_few 256 l.depths) (map op_form l.ops)
