use Rattle.std.proofs.Common.{◌≡◌, drop, map}
use Rattle.std.specs.List.{list_all}
use Rattle.ndr_table.specs.Sound.{op_sound}
use Rattle.ndr_table.specs.Tables.{op_form}
use Rattle.ndr_table.proofs.sound.ops_sound.Given as goal

abbrev pub invariant-loop-op : goal.invariant-loop-op
invariant-loop-op l = list_all op_sound (map op_form (drop l.op-index l.ops)) ≡ list_all op_sound (map op_form l.ops)
