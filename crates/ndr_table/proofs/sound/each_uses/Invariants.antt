use Rattle.std.proofs.Common.{◌≡◌, drop, map}
use Rattle.ndr_table.specs.Sound.{each_uses}
use Rattle.ndr_table.specs.Tables.{op_form}
use Rattle.ndr_table.proofs.sound.each_uses.Given as goal

abbrev pub invariant-loop-op : goal.invariant-loop-op
invariant-loop-op l = each_uses (map op_form (drop l.op-index l.ops)) l.rest ≡ each_uses (map op_form l.ops) l.uses
