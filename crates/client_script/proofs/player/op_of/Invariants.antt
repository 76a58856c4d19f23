use Rattle.ndr_table.specs.Shown.{shown}
use Rattle.client_script.proofs.Asking.{NoneBefore}
use Rattle.client_script.proofs.player.op_of.Given as goal

abbrev pub invariant-loop-op : goal.invariant-loop-op
invariant-loop-op l = NoneBefore (shown l.table) l.name l.op
