use Rattle.std.proofs.Common.{arith}
use Rattle.idl_print.proofs.Printing.{comma_step}
use Rattle.idl_print.proofs.list.behind_commas.Goals as goal

pub loop-part-preserved : goal.loop-part-preserved
loop-part-preserved g c = comma_step g.T.Print.pieces _ _ _ _ _ _ _ (omega arith) c.part-item.is c.loop-part.invariant c.in_ok-mark.ensures c.in_ok-print.ensures
