use Rattle.std.proofs.Common.{rules}
use Rattle.rpc_outside.proofs.LinkLemmas.{put_rest}
use Rattle.rpc_outside.proofs.put.put_all.Goals as goal

pub loop-done-preserved : goal.loop-done-preserved
loop-done-preserved g c = (search rules, put_rest _ _ _ c.loop-done.done _ c.args.piece.now c.loop-done.invariant.1 c.in-Ok.ensures.2)
