use Rattle.std.proofs.Common.{length}
use Rattle.rpc_base.proofs.items.+same_items.Given as goal

abbrev pub decreases-same_items : goal.decreases-same_items
decreases-same_items g l = length l.a.now
