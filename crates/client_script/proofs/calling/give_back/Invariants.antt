use Rattle.std.specs.Vec.Iter.{into_iter_items, into_iter_len}
use Rattle.client_script.proofs.Whole.{Returned}
use Rattle.client_script.proofs.calling.give_back.Given as goal

abbrev pub invariant-loop-channel : goal.invariant-loop-channel
invariant-loop-channel g l = Returned (g.Q.Dial.shows l.fn.dial) l.fn.channels.items (into_iter_items l.left) (into_iter_len l.left) (g.Q.Dial.shows l.dial)

abbrev pub decreases-loop-channel : goal.decreases-loop-channel
decreases-loop-channel g l = into_iter_len l.left
