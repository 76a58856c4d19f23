use Rattle.std.proofs.Common.{subst}
use Rattle.std.specs.Vec.Iter.{into_iter_items, into_iter_len}
use Rattle.rpc_outside.specs.Dials.{DialBacks}
use Rattle.client_script.proofs.Whole.{returned_more}
use Rattle.client_script.proofs.calling.give_back.Goals as goal

pub loop-channel-preserved : goal.loop-channel-preserved
loop-channel-preserved g c =
    returned_more (g.Q.Dial.shows c.args.dial.now) (g.Q.Dial.shows c.loop-channel.dial) (g.Q.Dial.shows c.back.new.self) c.args.channels.items (into_iter_items c.loop-channel.left) (into_iter_items c.next.new.self) c.in-Some.channel
    (into_iter_len c.loop-channel.left) (into_iter_len c.next.new.self) c.loop-channel.invariant c.in-Some.ensures.items c.in-Some.ensures.len
    (subst (λ k. DialBacks (g.Q.Dial.shows c.loop-channel.dial) k (g.Q.Dial.shows c.back.new.self)) c.into_link.ensures c.back.ensures)
