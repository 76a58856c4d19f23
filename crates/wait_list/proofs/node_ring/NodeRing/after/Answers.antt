use Rattle.std.proofs.Common.{ap}
use Rattle.wait_list.proofs.Cuts.{next_there, roll_some, roll_none}
use Rattle.wait_list.proofs.node_ring.NodeRing.after.Goals as goal

pub read-requires : goal.read-requires
read-requires c = let at = c.requires.there in
    next_there c.args.self.now.ring.stop c.args.self.now.ring.nodes at.0 at.1 at.2 c.next-next.result.ptr at.3 (c.next-next.ensures at.0 at.1 at.2 at.3 at.4)

pub returns-in-Some : goal.returns-in-Some
returns-in-Some c = λ xs n ys cut at.
    roll_some c.args.self.now.ring.stop c.args.self.now.ring.nodes (ap (λ m. m.val) c.args.self.now.stops) c.requires.full c.read.result.now c.next-next.result.ptr c.read.ensures c.in-Some.field-0 c.in-Some.is xs n ys cut
    (c.next-next.ensures xs n ys cut at)

pub returns-in-None : goal.returns-in-None
returns-in-None c = λ xs n ys cut at.
    roll_none c.args.self.now.ring.stop c.args.self.now.ring.nodes (ap (λ m. m.val) c.args.self.now.stops) c.requires.full c.read.result.now c.next-next.result.ptr c.read.ensures c.in-None.is xs n ys cut
    (c.next-next.ensures xs n ys cut at)
