use Rattle.std.proofs.Common.{sym, ap, ◌∙◌, subst}
use Rattle.wait_list.specs.Waiting.{StandsAt}
use Rattle.wait_list.proofs.Kept.{nodes_full, there, cut_back, place_is, call_is}
use Rattle.wait_list.proofs.list.Lists.call_of.Goals as goal

pub node-requires-clause-there : goal.node-requires-clause-there
node-requires-clause-there c = there c.self.inside.order.ring.nodes c.args.ticket (subst (λ w. StandsAt w.nodes c.args.ticket) (sym c.self.view_is) c.requires)

pub node-requires-clause-full : goal.node-requires-clause-full
node-requires-clause-full c = nodes_full c.self.inside.order.ring.nodes c.self.invariant.nodes_are

pub returns : goal.returns
returns c = λ xs n ys cut at.
    let k = cut_back c.self.inside.order.ring.nodes xs n ys (ap (λ w. w.nodes) c.self.view_is ∙ cut) in
    call_is k.node n c.node.result.now k.node_is (c.node.ensures k.before k.node k.after k.cut (place_is k.node n c.args.ticket k.node_is at))
