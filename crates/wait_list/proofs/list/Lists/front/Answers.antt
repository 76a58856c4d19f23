use Rattle.std.proofs.Common.{[], refl, ap, ◌∙◌}
use Rattle.wait_list.specs.Waiting.{front_of}
use Rattle.wait_list.proofs.Kept.{nodes_full, fronts}
use Rattle.wait_list.proofs.list.Lists.front.Goals as goal

pub after-requires-clause-there : goal.after-requires-clause-there
after-requires-clause-there c = let order = c.self.inside.order in ([], order.ring.stop, order.ring.nodes, refl, ap (λ m. m.at) order.stops)

pub after-requires-clause-full : goal.after-requires-clause-full
after-requires-clause-full c = nodes_full c.self.inside.order.ring.nodes c.self.invariant.nodes_are

pub returns : goal.returns
returns c = let order = c.self.inside.order in
    c.after.ensures [] order.ring.stop order.ring.nodes refl (ap (λ m. m.at) order.stops) ∙ fronts order.ring.nodes ∙ ap (λ w. front_of w.nodes) c.self.view_is
