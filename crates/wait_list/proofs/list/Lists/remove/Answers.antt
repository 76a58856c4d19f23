use Rattle.std.proofs.Common.{refl, sym, ap, ◌∙◌, subst, arith}
use Rattle.std.proofs.lemmas.List.{with_items_is}
use Rattle.wait_list.specs.Stands.{links_at}
use Rattle.wait_list.specs.Waiting.{StandsAt, links_of}
use Rattle.wait_list.proofs.Kept.{differ, there, cut_back, place_is, links_of-append, less_nodes, less_links, less_are, less_length, node_at, title_at, not_none}
use Rattle.wait_list.proofs.list.Lists.remove.Goals as goal

pub remove-head-requires : goal.remove-head-requires
remove-head-requires g c = there c.self.inside.order.ring.nodes c.args.ticket (subst (λ w. StandsAt w.nodes c.args.ticket) (sym c.self.view_is) c.requires)

pub leave_queues-spare-requires-clause-at : goal.leave_queues-spare-requires-clause-at
leave_queues-spare-requires-clause-at g c =
    let h = c.requires in let ns = c.self.inside.order.ring.nodes in
    let k = cut_back ns h.0 h.1 h.2 (ap (λ w. w.nodes) c.self.view_is ∙ h.3) in
    let place = place_is k.node h.1 c.args.ticket k.node_is h.4 in
    let e = c.remove-head.ensures.nodes k.before k.node k.after k.cut place in
    let val = ap (λ m. m.val) e.1 ∙ c.in-Some.is in
    (sym (ap (λ m. m.at) e.1) ∙ place, title_at k.node c.in-Some.node (node_at ns k.before k.node k.after k.cut c.self.invariant.nodes_are) val ∙ place)

pub leave_queues-spare-requires-clause-links : goal.leave_queues-spare-requires-clause-links
leave_queues-spare-requires-clause-links g c =
    let h = c.requires in let ns = c.self.inside.order.ring.nodes in
    let k = cut_back ns h.0 h.1 h.2 (ap (λ w. w.nodes) c.self.view_is ∙ h.3) in
    let place = place_is k.node h.1 c.args.ticket k.node_is h.4 in
    let e = c.remove-head.ensures.nodes k.before k.node k.after k.cut place in
    let val = ap (λ m. m.val) e.1 ∙ c.in-Some.is in
    (λ j. links_of j k.before, λ j. links_of j k.after, λ j. ap (λ l. links_at l j) c.deref_mut.ensures.value ∙ c.self.invariant.links_are j ∙ ap (links_of j) k.cut ∙ less_links j k.before k.node k.after c.args.ticket c.in-Some.node val place)

pub invariant_of-self : goal.invariant_of-self
invariant_of-self g c =
    let h = c.requires in let ns = c.self.inside.order.ring.nodes in let ns' = c.remove-head.new.self.ring.nodes in
    let k = cut_back ns h.0 h.1 h.2 (ap (λ w. w.nodes) c.self.view_is ∙ h.3) in
    let place = place_is k.node h.1 c.args.ticket k.node_is h.4 in
    let e = c.remove-head.ensures.nodes k.before k.node k.after k.cut place in
    let val = ap (λ m. m.val) e.1 ∙ c.in-Some.is in
    let qs = with_items_is c.self.inside.queues c.leave_queues-spare.new.queues (c.leave_queues-spare.auto.queues ∙ c.deref_mut.ensures.len) in
    let long = less_length ns k.before k.node k.after ns' k.cut e.0 in
    record {
      links_are = λ j. ap (λ l. links_at l j) qs ∙ c.leave_queues-spare.ensures.links j (links_of j k.before) (links_of j k.after)
          (ap (λ l. links_at l j) c.deref_mut.ensures.value ∙ c.self.invariant.links_are j ∙ ap (links_of j) k.cut ∙ less_links j k.before k.node k.after c.args.ticket c.in-Some.node val place)
          ∙ sym (links_of-append j k.before k.after) ∙ ap (links_of j) (sym e.0);
      nodes_are = less_are ns k.before k.node k.after ns' k.cut e.0 c.self.invariant.nodes_are;
      made_is = let l = c.in-Ok.ensures.len in let m = c.self.invariant.made_is in omega arith;
      room_is = let r = c.self.invariant.room_is in let l = c.in-Ok.ensures.capacity in omega arith;
    }

pub unreachable-requires : goal.unreachable-requires
unreachable-requires g c =
    let h = c.requires in let ns = c.self.inside.order.ring.nodes in let ns' = c.remove-head.new.self.ring.nodes in
    let k = cut_back ns h.0 h.1 h.2 (ap (λ w. w.nodes) c.self.view_is ∙ h.3) in
    let e = c.remove-head.ensures.nodes k.before k.node k.after k.cut (place_is k.node h.1 c.args.ticket k.node_is h.4) in
    let long = less_length ns k.before k.node k.after ns' k.cut e.0 in
    let m = c.self.invariant.made_is in let r = c.self.invariant.room_is in
    let s = c.in-Err.ensures.succeeds (omega arith) in cc

pub unreachable-requires-in-None : goal.unreachable-requires-in-None
unreachable-requires-in-None g c =
    let h = c.requires in let ns = c.self.inside.order.ring.nodes in
    let k = cut_back ns h.0 h.1 h.2 (ap (λ w. w.nodes) c.self.view_is ∙ h.3) in
    let e = c.remove-head.ensures.nodes k.before k.node k.after k.cut (place_is k.node h.1 c.args.ticket k.node_is h.4) in
    not_none k.node (node_at ns k.before k.node k.after k.cut c.self.invariant.nodes_are) (ap (λ m. m.val) e.1 ∙ c.in-None.is)

pub returns-clause-nodes : goal.returns-clause-nodes
returns-clause-nodes g c = λ xs n ys cut at.
    let ns = c.self.inside.order.ring.nodes in let ns' = c.remove-head.new.self.ring.nodes in
    let k = cut_back ns xs n ys (ap (λ w. w.nodes) c.self.view_is ∙ cut) in
    let e = c.remove-head.ensures.nodes k.before k.node k.after k.cut (place_is k.node n c.args.ticket k.node_is at) in
    less_nodes k.before k.after ns' xs ys e.0 k.before_is k.after_is

pub returns-clause-differ : goal.returns-clause-differ
returns-clause-differ g c = let order = c.remove-head.new.self in differ order.ring.stop order.ring.nodes _ order.ring.apart refl
