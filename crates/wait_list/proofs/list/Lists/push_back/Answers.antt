use Rattle.std.proofs.Common.{◌++◌, Some, refl, sym, ap, ◌∙◌, arith}
use Rattle.std.proofs.lemmas.List.{with_items_is}
use Rattle.wait_list.specs.Linked.{linked}
use Rattle.wait_list.specs.Stands.{links_at, ticket_at}
use Rattle.wait_list.specs.Waiting.{numbers, links_of_node}
use Rattle.wait_list.proofs.Kept.{differ, more_nodes, more_links, more_are, more_length}
use Rattle.wait_list.proofs.list.Lists.push_back.Goals as goal

pub invariant_of-self : goal.invariant_of-self
invariant_of-self c =
    let made = c.join_queues-room.result in let t = made.0 in let p = made.1.ptr in let node = made.2 in
    let ns = c.self.inside.order.ring.nodes in let ns' = c.push.new.self.ring.nodes in let at = c.join_queues-room.ensures.at in
    let long = more_length ns ns' (linked p (Some node)) c.push.ensures in
    let qs = with_items_is c.self.inside.queues c.join_queues-room.new.queues (c.join_queues-room.auto.queues ∙ c.deref_mut.ensures.len) in
    record {
      links_are = λ k. ap (λ l. links_at l k) qs ∙ c.join_queues-room.ensures.links k ∙ ap (λ l. l ++ links_of_node k t node) (ap (λ l. links_at l k) c.deref_mut.ensures.value ∙ c.self.invariant.links_are k) ∙ more_links k ns ns' p t node c.push.ensures at.0;
      nodes_are = more_are ns ns' p node c.push.ensures (at.1 ∙ sym at.0) c.self.invariant.nodes_are;
      made_is = let l = c.in-Some.ensures.len in let m = c.self.invariant.made_is in omega arith;
      room_is = let r = c.self.invariant.room_is in let k = c.in-Some.ensures.capacity in omega arith;
    }

pub returns-clause-nodes : goal.returns-clause-nodes
returns-clause-nodes c =
    let made = c.join_queues-room.result in let t = made.0 in let p = made.1.ptr in let node = made.2 in
    let ns = c.self.inside.order.ring.nodes in let ns' = c.push.new.self.ring.nodes in let at = c.join_queues-room.ensures.at in let num = c.join_queues-room.ensures.numbers in
    more_nodes ns ns' (linked p (Some node)) c.args.self.now.nodes (record { ticket = t; call = c.args.call; queues = numbers c.args.of.a c.args.of.b c.args.of.c c.args.of.d }) c.push.ensures
    (λ i. record { ticket = ticket_at (at.0 i); call = c.join_queues-room.ensures.call i; queues = numbers (num.0 i) (num.1 i) (num.2 i) (num.3 i) }) (ap (λ w. w.nodes) c.self.view_is)

pub returns-clause-differ : goal.returns-clause-differ
returns-clause-differ c = let order = c.push.new.self in differ order.ring.stop order.ring.nodes _ order.ring.apart refl
