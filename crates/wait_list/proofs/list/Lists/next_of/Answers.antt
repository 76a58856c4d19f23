use Rattle.std.proofs.Common.{◌≡◌, ◌<◌, Some, None, IfSome, MatchOption, [], ◌∷◌, ◌++◌, refl, sym, ap, ◌∙◌, subst}
use Rattle.wait_list.specs.Linked.{linked, first_val}
use Rattle.wait_list.specs.Stands.{ticket_at}
use Rattle.wait_list.specs.Waiting.{StandsIn, AtTicket, first_in, links_of}
use Rattle.wait_list.proofs.Kept.{nodes_full, there, cut_back, place_is, first_links, split_at, no_links, has_numbers}
use Rattle.wait_list.proofs.LinksAt.{links-get}
use Rattle.wait_list.proofs.list.Lists.next_of.Goals as goal

pub after-requires : goal.after-requires
after-requires c = let q = c.index-of.result.now in ([], q.ring.stop, q.ring.nodes, refl, ap (λ m. m.at) q.stops)

pub node-requires-clause-there : goal.node-requires-clause-there
node-requires-clause-there c =
    let h = subst (λ o. IfSome o (λ t. StandsIn c.args.self.now.nodes c.args.queue t)) c.in-Some.is c.requires.after in
    there c.self.inside.order.ring.nodes c.in-Some.ticket (h.0, h.1, h.2, ap (λ w. w.nodes) c.self.view_is ∙ h.3, h.4)

pub node-requires-clause-full : goal.node-requires-clause-full
node-requires-clause-full c = nodes_full c.self.inside.order.ring.nodes c.self.invariant.nodes_are

pub after-requires-in-Some-last_link : goal.after-requires-in-Some-last_link
after-requires-in-Some-last_link c =
    let h = subst (λ o. IfSome o (λ t. StandsIn c.args.self.now.nodes c.args.queue t)) c.in-Some.is c.requires.after in
    let ns = c.self.inside.order.ring.nodes in let q = c.args.queue in let of = c.index-of.result.now in let qs = c.self.inside.queues in
    let below = subst (λ n. q < n) (sym (ap (λ w. w.queues) c.self.view_is) ∙ qs.ok.0) c.requires.queue in
    let has_links = ap (λ o. o.ring.nodes) c.index-of.ensures ∙ links-get qs.items q of below ∙ c.self.invariant.links_are q in
    let k = cut_back ns h.0 h.1 h.2 (ap (λ w. w.nodes) c.self.view_is ∙ h.3) in
    let v = c.node.ensures k.before k.node k.after k.cut (place_is k.node h.1 c.in-Some.ticket k.node_is h.4) in
    let t = ticket_at k.node.at in let l = c.in-Some-last_link.ensures t in
    let x = linked c.in-Some-last_link.link.ptr (Some t) in
    let split = has_links ∙ ap (links_of q) k.cut ∙ split_at q k.before k.node k.after c.node.result.now l.0 x v l.1 in
    (of.ring.stop ∷ (links_of q k.before ++ l.0), x, links_of q k.after, ap (λ r. of.ring.stop ∷ r) split, refl)

pub unreachable-requires : goal.unreachable-requires
unreachable-requires c =
    let h = subst (λ o. IfSome o (λ t. StandsIn c.args.self.now.nodes c.args.queue t)) c.in-Some.is c.requires.after in
    let k = cut_back c.self.inside.order.ring.nodes h.0 h.1 h.2 (ap (λ w. w.nodes) c.self.view_is ∙ h.3) in
    let v = c.node.ensures k.before k.node k.after k.cut (place_is k.node h.1 c.in-Some.ticket k.node_is h.4) in
    no_links c.args.queue c.in-Some.ticket c.node.result.now (c.in-None-last_link.ensures c.in-Some.ticket) (has_numbers c.args.queue k.node h.1 c.node.result.now k.node_is v h.5)

pub returns-in-None : goal.returns-in-None
returns-in-None c =
    let ns = c.self.inside.order.ring.nodes in let q = c.args.queue in let of = c.index-of.result.now in let qs = c.self.inside.queues in
    let below = subst (λ n. q < n) (sym (ap (λ w. w.queues) c.self.view_is) ∙ qs.ok.0) c.requires.queue in
    let has_links = ap (λ o. o.ring.nodes) c.index-of.ensures ∙ links-get qs.items q of below ∙ c.self.invariant.links_are q in
    let W = c.args.self.now.nodes in
    subst (λ o. MatchOption o (c.after.result ≡ first_in q W) (λ t. AtTicket W t (λ xs n ys. c.after.result ≡ first_in q ys))) (sym c.in-None.is)
    (c.after.ensures [] of.ring.stop of.ring.nodes refl (ap (λ m. m.at) of.stops) ∙ ap (first_val None) has_links ∙ first_links q ns ∙ ap (λ w. first_in q w.nodes) c.self.view_is)

pub returns-in-Some-last_link : goal.returns-in-Some-last_link
returns-in-Some-last_link c =
    let ns = c.self.inside.order.ring.nodes in let q = c.args.queue in let of = c.index-of.result.now in let qs = c.self.inside.queues in
    let below = subst (λ n. q < n) (sym (ap (λ w. w.queues) c.self.view_is) ∙ qs.ok.0) c.requires.queue in
    let has_links = ap (λ o. o.ring.nodes) c.index-of.ensures ∙ links-get qs.items q of below ∙ c.self.invariant.links_are q in
    let W = c.args.self.now.nodes in let r = c.after-in-Some-last_link.result in
    subst (λ o. MatchOption o (r ≡ first_in q W) (λ t. AtTicket W t (λ xs n ys. r ≡ first_in q ys))) (sym c.in-Some.is) (λ xs n ys cut at.
    let k = cut_back ns xs n ys (ap (λ w. w.nodes) c.self.view_is ∙ cut) in
    let v = c.node.ensures k.before k.node k.after k.cut (place_is k.node n c.in-Some.ticket k.node_is at) in
    let t = ticket_at k.node.at in let l = c.in-Some-last_link.ensures t in
    let x = linked c.in-Some-last_link.link.ptr (Some t) in
    let split = has_links ∙ ap (links_of q) k.cut ∙ split_at q k.before k.node k.after c.node.result.now l.0 x v l.1 in
    c.after-in-Some-last_link.ensures (of.ring.stop ∷ (links_of q k.before ++ l.0)) x (links_of q k.after) (ap (λ r. of.ring.stop ∷ r) split) refl ∙ first_links q k.after ∙ ap (first_in q) k.after_is)
