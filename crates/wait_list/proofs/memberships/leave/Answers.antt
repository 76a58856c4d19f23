use Rattle.std.proofs.Common.{◌≡◌, ◌++◌, sym, ap, ◌∙◌, subst}
use Rattle.wait_list.specs.Linked.{IsAt}
use Rattle.wait_list.specs.Placed.{place_of}
use Rattle.wait_list.specs.Stands.{CanLeave, member_in, links_at}
use Rattle.wait_list.proofs.LinksAt.{links-get, removed}
use Rattle.wait_list.proofs.memberships.leave.Goals as goal

pub remove-requires : goal.remove-requires
remove-requires g c = let can = subst (CanLeave c.args.queues.now) c.in-In.is c.requires in
    subst (λ ns. IsAt ns c.in-In.link.ptr) (sym (links-get c.args.queues.now c.in-In.k c.index-queues-k.result can.0)) can.1

pub returns-in-In-clause-place : goal.returns-in-In-clause-place
returns-in-In-clause-place g c =
    let can = subst (CanLeave c.args.queues.now) c.in-In.is c.requires in
    let at = subst (λ ns. IsAt ns c.in-In.link.ptr) (sym (links-get c.args.queues.now c.in-In.k c.index-queues-k.result can.0)) can.1 in
    sym (c.remove.ensures.nodes at.0 at.1 at.2 at.3 at.4).1 ∙ at.4 ∙ sym (ap place_of c.in-In.is)

pub returns-in-In-clause-links : goal.returns-in-In-clause-links
returns-in-In-clause-links g c = λ k t us vs h.
    let can = subst (CanLeave c.args.queues.now) c.in-In.is c.requires in
    removed c.args.queues.now c.in-In.k c.remove.new.self c.index-queues-k.result c.in-In.link.ptr (λ xs n ys. n.at ≡ c.remove.result.ptr) can.0 c.remove.ensures.nodes k t us vs
    (subst (λ s. links_at c.args.queues.now k ≡ us ++ (member_in k t s ++ vs)) c.in-In.is h)
