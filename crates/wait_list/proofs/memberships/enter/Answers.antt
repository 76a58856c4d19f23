use Rattle.std.proofs.Common.{Some, subst, IfSome, length, ◌<◌}
use Rattle.wait_list.specs.Linked.{linked}
use Rattle.wait_list.proofs.LinksAt.{pushed}
use Rattle.wait_list.proofs.memberships.enter.Goals as goal

pub returns-in-Some-clause-links : goal.returns-in-Some-clause-links
returns-in-Some-clause-links c =
    pushed c.args.queues.now c.in-Some.k c.push-link.new.self c.index-queues-k.result (linked c.push-link.result.ptr (Some c.args.ticket)) (subst (λ o. IfSome o (λ k. k < length c.args.queues.now)) c.in-Some.is c.requires)
    (rw c.push-link.ensures.place c.push-link.ensures.nodes)
