use Rattle.std.proofs.Common.{◌++◌, Some}
use Rattle.wait_list.specs.Linked.{linked}
use Rattle.wait_list.specs.Stands.{member_in}
use Rattle.wait_list.proofs.LinksAt.{last_d, last_c, last_b}
use Rattle.wait_list.proofs.memberships.last_link.Goals as goal

pub returns-in-Some : goal.returns-in-Some
returns-in-Some c = λ t. let n = c.args.node.now in let s = member_in c.args.queue t in
    (s n.a ++ (s n.b ++ s n.c), last_d (s n.a) (s n.b) (s n.c) (s n.d) (linked c.in-Some.link.ptr (Some t)) (c.in-Some.ensures t))

pub returns-in-Some-link_in : goal.returns-in-Some-link_in
returns-in-Some-link_in c = λ t. let n = c.args.node.now in let s = member_in c.args.queue t in
    (s n.a ++ s n.b, last_c (s n.a) (s n.b) (s n.c) (s n.d) (linked c.in-Some-link_in.link.ptr (Some t)) (c.in_default.ensures t) (c.in-Some-link_in.ensures t))

pub returns-in-Some-link_in-2 : goal.returns-in-Some-link_in-2
returns-in-Some-link_in-2 c = λ t. let n = c.args.node.now in let s = member_in c.args.queue t in
    (s n.a, last_b (s n.a) (s n.b) (s n.c) (s n.d) (linked c.in-Some-link_in-2.link.ptr (Some t)) (c.in_default.ensures t) (c.in_default-link_in.ensures t) (c.in-Some-link_in-2.ensures t))
