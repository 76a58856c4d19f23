use Rattle.std.proofs.Common.{◌++◌, ◌∙◌}
use Rattle.wait_list.specs.Stands.{member_in}
use Rattle.wait_list.proofs.LinksAt.{can_leave, peel}
use Rattle.wait_list.proofs.memberships.leave_queues.Goals as goal

pub leave-a-requires : goal.leave-a-requires
leave-a-requires g c =
    let n = c.args.node in let t = c.args.ticket in let us = c.requires.links.0 in let vs = c.requires.links.1 in
    can_leave c.args.queues.now n.a t us (λ k. (member_in k t n.b ++ (member_in k t n.c ++ member_in k t n.d)) ++ vs k)
    (λ k. c.requires.links.2 k ∙ peel (us k) (member_in k t n.a) (member_in k t n.b ++ (member_in k t n.c ++ member_in k t n.d)) (vs k))

pub leave-b-requires : goal.leave-b-requires
leave-b-requires g c =
    let n = c.args.node in let t = c.args.ticket in let us = c.requires.links.0 in let vs = c.requires.links.1 in
    can_leave c.leave-a.new.queues n.b t us (λ k. (member_in k t n.c ++ member_in k t n.d) ++ vs k)
    (λ k. c.leave-a.ensures.links k t (us k) ((member_in k t n.b ++ (member_in k t n.c ++ member_in k t n.d)) ++ vs k)
    (c.requires.links.2 k ∙ peel (us k) (member_in k t n.a) (member_in k t n.b ++ (member_in k t n.c ++ member_in k t n.d)) (vs k))
    ∙ peel (us k) (member_in k t n.b) (member_in k t n.c ++ member_in k t n.d) (vs k))

pub leave-c-requires : goal.leave-c-requires
leave-c-requires g c =
    let n = c.args.node in let t = c.args.ticket in let us = c.requires.links.0 in let vs = c.requires.links.1 in
    can_leave c.leave-b.new.queues n.c t us (λ k. member_in k t n.d ++ vs k)
    (λ k. c.leave-b.ensures.links k t (us k) ((member_in k t n.c ++ member_in k t n.d) ++ vs k)
    (c.leave-a.ensures.links k t (us k) ((member_in k t n.b ++ (member_in k t n.c ++ member_in k t n.d)) ++ vs k)
    (c.requires.links.2 k ∙ peel (us k) (member_in k t n.a) (member_in k t n.b ++ (member_in k t n.c ++ member_in k t n.d)) (vs k))
    ∙ peel (us k) (member_in k t n.b) (member_in k t n.c ++ member_in k t n.d) (vs k))
    ∙ peel (us k) (member_in k t n.c) (member_in k t n.d) (vs k))

pub leave-d-requires : goal.leave-d-requires
leave-d-requires g c =
    let n = c.args.node in let t = c.args.ticket in let us = c.requires.links.0 in let vs = c.requires.links.1 in
    can_leave c.leave-c.new.queues n.d t us vs
    (λ k. c.leave-c.ensures.links k t (us k) (member_in k t n.d ++ vs k)
    (c.leave-b.ensures.links k t (us k) ((member_in k t n.c ++ member_in k t n.d) ++ vs k)
    (c.leave-a.ensures.links k t (us k) ((member_in k t n.b ++ (member_in k t n.c ++ member_in k t n.d)) ++ vs k)
    (c.requires.links.2 k ∙ peel (us k) (member_in k t n.a) (member_in k t n.b ++ (member_in k t n.c ++ member_in k t n.d)) (vs k))
    ∙ peel (us k) (member_in k t n.b) (member_in k t n.c ++ member_in k t n.d) (vs k))
    ∙ peel (us k) (member_in k t n.c) (member_in k t n.d) (vs k)))
