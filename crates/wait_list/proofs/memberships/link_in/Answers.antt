use Rattle.std.proofs.Common.{[], ◌∷◌, Some, cond, ap, ◌∙◌}
use Rattle.wait_list.specs.Linked.{linked}
use Rattle.wait_list.specs.Stands.{is_same, member_in}
use Rattle.wait_list.proofs.LinksAt.{is_same-refl, is_same-differs}
use Rattle.wait_list.proofs.memberships.link_in.Goals as goal

pub returns-then-k-queue : goal.returns-then-k-queue
returns-then-k-queue c = λ t. ap (member_in c.args.queue t) c.in-In.is ∙
    ap (λ b. cond b (linked c.in-In.link.ptr (Some t) ∷ []) []) (ap (λ n. is_same n c.args.queue) c.if-k-queue.true ∙ is_same-refl c.args.queue)

pub returns-else-k-queue : goal.returns-else-k-queue
returns-else-k-queue c = λ t. ap (member_in c.args.queue t) c.in-In.is ∙
    ap (λ b. cond b (linked c.in-In.link.ptr (Some t) ∷ []) []) (is_same-differs c.in-In.k c.args.queue c.if-k-queue.false)
