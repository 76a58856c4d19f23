use Rattle.std.proofs.Common.{reverse, refl, ◌∙◌}
use Rattle.handle_model.specs.Journal.{asked, has_left}
use Rattle.world_server.specs.Servers.{whole}
use Rattle.world_server.proofs.Scanning.{lost_by, true_or, false_or}
use Rattle.world_server.proofs.replies.is_lost.Goals as goal

pub returns-then-any_orphans : goal.returns-then-any_orphans
returns-then-any_orphans c =
    let past = reverse c.args.entries.now in
    let b = has_left (whole past) (asked (whole past) c.args.call) in
    true_or c.any_orphans.result b c.if-any_orphans.true ∙ lost_by past c.args.call c.any_orphans.result b c.any_orphans.ensures refl

pub returns-else-any_orphans : goal.returns-else-any_orphans
returns-else-any_orphans c =
    let past = reverse c.args.entries.now in
    false_or c.any_orphans.result c.has_left.result c.if-any_orphans.false ∙ lost_by past c.args.call c.any_orphans.result c.has_left.result c.any_orphans.ensures c.has_left.ensures
