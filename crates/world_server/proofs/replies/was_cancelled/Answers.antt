use Rattle.std.proofs.Common.{not, reverse, refl, ◌∙◌}
use Rattle.std.specs.List.{list_any}
use Rattle.handle_model.specs.Entries.{takes}
use Rattle.world_server.proofs.Scanning.{cancelled_by, true_and, false_and}
use Rattle.world_server.proofs.replies.was_cancelled.Goals as goal

pub returns-then-any_cancels : goal.returns-then-any_cancels
returns-then-any_cancels c =
    true_and c.any_cancels.result (not c.any_takes.result) c.if-any_cancels.true
    ∙ cancelled_by (reverse c.args.entries.now) c.args.call c.any_cancels.result c.any_takes.result c.any_cancels.ensures c.any_takes.ensures

pub returns-else-any_cancels : goal.returns-else-any_cancels
returns-else-any_cancels c =
    let past = reverse c.args.entries.now in
    let b = list_any (takes c.args.call) past in
    false_and c.any_cancels.result (not b) c.if-any_cancels.false ∙ cancelled_by past c.args.call c.any_cancels.result b c.any_cancels.ensures refl
