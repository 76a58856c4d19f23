use Rattle.std.proofs.Common.{Bool, ◌&&◌, not, reverse, sym, ap, ◌∙◌}
use Rattle.handle_model.specs.Journal as spec
use Rattle.world_server.specs.Servers.{whole}
use Rattle.world_server.proofs.Scanning.{any_whole}
use Rattle.call_world.proofs.handles.is_live.Goals as goal

pub returns : goal.returns
returns c =
    let past = reverse c.args.entries.now in
    let h = c.args.serial in
    c.lives.ensures ∙ ap (λ (b : Bool). b && not c.is_closed-closed.result && not c.is_run_down-run_down.result) (c.any_issues-issued.ensures ∙ sym (any_whole (spec.issues_in h) past))
    ∙ ap (λ (b : Bool). spec.is_issued (whole past) h && not b && not c.is_run_down-run_down.result) c.is_closed-closed.ensures
    ∙ ap (λ (b : Bool). spec.is_issued (whole past) h && not (spec.is_closed (whole past) h) && not b) c.is_run_down-run_down.ensures
