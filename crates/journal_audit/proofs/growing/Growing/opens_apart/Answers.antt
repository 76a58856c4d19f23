use Rattle.std.proofs.Common.{◌∙◌, ap}
use Rattle.std.specs.List.{list_all}
use Rattle.handle_model.specs.Sound.{differ}
use Rattle.journal_audit.specs.Calls.{serials_in, opens_apart}
use Rattle.journal_audit.specs.Numbered.{Grown, opens_by}
use Rattle.journal_audit.proofs.Keeps.{opens_apart_shown}
use Rattle.journal_audit.proofs.growing.Growing.opens_apart.Goals as goal

pub returns : goal.returns
returns c =
    let apart = c.serials_differ-apart.ensures ∙ ap (λ ss. differ (serials_in ss)) c.as_slice-slots.ensures in
    let new = c.all_may_open-new.ensures ∙ ap (λ ss. list_all (opens_by c.self.inside.handles.items c.self.inside.base.opens c.self.inside.serials) (serials_in ss)) c.as_slice-slots.ensures in
    c.both.ensures ∙ (opens_apart_shown _ _ _ _ _ _ _ c.args.call.now _ _ c.self.invariant apart new ∙ ap (λ (g : Grown). opens_apart g.base c.args.call.now) c.self.view_is)
