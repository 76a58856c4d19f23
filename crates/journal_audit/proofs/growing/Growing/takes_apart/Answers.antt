use Rattle.std.proofs.Common.{◌∙◌, sym, ap, subst}
use Rattle.std.specs.List.{list_all}
use Rattle.handle_model.specs.Sound.{names_apart}
use Rattle.journal_audit.specs.Calls.{takes_apart}
use Rattle.journal_audit.specs.Numbered.{Grown, known_by, free_by}
use Rattle.journal_audit.specs.SoFar.{IsSoundSoFar}
use Rattle.journal_audit.proofs.Keeps.{takes_shown}
use Rattle.journal_audit.proofs.growing.Growing.takes_apart.Goals as goal

pub returns : goal.returns
returns c =
    let sound : IsSoundSoFar c.self.inside.home c.self.inside.base = subst (λ (g : Grown). IsSoundSoFar g.home g.base) (sym c.self.view_is) c.requires in
    let apart = c.names_apart-apart.ensures ∙ ap names_apart c.as_slice-slots.ensures in
    let known = c.all_known-known.ensures ∙ ap (list_all (known_by c.self.inside.handles.home c.self.inside.handles.items)) c.as_slice-slots.ensures in
    let free = c.all_free-free.ensures ∙ ap (list_all (free_by c.self.inside.handles.home c.self.inside.handles.items c.self.inside.used c.self.inside.held)) c.as_slice-slots.ensures in
    c.all_three.ensures ∙ (takes_shown _ _ _ _ _ _ _ c.args.call.now _ _ _ c.self.invariant sound apart known free ∙ ap (λ (g : Grown). takes_apart g.home g.base c.args.call.now) c.self.view_is)
