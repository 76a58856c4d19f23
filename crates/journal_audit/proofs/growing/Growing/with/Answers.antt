use Rattle.std.proofs.Common.{◌≡◌, ℕ, ◌&&◌, ◌||◌, sym, ◌∙◌, ap, subst}
use Rattle.std.specs.List.{list_any}
use Rattle.handle_model.specs.Bases.{is_number}
use Rattle.journal_audit.specs.Calls.{serials_in}
use Rattle.journal_audit.specs.Numbered.{Grown, has}
use Rattle.journal_audit.specs.SoFar.{IsSoundSoFar, with_call}
use Rattle.journal_audit.proofs.Keeps.{kept_more}
use Rattle.journal_audit.proofs.growing.Growing.with.Goals as goal

pub invariant_of-grown : goal.invariant_of-grown
invariant_of-grown c =
    let sound : IsSoundSoFar c.grown.inside.home (with_call c.grown.inside.base c.args.call) = subst (λ (g : Grown). IsSoundSoFar g.home (with_call g.base c.args.call)) (sym c.grown.view_is) c.requires in
    let serials : (n : ℕ) → has c.add_serials.new.serials n ≡ (list_any (is_number n) (serials_in c.args.call.asked.slots) || has c.grown.inside.serials n) = λ n. c.in_ok-add_serials.ensures n ∙ ap (λ ss. list_any (is_number n) (serials_in ss) || has c.grown.inside.serials n) c.as_slice.ensures in
    rw c.in_ok-push.ensures.ok (kept_more _ _ _ _ _ _ _ _ _ _ c.args.call c.grown.invariant sound serials c.in_ok-add_uses_of.ensures c.in_ok-add_holds_of.ensures)
