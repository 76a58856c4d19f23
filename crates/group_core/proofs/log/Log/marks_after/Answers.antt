use Rattle.std.proofs.Common.{rules, ◌≡◌, ◌+◌, ◌≤◌, ◌∙◌, ap, sym, subst, arith}
use Rattle.group_core.proofs.Asking.{left_marks}
use Rattle.group_core.specs.Kept.{Logged, accepted_in}
use Rattle.group_core.specs.Marks.{Marked}
use Rattle.group_core.specs.Folds.{MarksLeft}
use Rattle.group_core.proofs.log.Log.marks_after.Goals as goal

pub returns : goal.returns
returns c =
    let view : c.self.inside.journal ≡ c.args.self.now = c.self.view_is in
    let wanted : c.in-Some.wanted ≡ c.self.inside.journal.spare + c.args.more = search rules in
    let low : c.self.inside.journal.base.accepts ≤ c.args.base.now.accepts = subst (λ (l : Logged). l.base.accepts ≤ c.args.base.now.accepts) (sym view) c.requires.0 in
    let high : c.args.base.now.accepts ≤ accepted_in c.self.inside.journal = subst (λ (l : Logged). c.args.base.now.accepts ≤ accepted_in l) (sym view) c.requires.1 in
    subst (λ (l : Logged). MarksLeft l c.args.base.now c.args.more c.reserve.new.self) view
    (left_marks c.self.inside.marks c.reserve.new.self c.self.inside.journal c.args.base.now c.args.more c.self.invariant.1 low high (
      c.in_ok-reserve.ensures.same.0 ∙ ap (λ (m : Marked). m.first) c.in_ok-marks.ensures,
      c.in_ok-reserve.ensures.same.1 ∙ ap (λ (m : Marked). m.early) c.in_ok-marks.ensures,
      c.in_ok-reserve.ensures.same.2 ∙ ap (λ (m : Marked). m.later) c.in_ok-marks.ensures,
    )
    (omega (arith, c.in_ok-reserve.ensures.ok, wanted)))
