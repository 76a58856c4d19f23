use Rattle.std.proofs.Common.{ℕ, ap, ◌∙◌}
use Rattle.desk_counts.specs.Numbers.{with_more}
use Rattle.replay_events.proofs.answers.answer.Goals as goal

pub returns : goal.returns
returns c =
    let p = c.in_ok-answered.ensures in
    record { pieces = p.pieces; cut = p.cut; text = p.text; fit = p.fit; sum = c.count.ensures ∙ ap (λ (n : ℕ). with_more c.args.totals.now 0 0 n) p.count_is }
