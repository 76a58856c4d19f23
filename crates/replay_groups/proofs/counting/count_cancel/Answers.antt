use Rattle.std.proofs.Common.{sym, subst}
use Rattle.group_core.specs.declared.answer.Cancelled.{Cancelled}
use Rattle.group_core.specs.Calls.{Cancels}
use Rattle.replay_groups.specs.Keeps.{Counted}
use Rattle.replay_groups.proofs.Tallies.{ended_counted, flagged_counted}
use Rattle.replay_groups.proofs.counting.count_cancel.Goals as goal

pub returns-in-Ended : goal.returns-in-Ended
returns-in-Ended c = λ k.
    subst (λ (r : Cancelled). Counted (λ a b. Cancels a k r b) c.args.counts.now c.cancelled.new.self) (sym c.in-Ended.is)
    (ended_counted k c.args.counts.now c.cancelled.new.self c.cancelled.ensures)

pub returns-in-Flagged : goal.returns-in-Flagged
returns-in-Flagged c = λ k.
    subst (λ (r : Cancelled). Counted (λ a b. Cancels a k r b) c.args.counts.now c.cancelled-in-Flagged.new.self) (sym c.in-Flagged.is)
    (flagged_counted k c.args.counts.now c.cancelled-in-Flagged.new.self c.cancelled-in-Flagged.ensures)
