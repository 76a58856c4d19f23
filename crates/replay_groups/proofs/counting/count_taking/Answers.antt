use Rattle.std.proofs.Common.{sym, subst}
use Rattle.group_core.specs.declared.answer.Taking.{Taking}
use Rattle.group_core.specs.Calls.{Takes}
use Rattle.replay_groups.specs.Keeps.{Counted}
use Rattle.replay_groups.proofs.Tallies.{denied_counted, run_counted}
use Rattle.replay_groups.proofs.counting.count_taking.Goals as goal

pub returns-in-Run : goal.returns-in-Run
returns-in-Run c = λ k.
    subst (λ (r : Taking). Counted (λ a b. Takes a k r b) c.args.counts.now c.taken.new.self) (sym c.in-Run.is)
    (run_counted k c.in-Run.field-0 c.in-Run.field-1 c.args.counts.now c.taken.new.self c.taken.ensures)

pub returns-in-Denied : goal.returns-in-Denied
returns-in-Denied c = λ k.
    subst (λ (r : Taking). Counted (λ a b. Takes a k r b) c.args.counts.now c.denied.new.self) (sym c.in-Denied.is)
    (denied_counted k c.in-Denied.field-0 c.args.counts.now c.denied.new.self c.denied.ensures)
