use Rattle.std.proofs.Common.{sym, subst, Result, ℕ}
use Rattle.handle_model.specs.declared.entry.Asked.{Asked}
use Rattle.group_core.specs.declared.answer.AcceptRefusal.{AcceptRefusal}
use Rattle.group_core.specs.Calls.{Accepts}
use Rattle.replay_groups.specs.Keeps.{Counted}
use Rattle.replay_groups.proofs.Tallies.{accept_counted}
use Rattle.replay_groups.proofs.counting.count_accept.Goals as goal

pub returns-in-Ok : goal.returns-in-Ok
returns-in-Ok c = λ asked.
    subst (λ (r : Result ℕ (Asked × AcceptRefusal)). Counted (λ a b. Accepts a asked r b) c.args.counts.now c.accepted.new.self) (sym c.in-Ok.is)
    (accept_counted asked _ c.args.counts.now c.accepted.new.self c.accepted.ensures)
