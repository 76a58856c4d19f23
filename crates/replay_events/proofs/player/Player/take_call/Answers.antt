use Rattle.std.proofs.Common.{◌≡◌, refl, sym, subst, ap, ◌∙◌}
use Rattle.group_core.specs.declared.answer.Stage.TheVariants as stage
use Rattle.group_core.specs.Stages.{stage_of}
use Rattle.replay_groups.specs.Keeps.{Told}
use Rattle.replay_events.proofs.Calling.{drops}
use Rattle.replay_events.proofs.player.Player.take_call.Goals as goal

pub returns-in-Running : goal.returns-in-Running
returns-in-Running c = drops c.args.self.now c.args.played.now c.args.member c.args.call c.in_ok-at.at (λ e. let i = c.in-Running.is in absurd (cc (e, i))) c.in_ok-at.ensures

pub returns-in-Over : goal.returns-in-Over
returns-in-Over c = drops c.args.self.now c.args.played.now c.args.member c.args.call c.in_ok-at.at (λ e. let i = c.in-Over.is in absurd (cc (e, i))) c.in_ok-at.ensures
