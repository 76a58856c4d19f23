use Rattle.std.proofs.Common.{◌≡◌, refl, sym, subst, ap, ◌∙◌}
use Rattle.group_core.specs.declared.answer.Stage.TheVariants as stage
use Rattle.group_core.specs.Stages.{stage_of}
use Rattle.replay_groups.specs.Keeps.{Told}
use Rattle.replay_events.proofs.Ending.{it_runs, runs_not}
use Rattle.replay_events.proofs.player.Player.finish_call.Goals as goal

pub end_call-requires-clause-runs : goal.end_call-requires-clause-runs
end_call-requires-clause-runs c =
    it_runs c.args.self.now c.args.played.now c.args.member c.args.call (subst (λ a. Told c.args.self.now.realm.groups c.args.member.group (λ j. a ≡ stage_of j c.args.call)) c.in-Running.is c.in_ok-at.ensures)

pub returns-in-Waiting : goal.returns-in-Waiting
returns-in-Waiting c = runs_not c.args.self.now c.args.played.now c.args.member c.args.call c.in_ok-at.at (λ e. let i = c.in-Waiting.is in absurd (cc (e, i))) c.requires.member c.in_ok-at.ensures

pub returns-in-Over : goal.returns-in-Over
returns-in-Over c = runs_not c.args.self.now c.args.played.now c.args.member c.args.call c.in_ok-at.at (λ e. let i = c.in-Over.is in absurd (cc (e, i))) c.requires.member c.in_ok-at.ensures
