use Rattle.std.proofs.Common.{Bool, true, false, subst}
use Rattle.replay_events.specs.Hands.{Leads}
use Rattle.replay_events.specs.Lived.{StepsIn}
use Rattle.replay_events.proofs.Walking.{reaches_itself, in_hand, reaches_on, rests_at_last}
use Rattle.replay_events.proofs.player.Player.go_on.Goals as goal

pub loop-init : goal.loop-init
loop-init c = (c.requires, reaches_itself c.args.self.now c.args.played.now)

pub loop-preserved : goal.loop-preserved
loop-preserved c =
    let i = c.loop.invariant in
    let l : Leads (StepsIn c.loop.played.name true) c.loop.self c.loop.played c.step.new.self c.step.new.played =
    subst (λ (b : Bool). Leads (StepsIn c.loop.played.name b) c.loop.self c.loop.played c.step.new.self c.step.new.played) c.if-not-goes.false c.in_ok-goes.ensures in (
      in_hand c.loop.self c.step.new.self c.loop.played c.step.new.played (StepsIn c.loop.played.name true) i.0 l,
      reaches_on c.args.self.now c.loop.self c.step.new.self c.args.played.now c.loop.played c.step.new.played i.1 l,
    )

pub returns-then-not-goes : goal.returns-then-not-goes
returns-then-not-goes c =
    rests_at_last c.args.self.now c.loop.self c.step.new.self c.args.played.now c.loop.played c.step.new.played c.loop.invariant.1
    (subst (λ (b : Bool). Leads (StepsIn c.loop.played.name b) c.loop.self c.loop.played c.step.new.self c.step.new.played) c.if-not-goes.true c.in_ok-goes.ensures)
