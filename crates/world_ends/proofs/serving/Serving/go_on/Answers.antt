use Rattle.std.proofs.Common.{Bool, subst}
use Rattle.world_server.specs.Servers.{seen}
use Rattle.world_ends.specs.Servings.{Steps}
use Rattle.world_ends.proofs.Steps.{itself, leads_on, rests_at}
use Rattle.world_ends.proofs.serving.Serving.go_on.Goals as goal

pub loop-init : goal.loop-init
loop-init c = (c.requires, itself (seen c.args.server.now) c.args.self.now c.requires)

pub loop-preserved : goal.loop-preserved
loop-preserved c =
    let i = c.loop.invariant in
    let x = seen c.loop.server in
    let y = seen c.step.new.server in
    let l = subst (λ (b : Bool). Steps b x c.loop.self y c.step.new.self) c.if-not-goes.false c.in_ok-goes.ensures in
    (l.0, leads_on (seen c.args.server.now) x y c.args.self.now c.loop.self c.step.new.self i.1 l)

pub step-requires : goal.step-requires
step-requires c = c.loop.invariant.0

pub returns-then-not-goes : goal.returns-then-not-goes
returns-then-not-goes c =
    let x = seen c.loop.server in
    let y = seen c.step.new.server in
    rests_at (seen c.args.server.now) x y c.args.self.now c.loop.self c.step.new.self c.loop.invariant.1 (subst (λ (b : Bool). Steps b x c.loop.self y c.step.new.self) c.if-not-goes.true c.in_ok-goes.ensures)
