use Rattle.std.proofs.Common.{refl, sym, ◌∙◌}
use Rattle.world_server.specs.Servers.{seen}
use Rattle.call_world.proofs.Playing.{ready_after, takes_unwaiting, takes_dropped, takes_blocked, takes_run_as, takes_denied_as}
use Rattle.call_world.proofs.world.World.take.Goals as goal

pub returns-then-not-waits : goal.returns-then-not-waits
returns-then-not-waits c = takes_unwaiting c.args.self.now c.args.self.now c.args.call (sym c.waits.ensures ∙ c.if-not-waits.true)

pub take-requires-clause-is_whole : goal.take-requires-clause-is_whole
take-requires-clause-is_whole c = c.requires.is_whole

pub take-requires-clause-waits : goal.take-requires-clause-waits
take-requires-clause-waits c = sym c.waits.ensures ∙ c.if-not-waits.false

pub returns-in-Run : goal.returns-in-Run
returns-in-Run c = takes_run_as c.args.self.now _ c.args.call c.in_ok-taking.taking _ _ c.in-Run.is c.in_ok-taking.ensures refl

pub go_on_for-requires : goal.go_on_for-requires
go_on_for-requires c = ready_after c.args.self.now _ _ c.requires c.in_ok-taking.ensures refl

pub returns-in_ok-go_on_for-in-Denied : goal.returns-in_ok-go_on_for-in-Denied
returns-in_ok-go_on_for-in-Denied c = takes_denied_as c.args.self.now c.go_on_for.new.self c.args.call c.in_ok-taking.taking _ _ c.in-Denied.is c.in_ok-taking.ensures refl c.in_ok-go_on_for-in-Denied.ensures

pub returns-in-Dropped : goal.returns-in-Dropped
returns-in-Dropped c = takes_dropped c.args.self.now c.args.self.now c.args.call c.in_ok-taking.taking (seen c.take.new.self) c.in-Dropped.is c.in_ok-taking.ensures

pub returns-in-Wait : goal.returns-in-Wait
returns-in-Wait c = takes_blocked c.args.self.now c.args.self.now c.args.call c.in_ok-taking.taking (seen c.take.new.self) _ c.in-Wait.is c.in_ok-taking.ensures
