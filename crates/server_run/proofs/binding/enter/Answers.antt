use Rattle.std.proofs.Common.{◌∙◌}
use Rattle.server_steps.specs.declared.stop.Stop.TheVariants as stop
use Rattle.server_run.proofs.Ends.{alone_early}
use Rattle.server_run.proofs.binding.enter.Goals as goal

pub returns-in-End-clause-enters : goal.returns-in-End-clause-enters
returns-in-End-clause-enters g c = (
  c.hear_early.ensures.first ∙ c.loop.invariant.0,
  c.requires.pass,
  alone_early g.K.Link.shows (g.M.Manager.may c.args.manager.now) (g.M.Manager.tables c.args.manager.now) c.args.hub.now.boot c.args.pass c.hear_early.new.wire stop.Ended c.in-End.ensures.heard,
)

pub returns-in-Stop-Failed-clause-enters : goal.returns-in-Stop-Failed-clause-enters
returns-in-Stop-Failed-clause-enters g c =
    let h = c.in-Stop-Failed.ensures.heard in
    let halted = rw c.in-Stop-Failed.field-0-is at h in (
      c.hear_early.ensures.first ∙ c.loop.invariant.0,
      c.requires.pass,
      alone_early g.K.Link.shows (g.M.Manager.may c.args.manager.now) (g.M.Manager.tables c.args.manager.now) c.args.hub.now.boot c.args.pass c.hear_early.new.wire stop.Failed halted,
    )

pub returns-in-Stop-Memory-clause-enters : goal.returns-in-Stop-Memory-clause-enters
returns-in-Stop-Memory-clause-enters g c =
    let h = c.in-Stop-Memory.ensures.heard in
    let halted = rw c.in-Stop-Memory.field-0-is at h in (
      c.hear_early.ensures.first ∙ c.loop.invariant.0,
      c.requires.pass,
      alone_early g.K.Link.shows (g.M.Manager.may c.args.manager.now) (g.M.Manager.tables c.args.manager.now) c.args.hub.now.boot c.args.pass c.hear_early.new.wire stop.Memory halted,
    )
