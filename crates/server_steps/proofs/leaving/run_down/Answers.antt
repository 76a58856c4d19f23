use Rattle.std.proofs.Common.{rules, ◌≡◌, List, [], subst}
use Rattle.server_steps.proofs.Dealing.{RunsOn, runs_on, ran_all}
use Rattle.server_steps.proofs.leaving.run_down.Goals as goal

pub loop-item-preserved : goal.loop-item-preserved
loop-item-preserved g c =
    let m = c.args.manager.now in (
      c.rundown-desks.ensures.pass,
      runs_on (g.M.Manager.enters m) (g.M.Manager.runs_down m) (g.M.Manager.splits m) (g.M.Manager.joins m) c.args.desks c.loop-item.desks c.rundown-desks.result c.args.due c.take_first.new.self c.in-Some.item
          (subst (λ l. RunsOn (g.M.Manager.enters m) (g.M.Manager.runs_down m) (g.M.Manager.splits m) (g.M.Manager.joins m) c.args.desks c.args.due c.loop-item.desks l) c.in-Some.ensures c.loop-item.invariant.1) c.rundown-desks.ensures.runs_down,
    )

pub returns-clause-runs : goal.returns-clause-runs
returns-clause-runs g c =
    let m = c.args.manager.now in
    let none : c.loop-item.due ≡ [] = search rules in
    ran_all (g.M.Manager.enters m) (g.M.Manager.runs_down m) (g.M.Manager.splits m) (g.M.Manager.joins m) c.args.desks c.loop-item.desks c.args.due
    (subst (λ l. RunsOn (g.M.Manager.enters m) (g.M.Manager.runs_down m) (g.M.Manager.splits m) (g.M.Manager.joins m) c.args.desks c.args.due c.loop-item.desks l) none c.loop-item.invariant.1)
