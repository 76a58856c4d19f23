use Rattle.std.proofs.Common.{◌≡◌, length}
use Rattle.server_steps.proofs.Dealing.{RunsOn}
use Rattle.server_steps.proofs.leaving.run_down.Given as goal

abbrev pub invariant-loop-item : goal.invariant-loop-item
invariant-loop-item g l =
    g.M.Manager.is_pass l.manager l.desks
    × RunsOn (g.M.Manager.enters l.manager) (g.M.Manager.runs_down l.manager) (g.M.Manager.splits l.manager) (g.M.Manager.joins l.manager) l.initial.desks l.initial.due l.desks l.due

abbrev pub decreases-loop-item : goal.decreases-loop-item
decreases-loop-item g l = length l.due
