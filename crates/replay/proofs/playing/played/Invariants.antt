use Rattle.std.proofs.Common.{◌-◌}
use Rattle.replay.proofs.Stepping.{SoFar}
use Rattle.replay.proofs.playing.played.Given as goal

-- steps of the load were played
abbrev pub invariant-loop-alloc : goal.invariant-loop-alloc
invariant-loop-alloc l = SoFar l.number l.steps l.player l.load

abbrev pub decreases-loop-alloc : goal.decreases-loop-alloc
decreases-loop-alloc l = l.steps - l.load.steps
