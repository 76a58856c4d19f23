use Rattle.std.proofs.Common.{◌≤◌, ◌-◌, length, take}
use Rattle.rpc_outside.specs.Links.{Put}
use Rattle.rpc_outside.proofs.put.put_all.Given as goal

abbrev pub invariant-loop-done : goal.invariant-loop-done
invariant-loop-done g l = (l.done ≤ length l.piece) × Put (g.K.Link.shows l.initial.link) (g.K.Link.shows l.link) (take l.done l.piece)

abbrev pub decreases-loop-done : goal.decreases-loop-done
decreases-loop-done g l = length l.piece - l.done
