use Rattle.call_world.proofs.Playing.{Losing}
use Rattle.call_world.proofs.world.World.restart.Given as goal

abbrev pub invariant-loop : goal.invariant-loop
invariant-loop l = Losing l.fn.self l.self
