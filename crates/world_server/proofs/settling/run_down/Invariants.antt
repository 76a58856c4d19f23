use Rattle.std.proofs.Common.{length}
use Rattle.std.specs.Prelude.{⊤}
use Rattle.world_server.proofs.settling.run_down.Given as goal

abbrev pub invariant-loop-due : goal.invariant-loop-due
invariant-loop-due l = ⊤

abbrev pub decreases-loop-due : goal.decreases-loop-due
decreases-loop-due l = length l.items
