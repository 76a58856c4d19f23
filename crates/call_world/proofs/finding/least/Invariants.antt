use Rattle.call_world.proofs.Places.{LeastBefore}
use Rattle.call_world.proofs.finding.least.Given as goal

abbrev pub invariant-loop-at : goal.invariant-loop-at
invariant-loop-at l = LeastBefore l.lines l.least l.at
