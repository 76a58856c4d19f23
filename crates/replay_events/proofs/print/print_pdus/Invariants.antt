use Rattle.std.proofs.Common.{length}
use Rattle.replay_events.proofs.Printing.{PrintedSoFar}
use Rattle.replay_events.proofs.print.print_pdus.Given as goal

abbrev pub invariant-loop-left : goal.invariant-loop-left
invariant-loop-left l = PrintedSoFar l.name l.octets l.left l.initial.out.items l.out.items l.count

abbrev pub decreases-loop-left : goal.decreases-loop-left
decreases-loop-left l = length l.left
