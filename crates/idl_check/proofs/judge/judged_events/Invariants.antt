use Rattle.std.proofs.Common.{◌≡◌, ◌++◌, length}
use Rattle.idl_check.specs.Firsts.{firsts_of}
use Rattle.idl_check.proofs.judge.judged_events.Given as goal

-- those to come and those judged are all
abbrev pub invariant-loop-event : goal.invariant-loop-event
invariant-loop-event l = record {
  all : l.events.items ++ l.past ≡ l.fn.outline;
  judged : l.firsts ≡ firsts_of l.past;
}

abbrev pub decreases-loop-event : goal.decreases-loop-event
decreases-loop-event l = length l.events.items
