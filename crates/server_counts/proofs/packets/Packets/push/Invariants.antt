use Rattle.std.proofs.Common.{◌≤◌, ◌-◌, length, take}
use Rattle.server_counts.specs.Packets.{Comes}
use Rattle.server_counts.proofs.packets.Packets.push.Given as goal

abbrev pub invariant-loop-start : goal.invariant-loop-start
invariant-loop-start l = record {
  within : l.start ≤ length l.piece;
  few_packets : l.all.packets ≤ l.start;
  few_calls : l.all.calls ≤ l.start;
  comes : Comes l.initial.self (take l.start l.piece) l.all l.self;
}

abbrev pub decreases-loop-start : goal.decreases-loop-start
decreases-loop-start l = length l.piece - l.start
