use Rattle.std.proofs.Common.{◌≤◌, ◌*◌, take}
use Rattle.server_command.proofs.Adding.{SumTo}
use Rattle.server_command.proofs.sums.sums.Given as goal

abbrev pub invariant-loop-settled : goal.invariant-loop-settled
invariant-loop-settled g l = SumTo g.K.Link.shows (take l.settled-index l.finished) l.calls_in l.calls_out l.packets_in l.packets_out
    × (l.calls_in ≤ l.settled-index * 4294967295) × (l.calls_out ≤ l.settled-index * 4294967295)
    × (l.packets_in ≤ l.settled-index * 4294967295) × (l.packets_out ≤ l.settled-index * 4294967295)
