use Rattle.std.proofs.Common.{length, reverse}
use Rattle.world_ends.proofs.Told.{Hearing}
use Rattle.world_ends.proofs.caller.Caller.hear_pdus.Given as goal

abbrev pub invariant-loop-pdu : goal.invariant-loop-pdu
invariant-loop-pdu l = Hearing l.fn.self l.fn.pdus.items l.self (reverse l.pdus.items)

abbrev pub decreases-loop-pdu : goal.decreases-loop-pdu
decreases-loop-pdu l = length l.pdus.items
