use Rattle.std.proofs.Common.{length}
use Rattle.pdu_stream.proofs.Takes.{Taken}
use Rattle.pdu_stream.proofs.cut.take_pdus.Given as goal

abbrev pub invariant-loop-pdu : goal.invariant-loop-pdu
invariant-loop-pdu l = Taken l.fn.feed l.fn.pdus l.feed l.pdus

abbrev pub decreases-loop-pdu : goal.decreases-loop-pdu
decreases-loop-pdu l = length l.feed.rest
