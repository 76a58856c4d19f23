use Rattle.pdu_stream.proofs.Takes.{taken_none, taken_more, taken_less}
use Rattle.pdu_stream.proofs.cut.take_pdus.Goals as goal

pub loop-pdu-init : goal.loop-pdu-init
loop-pdu-init c = taken_none c.args.feed.now c.args.pdus.now c.requires

pub loop-pdu-smaller : goal.loop-pdu-smaller
loop-pdu-smaller c = taken_less c.loop-pdu.feed c.next.new.self c.in-Ok-Some.pdu (rw c.in-Ok-Some.field-0-is at c.in-Ok-Some.ensures)

pub loop-pdu-preserved : goal.loop-pdu-preserved
loop-pdu-preserved c =
    taken_more c.args.feed.now c.loop-pdu.feed c.next.new.self c.args.pdus.now c.loop-pdu.pdus c.push.new.self c.in-Ok-Some.pdu c.loop-pdu.invariant
    (rw c.in-Ok-Some.field-0-is at c.in-Ok-Some.ensures) c.in_ok-push-in-Ok-Some.ensures.ok
