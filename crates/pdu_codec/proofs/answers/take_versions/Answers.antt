use Rattle.pdu_codec.specs.Reading.{version_at, items_at}
use Rattle.pdu_codec.proofs.Loops.{goes_on, ends, is_done}
use Rattle.pdu_codec.proofs.answers.take_versions.Goals as goal

pub returns-in-Err : goal.returns-in-Err
returns-in-Err c =
    ends c.in-Err.fault version_at c.loop.versions c.args.count c.loop.counter c.loop.rest.now (items_at version_at c.args.count c.args.octets.now) c.loop-test.true c.in-Err.ensures c.loop.invariant

pub loop-preserved : goal.loop-preserved
loop-preserved c =
    rw c.in_ok-push.ensures.ok (goes_on version_at c.loop.versions c.args.count c.loop.counter c.loop.rest.now c.in-Ok.taken.0 c.in-Ok.taken.1.now (items_at version_at c.args.count c.args.octets.now) c.loop-test.true c.in-Ok.ensures c.loop.invariant)

pub returns : goal.returns
returns c = is_done version_at c.loop.versions c.args.count c.loop.counter c.loop.rest.now (items_at version_at c.args.count c.args.octets.now) c.loop-test.false c.loop.invariant
