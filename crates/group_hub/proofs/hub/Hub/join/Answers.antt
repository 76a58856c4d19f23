use Rattle.group_hub.proofs.MakeLemmas.{joined_more, rest_home}
use Rattle.group_hub.proofs.hub.Hub.join.Goals as goal

pub join_at-requires-clause-other : goal.join_at-requires-clause-other
join_at-requires-clause-other c =
    rest_home c.args.self.now c.loop-number.number c.args.pass.now c.args.other c.loop-number.pass c.loop-number.other c.take_at-seat.result c.requires.other c.loop-number.invariant.1 c.loop-number-test.true c.take_at-seat.ensures.taken

pub loop-number-preserved : goal.loop-number-preserved
loop-number-preserved c = (
  c.join_at.ensures.pass,
  joined_more c.args.self.now.boot c.loop-number.number c.args.pass.now c.args.other c.loop-number.pass c.loop-number.other c.join_at.new.pass c.take_at-seat.new.self c.take_at-seat.result c.loop-number.invariant.1
      c.loop-number-test.true c.take_at-seat.ensures.taken c.join_at.ensures.join c.take_at-seat.ensures.whole c.take_at-seat.ensures.others,
)
