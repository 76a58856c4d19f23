use Rattle.std.proofs.Common.{refl}
use Rattle.group_hub.proofs.MakeLemmas.{split_kept, split_more}
use Rattle.group_hub.proofs.hub.Hub.split.Goals as goal

pub loop-number-preserved : goal.loop-number-preserved
loop-number-preserved c = (
  c.split_at-seat.ensures.pass,
  split_kept c.loop-number.number c.args.pass.now c.loop-number.pass c.split_at-seat.new.pass c.split_at-seat.result c.loop-number.invariant.1 c.split_at-seat.ensures.split,
  split_more c.args.self.now c.loop-number.number c.args.pass.now c.loop-number.pass c.split_at-seat.new.pass c.loop-number.other _ c.split_at-seat.result c.loop-number.invariant.2 c.loop-number.invariant.1
      c.loop-number-test.true c.split_at-seat.ensures.split c.split_at-seat.ensures.other refl,
)
