use Rattle.replay.proofs.AtEnd.{lost_next, all_names_lost}
use Rattle.replay.proofs.closing.lose_names.Goals as goal

pub loop-name-preserved : goal.loop-name-preserved
loop-name-preserved c =
    lost_next c.args.names.now c.loop-name.name-index c.args.player.now c.loop-name.player c.lose_one.new.player c.loop-name-test.true c.loop-name.invariant c.in_ok-lose_one.ensures

pub returns : goal.returns
returns c = all_names_lost c.args.names.now c.loop-name.name-index c.args.player.now c.loop-name.player c.loop-name-test.false c.loop-name.invariant.1
