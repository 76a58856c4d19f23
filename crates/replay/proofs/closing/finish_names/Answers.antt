use Rattle.replay.proofs.AtEnd.{finished_next, all_names_finished}
use Rattle.replay.proofs.closing.finish_names.Goals as goal

pub loop-name-preserved : goal.loop-name-preserved
loop-name-preserved c =
    finished_next c.args.names.now c.loop-name.name-index c.args.player.now c.loop-name.player c.finish_one.new.player c.loop-name-test.true c.loop-name.invariant c.in_ok-finish_one.ensures

pub returns : goal.returns
returns c = all_names_finished c.args.names.now c.loop-name.name-index c.args.player.now c.loop-name.player c.loop-name-test.false c.loop-name.invariant.1
