use Rattle.replay.specs.Closing.{AllLost}
use Rattle.replay.proofs.Hands.{still_world}
use Rattle.replay.proofs.AtEnd.{ended}
use Rattle.replay.proofs.closing.end_all.Goals as goal

pub finish_all-requires : goal.finish_all-requires
finish_all-requires c = still_world AllLost c.args.player.now c.lose_all.new.player c.requires c.in_ok-lose_all.ensures

pub returns : goal.returns
returns c = ended c.args.player.now c.lose_all.new.player c.finish_all.new.player c.in_ok-lose_all.ensures c.in_ok-finish_all.ensures
