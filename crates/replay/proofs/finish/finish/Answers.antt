use Rattle.replay_script.specs.declared.line.Line.TheVariants as lines
use Rattle.replay.proofs.Hands.{in_hand}
use Rattle.replay.proofs.Each.{absent_finish, plays_named}
use Rattle.replay.proofs.finish.finish.Goals as goal

pub finish_it-requires : goal.finish_it-requires
finish_it-requires c = in_hand c.args.player.now c.pick.new.self c.args.name c.in-Some.played c.requires (rw c.in-Some.is at c.pick.ensures)

pub returns-in_default : goal.returns-in_default
returns-in_default c = absent_finish c.args.player.now c.pick.new.self c.args.name (rw c.in_default.is at c.pick.ensures)

pub returns : goal.returns
returns c =
    plays_named lines.Finish c.args.name c.args.player.now c.pick.new.self c.finish_it.new.player c.put_back.new.self c.in-Some.played c.finish_it.new.played
    (rw c.in-Some.is at c.pick.ensures) c.in_ok-finish_it.ensures c.in_ok-put_back.ensures
