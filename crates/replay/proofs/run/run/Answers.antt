use Rattle.replay_script.specs.declared.line.Line.TheVariants as lines
use Rattle.replay.proofs.Hands.{in_hand}
use Rattle.replay.proofs.Each.{absent_run, plays_named}
use Rattle.replay.proofs.run.run.Goals as goal

pub run_it-requires : goal.run_it-requires
run_it-requires c = in_hand c.args.player.now c.pick.new.self c.args.name c.in-Some.played c.requires (rw c.in-Some.is at c.pick.ensures)

pub returns-in_default : goal.returns-in_default
returns-in_default c = absent_run c.args.player.now c.pick.new.self c.args.name (rw c.in_default.is at c.pick.ensures)

pub returns : goal.returns
returns c =
    plays_named lines.Run c.args.name c.args.player.now c.pick.new.self c.run_it.new.player c.put_back.new.self c.in-Some.played c.run_it.new.played
    (rw c.in-Some.is at c.pick.ensures) c.in_ok-run_it.ensures c.in_ok-put_back.ensures
