use Rattle.replay.proofs.Each.{finished, finished_idle}
use Rattle.replay.proofs.finish.finish_it.Goals as goal

pub returns-then-branch : goal.returns-then-branch
returns-then-branch c = finished c.args.player.now c.end.new.player c.args.played.now c.end.new.played (rw c.if-branch.true at c.in_ok-end.ensures)

pub returns : goal.returns
returns c =
    finished_idle c.args.player.now c.end.new.player c.say_idle.new.player c.args.played.now c.end.new.played c.end.new.played (rw c.if-branch.false at c.in_ok-end.ensures) c.in_ok-say_idle.ensures
