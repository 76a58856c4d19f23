use Rattle.replay.proofs.Each.{idle_by}
use Rattle.replay.proofs.run.run_it.Goals as goal

pub returns-in_ok-say_idle-in-None : goal.returns-in_ok-say_idle-in-None
returns-in_ok-say_idle-in-None c = idle_by c.args.player.now c.say_idle.new.player c.args.played.now c.args.played.now (rw c.in-None.is at c.call_of.ensures) c.in_ok-say_idle-in-None.ensures
