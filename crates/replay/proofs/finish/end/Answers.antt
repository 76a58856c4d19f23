use Rattle.replay.proofs.Each.{none_to_end}
use Rattle.replay.proofs.finish.end.Goals as goal

pub returns-in-None : goal.returns-in-None
returns-in-None c = none_to_end c.args.player.now c.args.played.now (rw c.in-None.is at c.call_of.ensures)
