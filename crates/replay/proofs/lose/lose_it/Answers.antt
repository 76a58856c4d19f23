use Rattle.replay.proofs.Each.{loses, unlost}
use Rattle.replay.proofs.lose.lose_it.Goals as goal

pub returns-in_ok-lose-in-Open : goal.returns-in_ok-lose-in-Open
returns-in_ok-lose-in-Open c = loses c.args.player.now c.lose.new.self c.args.played.now c.lose.new.played c.in-Open.is c.in_ok-lose-in-Open.ensures

pub returns-in-Closed : goal.returns-in-Closed
returns-in-Closed c = unlost c.args.player.now c.args.played.now c.in-Closed.is
