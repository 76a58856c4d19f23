use Rattle.replay.proofs.Each.{loses_there, gone_already}
use Rattle.replay.proofs.lose.lose_if_there.Goals as goal

pub returns-in_ok-lose-in-Open : goal.returns-in_ok-lose-in-Open
returns-in_ok-lose-in-Open c = loses_there c.args.player.now c.lose.new.self c.args.played.now c.lose.new.played c.in-Open.is c.in_ok-lose-in-Open.ensures

pub returns-in-Closed : goal.returns-in-Closed
returns-in-Closed c = gone_already c.args.player.now c.args.played.now (λ e. let is = c.in-Closed.is in absurd (cc (e, is)))

pub returns-in-Lost : goal.returns-in-Lost
returns-in-Lost c = gone_already c.args.player.now c.args.played.now (λ e. let is = c.in-Lost.is in absurd (cc (e, is)))
