use Rattle.replay.proofs.Each.{follows_open, follows_not}
use Rattle.replay.proofs.finish.follow.Goals as goal

pub returns-in_ok-go_on-in-Open : goal.returns-in_ok-go_on-in-Open
returns-in_ok-go_on-in-Open c = follows_open c.args.player.now c.go_on.new.self c.args.played.now c.go_on.new.played c.args.standing c.in-Open.is c.in_ok-go_on-in-Open.ensures

pub returns-in-Closed : goal.returns-in-Closed
returns-in-Closed c = follows_not c.args.player.now c.args.played.now c.args.standing (λ e. let is = c.in-Closed.is in absurd (cc (e, is)))

pub returns-in-Lost : goal.returns-in-Lost
returns-in-Lost c = follows_not c.args.player.now c.args.played.now c.args.standing (λ e. let is = c.in-Lost.is in absurd (cc (e, is)))
