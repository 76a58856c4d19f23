use Rattle.replay_events.proofs.Walking.{closed_rests, lost_rests}
use Rattle.replay_events.proofs.player.Player.step.Goals as goal

pub returns-in-Closed : goal.returns-in-Closed
returns-in-Closed c = closed_rests c.args.self.now c.args.played.now c.in-Closed.is

pub returns-in-Lost : goal.returns-in-Lost
returns-in-Lost c = lost_rests c.args.self.now c.args.played.now c.in-Lost.is
