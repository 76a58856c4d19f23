use Rattle.replay_events.proofs.Walking.{comes}
use Rattle.replay_events.proofs.player.Player.come.Goals as goal

pub returns : goal.returns
returns c = comes c.args.self.now c.come_to.new.self c.args.played.now c.come_to.new.played c.args.octets.now c.requires.open c.in_ok-come_to.ensures
