use Rattle.replay_events.proofs.Lost.{here_in_hand, loses}
use Rattle.replay_events.proofs.player.Player.lose.Goals as goal

pub leave-requires : goal.leave-requires
leave-requires c = here_in_hand c.args.self.now c.args.played.now c.requires.open c.requires.hand

pub returns : goal.returns
returns c = loses c.args.self.now c.args.played.now c.leave.new.realm c.in_ok-leave.ensures
