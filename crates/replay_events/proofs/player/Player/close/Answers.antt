use Rattle.replay_events.proofs.Offing.{here_close, closes}
use Rattle.replay_events.proofs.player.Player.close.Goals as goal

pub leave-requires : goal.leave-requires
leave-requires c = here_close c.requires.0 c.requires.1 c.args.self.now c.args.played.now c.requires.2

pub returns : goal.returns
returns c octets why = closes octets why c.args.self.now c.args.played.now c.leave.new.realm c.in_ok-leave.ensures
