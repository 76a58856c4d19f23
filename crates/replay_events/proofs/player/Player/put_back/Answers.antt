use Rattle.std.proofs.Common.{refl}
use Rattle.replay_events.proofs.Picking.{puts_back}
use Rattle.replay_events.proofs.player.Player.put_back.Goals as goal

pub returns : goal.returns
returns c = puts_back c.args.self.now (record c.args.self.now { peers = c.put.new.self }) c.args.played refl c.in_ok-put.ensures.list c.in_ok-put.ensures.back
