use Rattle.std.proofs.Common.{refl, None}
use Rattle.replay_events.proofs.Picking.{picks}
use Rattle.replay_events.proofs.player.Player.pick.Goals as goal

pub returns : goal.returns
returns c = picks c.args.name c.args.self.now (record c.args.self.now { peers = c.take.new.self; told = None }) c.take.result refl c.take.ensures.out c.take.ensures.shown
