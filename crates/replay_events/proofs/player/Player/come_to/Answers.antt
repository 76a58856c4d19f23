use Rattle.std.proofs.Common.{refl}
use Rattle.conn_histories.specs.Histories.Event.{Came}
use Rattle.replay_events.proofs.Living.{lived}
use Rattle.replay_events.proofs.player.Player.come_to.Goals as goal

pub returns : goal.returns
returns c =
    lived c.args.self.now (record c.args.self.now { totals = c.come.new.totals }) c.args.played.now c.come.new.self c.take-call.new.self c.take-call.result (Came c.args.octets.now) c.requires refl
    c.take-call.ensures.value (c.in_ok-come.ensures c.args.self.now.out.items)
