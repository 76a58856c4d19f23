use Rattle.std.proofs.Common.{refl}
use Rattle.replay_events.specs.Living.{event_of}
use Rattle.replay_events.proofs.Living.{lived}
use Rattle.replay_events.proofs.player.Player.next_act.Goals as goal

pub returns : goal.returns
returns c =
    lived c.args.self.now (record c.args.self.now { totals = c.next.new.totals; out = c.next.new.out }) c.args.played.now c.next.new.self c.take-call.new.self c.take-call.result (event_of c.in_ok-act.act) c.requires refl
    c.take-call.ensures.value c.in_ok-act.ensures.lives
