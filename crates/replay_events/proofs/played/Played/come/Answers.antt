use Rattle.std.proofs.Common.{rules, refl}
use Rattle.rpc_base.specs.Fields.{IsOctets}
use Rattle.replay_events.specs.Living.{Moment}
use Rattle.replay_events.proofs.PeerLiving.{moved, came_lives}
use Rattle.replay_events.proofs.played.Played.come.Goals as goal

pub returns : goal.returns
returns c text =
    let fits : IsOctets c.args.octets.now = search rules in
    let old : Moment = record { played = c.args.self.now; totals = c.args.totals.now; out = text } in
    let new : Moment = record { played = moved c.args.self.now c.feed.new.self c.push-new.new.self; totals = c.count.new.totals; out = text } in
    came_lives old new c.feed.new.self c.push-new.new.self c.push-new.result c.args.octets.now fits refl c.in_ok-feed.ensures.ok c.push-new.ensures refl c.count.ensures
