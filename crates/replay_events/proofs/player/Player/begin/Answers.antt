use Rattle.std.proofs.Common.{rules}
use Rattle.desk_service.specs.Shows.{shown_by}
use Rattle.replay_events.proofs.Picking.{begins}
use Rattle.replay_events.proofs.player.Player.begin.Goals as goal

pub returns : goal.returns
returns c = begins (shown_by (λ t. t.now) c.args.echo) _ c.args.boot c.in_ok-realm.ensures c.new-peers.ensures c.new-totals.ensures (search rules)
