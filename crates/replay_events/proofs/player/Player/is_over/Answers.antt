use Rattle.std.proofs.Common.{◌≡◌, Option, subst, sym, ◌∙◌}
use Rattle.replay_world.specs.declared.peer.Member.{Member}
use Rattle.replay_world.specs.Events.{is_call_over}
use Rattle.replay_events.proofs.Staging.{over_is}
use Rattle.replay_events.proofs.player.Player.is_over.Goals as goal

pub returns-in_ok-at-in-Some : goal.returns-in_ok-at-in-Some
returns-in_ok-at-in-Some c echo w h =
    subst (λ (o : Option Member). is_call_over w o c.args.call ≡ c.is_end.result) (sym c.in-Some.is)
    (over_is c.args.self.now.realm c.in-Some.member c.args.call c.in_ok-at-in-Some.at c.in_ok-at-in-Some.ensures echo w h ∙ sym c.is_end.ensures)
