use Rattle.replay_events.specs.Hands.{IsInHand}
use Rattle.replay_events.proofs.Walking.{Reaches}
use Rattle.replay_events.proofs.player.Player.go_on.Given as goal

abbrev pub invariant-loop : goal.invariant-loop
invariant-loop l = IsInHand l.self l.played × Reaches l.fn.self l.fn.played l.self l.played
