use Rattle.replay_events.proofs.player.Player.refuse.Goals as goal

pub returns-in_ok-nak-in-Refused : goal.returns-in_ok-nak-in-Refused
returns-in_ok-nak-in-Refused c = (c.in-Refused.reason, c.in-Refused.is, c.in_ok-nak-in-Refused.ensures)
