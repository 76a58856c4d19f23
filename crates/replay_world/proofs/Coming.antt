-- Which lines are played.
use Rattle.std.proofs.Common.{◌≢◌, ℕ, List}
use Rattle.replay_script.specs.declared.line.Line.{Line}
use Rattle.replay_script.specs.declared.line.Line.TheVariants as lines
use Rattle.replay_world.specs.declared.peer.Standing.{Standing}
use Rattle.replay_world.specs.declared.peer.Standing.TheVariants.{Open, Closed, Lost}
use Rattle.replay_world.specs.Services.{Service}
use Rattle.replay_world.specs.Worlds.{Peer, World}
use Rattle.replay_world.specs.Plays.{SendsAt, LosesAt, Plays, MayCome}

module _ (service : Service) where
  send_comes : (c : ℕ) (octets : List ℕ) (w v : World service.State) (s : Standing) → SendsAt service c octets w s v → s ≢ Lost
  send_comes c octets w v Open h = λ e. absurd (cc e)
  send_comes c octets w v Closed h = λ e. absurd (cc e)
  send_comes c octets w v Lost h = absurd h

  loss_comes : (w v : World service.State) (p : Peer) (s : Standing) → LosesAt service w p s v → s ≢ Lost
  loss_comes w v p Open h = λ e. absurd (cc e)
  loss_comes w v p Closed h = λ e. absurd (cc e)
  loss_comes w v p Lost h = absurd h

pub only_these : (service : Service) (w v : World service.State) (line : Line) → Plays service w line v → MayCome service w line
only_these service w v (lines.Boot word) h = h
only_these service w v (lines.Open c) h = h.0
only_these service w v (lines.Send c octets) h = (h.0, h.1, send_comes service c octets w v h.0.standing h.2)
only_these service w v (lines.Run c) h = (h.0, h.1, tt)
only_these service w v (lines.Finish c) h = (h.0, h.1, tt)
only_these service w v (lines.Lose c) h = (h.0, h.1, loss_comes service w v h.0 h.0.standing h.2)
