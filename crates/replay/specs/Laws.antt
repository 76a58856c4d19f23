-- That each connection of a replay is served.
use Rattle.std.specs.Prelude.{◌≡◌, ℕ, Some, List}
use Rattle.replay_script.specs.declared.line.Line.{Line}
use Rattle.replay_script.specs.Lines.{FitLines}
use Rattle.replay_world.specs.Services.{Service}
use Rattle.replay_world.specs.Worlds.{Peer, World, peer_at}
use Rattle.replay_world.specs.Replays.{EndsAs, Replays}
use Rattle.replay_world.specs.Promised.{IsServed}
use Rattle.replay_world.specs.Moments.{AreSound}

-- for every script and each of its connections, where the journals that it leaves are legal and settled
abbrev pub EachIsServedWhereSound : Service → Type 0
EachIsServedWhereSound service =
    (lines : List Line) (end : World service.State) (c : ℕ) (p : Peer) → FitLines lines → EndsAs service lines end → AreSound end → peer_at end c ≡ Some p
    → IsServed service lines end p

-- A text is replayed, by whole journals that are legal and settled, and each of its connections is served.
pub record ServesAll (service : Service) (text out log : List ℕ) : Type 0 where
  pub replays : Replays service text out log
  pub sound : AreSound replays.end
  pub served : (c : ℕ) (p : Peer) → peer_at replays.end c ≡ Some p → IsServed service replays.lines replays.end p

-- where the journals that a replay leaves are legal and settled
abbrev pub ReplaysServeAll : Service → Type 0
ReplaysServeAll service =
    (text out log : List ℕ) (r : Replays service text out log) → AreSound r.end → ServesAll service text out log
