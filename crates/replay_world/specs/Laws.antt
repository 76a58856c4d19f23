-- That it holds at each moment.
use Rattle.std.specs.Prelude.{◌≡◌, ℕ, Some}
use Rattle.conn_histories.specs.Histories.{Event}
use Rattle.replay_world.specs.Services.{Service}
use Rattle.replay_world.specs.declared.peer.Member.{Member}
use Rattle.replay_world.specs.Worlds.{Peer, World, booted, peer_at}
use Rattle.replay_world.specs.Groups.{GoesOn}
use Rattle.replay_world.specs.Events.{HappensOn}
use Rattle.replay_world.specs.Plays.{Opens, Ends, Loses}
use Rattle.group_core.specs.declared.answer.Taking.{Taking}
use Rattle.group_core.specs.Calls.{Takes}
use Rattle.replay_world.specs.Moments.{AreSound, Coheres}

-- it holds of a server that was booted
abbrev pub HoldsAtStart : Service → Type 0
HoldsAtStart service = (boot : ℕ) → Coheres (booted boot service.start)

-- an event of a connection keeps it, where the journals are sound before and after
abbrev pub EventsKeep : Service → Type 0
EventsKeep service =
    (c : ℕ) (w v : World service.State) (event : Event) → AreSound w → AreSound v → HappensOn service c w event v → Coheres w → Coheres v

-- and so do a connection that is opened or lost, a call that is taken, and one that ends
pub record LinesKeep (service : Service) : Type 0 where
  pub opens : (c : ℕ) (w v : World service.State) → AreSound v → Opens service c w v → Coheres w → Coheres v
  pub takes : (w v : World service.State) (g k : ℕ) (r : Taking) → AreSound v → GoesOn (λ old new. Takes old k r new) w g v → Coheres w → Coheres v
  pub ends : (w v : World service.State) (m : Member) (k : ℕ) → AreSound v → Ends service w m k v → Coheres w → Coheres v
  pub loses : (c : ℕ) (w v : World service.State) (p : Peer) → AreSound v → peer_at w c ≡ Some p → Loses service w p v → Coheres w → Coheres v
