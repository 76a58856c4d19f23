-- What holds at each moment of a replay.
use Rattle.std.specs.Prelude.{◌≡◌, ℕ, ◌≤◌, true, Some}
use Rattle.handle_model.specs.declared.entry.Asked.{Asked}
use Rattle.handle_model.specs.History.{History, IsSound}
use Rattle.handle_model.specs.Journal.{has_joined, is_open, asked}
use Rattle.replay_world.specs.declared.peer.Member.{Member}
use Rattle.replay_world.specs.declared.peer.Unanswered.TheVariants.{Call}
use Rattle.replay_world.specs.declared.peer.Standing.TheVariants.{Open}
use Rattle.replay_world.specs.Worlds.{Peer, World, peer_at, journal}

-- the journals of all groups are legal and settled
abbrev pub AreSound : {S : Type 0} → World S → Type 0
AreSound w = (g : ℕ) → 1 ≤ g → IsSound (journal w g)

-- the connection of that name is the member
pub record IsAs {S : Type 0} (w : World S) (c : ℕ) (p : Peer) (m : Member) : Type 0 where
  pub there : peer_at w c ≡ Some p
  pub member : p.member ≡ Some m

-- the call was asked by the member
pub record IsCallOf (j : History) (m : Member) (k : ℕ) : Type 0 where
  pub what : Asked
  pub asks : asked j k ≡ Some what
  pub conn : what.conn ≡ m.number

-- Of each connection that is a member of a group: its number was given out there; no other connection is the same member; it
-- is open in the group while it is there itself; and its call was asked by it.
pub record Coheres {S : Type 0} (w : World S) : Type 0 where
  pub grouped : (c : ℕ) (p : Peer) (m : Member) → IsAs w c p m → 1 ≤ m.group
  pub joined : (c : ℕ) (p : Peer) (m : Member) → IsAs w c p m → has_joined (journal w m.group) m.number ≡ true
  pub apart : (c d : ℕ) (p q : Peer) (m : Member) → IsAs w c p m → IsAs w d q m → c ≡ d
  pub here : (c : ℕ) (p : Peer) (m : Member) → IsAs w c p m → p.standing ≡ Open → is_open (journal w m.group) m.number ≡ true
  pub calls : (c k : ℕ) (p : Peer) (m : Member) → IsAs w c p m → p.unanswered ≡ Call k → IsCallOf (journal w m.group) m k
