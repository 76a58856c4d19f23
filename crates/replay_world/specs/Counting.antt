-- How many calls and packets connections have seen, as management tells it (C706, "Remote Management Interface",
-- rpc__mgmt_inq_stats).
use Rattle.std.specs.Prelude.{◌≡◌, ℕ, List, [], ◌∷◌, length, filter}
use Rattle.desk_counts.specs.Numbers.{Numbers, none_yet, with_more}
use Rattle.conn_histories.specs.Histories.{stream, put}
use Rattle.server_counts.specs.Packets.{ArePackets, ends_call}
use Rattle.replay_world.specs.Worlds.{Peer}

-- ONE CONNECTION, AND ALL

-- the packets that it read and those that it answered
pub record Counts (p : Peer) (before after : Numbers) : Type 0 where
  pub came : List (List ℕ)
  pub are_came : ArePackets came (stream p.events)
  pub answered : List (List ℕ)
  pub are_answered : ArePackets answered (put p.events)
  pub sum : after ≡ with_more before (length (filter ends_call came)) (length came) (length answered)

-- of all connections together
abbrev pub CountAll : List Peer → Numbers → Type 0
CountAll [] numbers = numbers ≡ none_yet
CountAll (p ∷ ps) numbers = (others : Numbers) × CountAll ps others × Counts p others numbers
