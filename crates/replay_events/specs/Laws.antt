-- Laws of connections and of what was counted on all of them.
use Rattle.std.specs.Prelude.{◌≡◌, ℕ, Option, Some, None, List, []}
use Rattle.std.specs.List.{find}
use Rattle.desk_counts.specs.Numbers.{Numbers}
use Rattle.replay_world.specs.Worlds.{Peer, is_named, put_peer}
use Rattle.replay_world.specs.Counting.{CountAll}
use Rattle.replay_events.specs.declared.played.Played.{Played}
use Rattle.replay_events.specs.Living.{Grows}
use Rattle.replay_events.specs.Tables.{RiseFrom, ShowAll, ShowOthers}

-- One connection's counts grow, and the totals of all by as much.
abbrev pub TotalsGrow : Type 0
TotalsGrow =
    (ps : List Peer) (c : ℕ) (p q : Peer) (old new : Numbers) → RiseFrom 0 ps → find (is_named c) ps ≡ Some p → q.name ≡ c
    → CountAll ps old → Grows p.events old q.events new → CountAll (put_peer q ps) new

-- A connection on which nothing further happened leaves the totals.
abbrev pub TotalsStay : Type 0
TotalsStay =
    (ps : List Peer) (c : ℕ) (p q : Peer) (numbers : Numbers) → RiseFrom 0 ps → find (is_named c) ps ≡ Some p → q.name ≡ c
    → q.events ≡ p.events → CountAll ps numbers → CountAll (put_peer q ps) numbers

-- A connection on which nothing happened adds nothing to them.
abbrev pub TotalsOpen : Type 0
TotalsOpen =
    (ps : List Peer) (q : Peer) (numbers : Numbers) → find (is_named q.name) ps ≡ None → q.events ≡ [] → CountAll ps numbers
    → CountAll (put_peer q ps) numbers
