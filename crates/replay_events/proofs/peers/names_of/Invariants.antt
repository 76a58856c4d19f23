use Rattle.std.proofs.Common.{◌≡◌, ◌++◌, map}
use Rattle.std.specs.Map.{values_of}
use Rattle.replay_events.specs.Tables.{name_in}
use Rattle.replay_events.proofs.peers.names_of.Given as goal

-- the names so far stand before those of the connections that come yet
abbrev pub invariant-loop-played : goal.invariant-loop-played
invariant-loop-played l = l.names.items ++ map name_in l.played-iterator ≡ map name_in (values_of l.peers.entries)
