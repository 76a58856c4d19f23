use Rattle.std.proofs.Common.{refl, ◌≤◌, arith, [], List, ℕ}
use Rattle.server_counts.specs.Packets.{at_start, Stands, PacketsView}
use Rattle.server_counts.proofs.Pieces.{none_are_pdus}
use Rattle.replay_events.proofs.Staying.{starts_numbered}
use Rattle.replay_events.proofs.PeerLiving.{nothing_stands}
use Rattle.replay_events.proofs.played.Played.open.Goals as goal

pub returns : goal.returns
returns c = record {
  name = refl;
  member = refl;
  unanswered = refl;
  standing = refl;
  at_state = c.in_ok-conn.ensures;
  came = [];
  counted = nothing_stands c.new-packets.result c.new-packets.ensures;
  answered = none_are_pdus;
  numbered = starts_numbered c.args.ids.now;
}
