-- A connection of a program, and the connection of a script's world that it is.
use Rattle.std.specs.Prelude.{◌≡◌, ℕ, List}
use Rattle.pdu_codec.specs.Pdus.{AreSpelled}
use Rattle.conn_core.specs.Fields.{IsAt}
use Rattle.conn_histories.specs.Histories.{stream, put}
use Rattle.replay_world.specs.Worlds.{Peer}
use Rattle.server_counts.specs.Pieces.{IsOnePdu}
use Rattle.server_counts.specs.Packets.{Stands}
use Rattle.server_counts.specs.Pieces.{ArePdus}
use Rattle.replay_events.specs.declared.played.Played.{Played}
use Rattle.replay_events.specs.Numbered.{IsNumbered}

-- It is in the connection's state, has counted the packets that came on it, and answered nothing but PDUs.
pub record Shows (t : Played) (p : Peer) : Type 0 where
  pub name : t.name ≡ p.name
  pub member : t.member ≡ p.member
  pub unanswered : t.unanswered ≡ p.unanswered
  pub standing : t.standing ≡ p.standing
  pub at_state : IsAt t.conn p.state
  pub came : List (List ℕ)
  pub counted : Stands t.packets came (stream p.events)
  pub answered : ArePdus (put p.events)
  pub numbered : IsNumbered p.state
