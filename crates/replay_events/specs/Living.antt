-- What a call does on a connection of a program: an event happens to each connection that it shows, and the totals of all
-- connections grow by the packets that came or were answered.
use Rattle.std.specs.Prelude.{◌≡◌, ℕ, ◌+◌, Option, Some, None, List, [], ◌∷◌, ◌++◌, length, filter}
use Rattle.std.specs.List.{AllByRecursion}
use Rattle.desk_counts.specs.Numbers.{Numbers, with_more}
use Rattle.conn_asks.specs.declared.events.Act.{Act}
use Rattle.conn_asks.specs.States.{ConnState}
use Rattle.conn_histories.specs.Histories.{Decision, Event, Happens, stream, put}
use Rattle.conn_histories.specs.Histories.Event.{Came, Paused, Did, Decided}
use Rattle.replay_world.specs.Worlds.{Peer, Printed}
use Rattle.replay_world.specs.Printing.{ArePrinted, out_text}
use Rattle.replay_world.specs.Answered.{FitsPrinted}
use Rattle.server_counts.specs.Packets.{ArePackets, ends_call}
use Rattle.replay_events.specs.declared.played.Played.{Played}
use Rattle.replay_events.specs.Showing.{Shows}

-- the connection with one event more
abbrev pub living : Peer → Event → ConnState → Peer
living p event state = record p { events = p.events ++ event ∷ []; state = state }

-- ---- what was counted

-- of these events, so many calls and packets came and so many packets were answered
pub record Tallied (events : List Event) (calls packets_in packets_out : ℕ) : Type 0 where
  pub came : List (List ℕ)
  pub are_came : ArePackets came (stream events)
  pub answered : List (List ℕ)
  pub are_answered : ArePackets answered (put events)
  pub calls_are : calls ≡ length (filter ends_call came)
  pub in_are : packets_in ≡ length came
  pub out_are : packets_out ≡ length answered

-- The totals grow by what the later events have more than the earlier ones.
pub record Grows (before : List Event) (old : Numbers) (after : List Event) (new : Numbers) : Type 0 where
  pub calls : ℕ
  pub packets_in : ℕ
  pub packets_out : ℕ
  pub had : Tallied before calls packets_in packets_out
  pub more_calls : ℕ
  pub more_in : ℕ
  pub more_out : ℕ
  pub has : Tallied after (calls + more_calls) (packets_in + more_in) (packets_out + more_out)
  pub sum : new ≡ with_more old more_calls more_in more_out

-- ---- an event

-- what a connection of a program, the totals and the text on out are
pub record Moment : Type 0 where
  pub played : Played
  pub totals : Numbers
  pub out : List ℕ

abbrev pub at_moment : Played → Numbers → List ℕ → Moment
at_moment played totals out = record { played = played; totals = totals; out = out }

-- The event happens to the connection, what it answers is printed, so that it can be read again, and counted, and the program's
-- connection shows it.
pub record LivesOn (old : Moment) (p : Peer) (event : Event) (new : Moment) : Type 0 where
  pub state : ConnState
  pub happens : Happens p.state event state
  pub shows : Shows new.played (living p event state)
  pub lines : List Printed
  pub printed : ArePrinted p.name (put (event ∷ [])) lines
  pub fit : AllByRecursion FitsPrinted lines
  pub out : new.out ≡ old.out ++ out_text lines
  pub counts : Grows p.events old.totals (p.events ++ event ∷ []) new.totals

abbrev pub Lives : Moment → Event → Moment → Type 0
Lives old event new = (p : Peer) → Shows old.played p → LivesOn old p event new

-- the next act, or nothing for now
abbrev pub event_of : Option Act → Event
event_of (Some act) = Did act
event_of None = Paused

-- the connection is that of some world
abbrev pub IsPlayed : Played → Type 0
IsPlayed t = (p : Peer) × Shows t p

-- it is decided so, with whatever is answered
abbrev pub Decides : Moment → Decision → Moment → Type 0
Decides old decision new = (p : Peer) → Shows old.played p → (octets : List ℕ) × LivesOn old p (Decided decision octets) new
