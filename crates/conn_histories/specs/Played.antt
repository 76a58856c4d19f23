-- What is done and answered on a connection is what its octets ask.
use Rattle.std.specs.Prelude.{◌≡◌, ℕ, List, [], ◌++◌, ◌⊎◌}
use Rattle.rpc_base.specs.declared.identifiers.SyntaxId.{SyntaxId}
use Rattle.rpc_base.specs.Fields.{IsOctets}
use Rattle.conn_asks.specs.declared.events.Ask.{Ask}
use Rattle.conn_asks.specs.declared.events.Waits.TheVariants.{Nothing, Over}
use Rattle.conn_asks.specs.Asks.{AreAsksOf}
use Rattle.conn_asks.specs.States.{ConnState, at_start}
use Rattle.conn_histories.specs.Histories.{Event, Lives, IsAtRest, stream, seen}
use Rattle.conn_histories.specs.Plays.{negotiated_at_start, Plays, EndsRefused}

-- Of what is asked, a front is done. It is all that is asked where the state is at rest and waits for nothing, and
-- where the connection is closed, unless its bind was refused.
pub record Done (ids : List SyntaxId) (events : List Event) (m : ConnState) (asked : List Ask) : Type 0 where
  pub done : List Ask
  pub left : List Ask
  pub whole : asked ≡ done ++ left
  pub plays : Plays (negotiated_at_start ids) done (seen events)
  pub free : m.waits ≡ Nothing → IsAtRest m → left ≡ []
  pub over : m.waits ≡ Over → (left ≡ []) ⊎ EndsRefused (seen events)

-- What is done and answered from the start on is what the octets that came ask.
abbrev pub ActsAreAsks : Type 0
ActsAreAsks =
    (ids : List SyntaxId) (events : List Event) (m : ConnState) (asked : List Ask) → Lives (at_start ids) events m
    → AreAsksOf (stream events) asked → Done ids events m asked

-- octets have one list of what they ask
abbrev pub OneAsking : Type 0
OneAsking = (octets : List ℕ) (a b : List Ask) → AreAsksOf octets a → AreAsksOf octets b → a ≡ b

-- all octets have one
abbrev pub EachAsks : Type 0
EachAsks = (octets : List ℕ) → IsOctets octets → (asked : List Ask) × AreAsksOf octets asked
