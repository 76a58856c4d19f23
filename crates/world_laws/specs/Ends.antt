-- A connection: the caller's end, the octets on the way in both directions, and the server's end.
use Rattle.std.specs.Prelude.{ℕ, Bool, true, false, Option, Some, None, List, [], ◌∷◌, slice_get}
use Rattle.rpc_base.specs.declared.identifiers.Status.{Status}
use Rattle.rpc_base.specs.declared.identifiers.SyntaxId.{SyntaxId}
use Rattle.ndr_value.specs.Values.{Msg}
use Rattle.conn_asks.specs.States.{ConnState, at_start}
use Rattle.conn_histories.specs.Histories.{Event}
use Rattle.client_core.specs.States.{ClientState}
use Rattle.client_core.specs.Histories.{ClientEvent}
use Rattle.world_laws.specs.Moves.{Fate}
use Rattle.world_laws.specs.Moves.Fate.{Open}

-- a call that the caller started, and what it knows of it
pub record Row : Type 0 where
  pub op : ℕ
  pub message : Msg
  pub fate : Fate

-- What happened at the caller's end, and the state since; the octets that came and are no whole PDU; and its calls, in order.
-- A call that is out is the last one.
pub record CallerEnd : Type 0 where
  pub events : List ClientEvent
  pub state : ClientState
  pub rest : List ℕ
  pub rows : List Row

-- What waits for the server's word: a bind that asks for the group of that id; a request that is refused; an accepted call.
pub data Waiting : Type 0 where
  Nothing : Waiting
  Bind : ℕ → Waiting
  Refused : Status → Waiting
  Call : ℕ → Waiting

-- What happened at the server's end, and the state since; its number in the group, once it joined; what waits for the server's
-- word; and of each call that came, in order, its number where it was accepted.
pub record ServerEnd : Type 0 where
  pub events : List Event
  pub state : ConnState
  pub member : Option ℕ
  pub waiting : Waiting
  pub numbers : List (Option ℕ)

-- A connection by its name. One that was lost stands no more.
pub record Line : Type 0 where
  pub name : ℕ
  pub caller : CallerEnd
  pub up : List ℕ
  pub down : List ℕ
  pub server : ServerEnd
  pub standing : Bool

-- ---- calls

-- the number of the connection's call at a place, where the server accepted it
abbrev pub number_in : Option (Option ℕ) → Option ℕ
number_in None = None
number_in (Some number) = number

abbrev pub number_at : Line → ℕ → Option ℕ
number_at l i = number_in (slice_get l.server.numbers i)

abbrev pub new_row : ℕ → Msg → Row
new_row op m = record { op = op; message = m; fate = Open }

-- the call that was started last has that fate
abbrev pub with_last : Fate → List Row → List Row
with_last fate [] = []
with_last fate (r ∷ []) = record r { fate = fate } ∷ []
with_last fate (r ∷ s ∷ more) = r ∷ with_last fate (s ∷ more)

-- so does the call that is out, if one is
abbrev pub told_if : Bool → Fate → List Row → List Row
told_if true fate rows = with_last fate rows
told_if false fate rows = rows

-- the server's end of a connection on which nothing happened
abbrev pub new_server : List SyntaxId → ServerEnd
new_server ids = record { events = []; state = at_start ids; member = None; waiting = Nothing; numbers = [] }
