-- What happens on a connection on which several calls may be unanswered, one thing after the other.
use Rattle.std.specs.Prelude.{◌≡◌, ℕ, Bool, Option, Some, None, Ok, List, [], ◌∷◌, ◌++◌}
use Rattle.rpc_base.specs.declared.identifiers.SyntaxId.{SyntaxId}
use Rattle.handle_model.specs.declared.entry.Said.{Said}
use Rattle.conn_asks.specs.declared.events.Act.{Act}
use Rattle.conn_asks.specs.States.{at_start, with_octets}
use Rattle.mpx_asks.specs.Among.{MpxState, GoesAmong, BoundAt, RefusedAmong, RepliedTo}

-- What the server decides: the group of a bind; why a bind is refused; or how the call with that id ended, where it wasn't
-- dropped, and whether it was executed.
pub data Decision : Type 0 where
  ToGroup : ℕ → Decision
  RefuseGroup : ℕ → Decision
  ReplyTo : ℕ → Option Said → Bool → Decision

-- What happens: octets come; nothing is to be done for now; the next act; or the server decides, and octets are answered. Want
-- of memory isn't seen here: it changes nothing, or nothing more is done behind it.
pub data Event : Type 0 where
  Came : List ℕ → Event
  Paused : Event
  Did : Act → Event
  Decided : Decision → List ℕ → Event

abbrev pub AnswersDecision : MpxState → Decision → List ℕ → MpxState → Type 0
AnswersDecision m (Decision.ToGroup group) octets n = BoundAt m.conn.waits m group octets n
AnswersDecision m (Decision.RefuseGroup reason) octets n = RefusedAmong m reason (Ok octets) n
AnswersDecision m (Decision.ReplyTo id said executed) octets n = RepliedTo m id said executed octets n

abbrev pub Happens : MpxState → Event → MpxState → Type 0
Happens m (Event.Came octets) n = n ≡ record m { conn = with_octets m.conn octets }
Happens m Event.Paused n = GoesAmong m (Ok None) n
Happens m (Event.Did act) n = GoesAmong m (Ok (Some act)) n
Happens m (Event.Decided decision octets) n = AnswersDecision m decision octets n

-- From one state to another this happens, in that order.
abbrev pub Lives : MpxState → List Event → MpxState → Type 0
Lives m [] n = n ≡ m
Lives m (event ∷ later) n = (between : MpxState) × Happens m event between × Lives between later n

-- the octets that came
abbrev pub stream : List Event → List ℕ
stream [] = []
stream (Event.Came octets ∷ later) = octets ++ stream later
stream (Event.Paused ∷ later) = stream later
stream (Event.Did act ∷ later) = stream later
stream (Event.Decided decision octets ∷ later) = stream later

-- nothing came
abbrev pub at_first : List SyntaxId → MpxState
at_first ids = record { conn = at_start ids; out = [] }

-- the ids of the calls that a decision answers, in front of others
abbrev pub with_answered : Decision → List ℕ → List ℕ
with_answered (Decision.ToGroup group) ids = ids
with_answered (Decision.RefuseGroup reason) ids = ids
with_answered (Decision.ReplyTo id said executed) ids = id ∷ ids

-- those of the calls that are answered in a history, the newest first, in front of others
abbrev pub answered_behind : List Event → List ℕ → List ℕ
answered_behind [] ids = ids
answered_behind (Event.Came octets ∷ later) ids = answered_behind later ids
answered_behind (Event.Paused ∷ later) ids = answered_behind later ids
answered_behind (Event.Did act ∷ later) ids = answered_behind later ids
answered_behind (Event.Decided decision octets ∷ later) ids = answered_behind later (with_answered decision ids)
