-- What happens on a connection, one thing after the other.
use Rattle.std.specs.Prelude.{◌≡◌, ℕ, Bool, Option, Some, None, Ok, List, [], ◌∷◌, ◌++◌}
use Rattle.handle_model.specs.declared.entry.Said.{Said}
use Rattle.conn_asks.specs.declared.events.Act.{Act}
use Rattle.conn_asks.specs.declared.events.Act.TheVariants as acts
use Rattle.conn_asks.specs.States.{ConnState, with_octets, Goes, IsStuck, BoundAt, RefusedAt, RepliedAt}

-- What the server decides: the group of a bind; why a bind is refused; or how a call ended, where it wasn't dropped, and
-- whether it was executed.
pub data Decision : Type 0 where
  ToGroup : ℕ → Decision
  RefuseGroup : ℕ → Decision
  Reply : Option Said → Bool → Decision

-- What happens: octets come; nothing is to be done for now; the next act; or the server decides, and octets are answered. Want of memory isn't seen here: it changes nothing, or nothing more is done behind it.
pub data Event : Type 0 where
  Came : List ℕ → Event
  Paused : Event
  Did : Act → Event
  Decided : Decision → List ℕ → Event

abbrev pub AnswersDecision : ConnState → Decision → List ℕ → ConnState → Type 0
AnswersDecision m (ToGroup group) octets n = BoundAt m.waits m group octets n
AnswersDecision m (RefuseGroup reason) octets n = RefusedAt m.waits m reason octets n
AnswersDecision m (Reply said executed) octets n = RepliedAt m.waits m said executed octets n

abbrev pub Happens : ConnState → Event → ConnState → Type 0
Happens m (Came octets) n = n ≡ with_octets m octets
Happens m Paused n = Goes m (Ok None) n
Happens m (Did act) n = Goes m (Ok (Some act)) n
Happens m (Decided decision octets) n = AnswersDecision m decision octets n

-- From one state to another this happens, in that order.
abbrev pub Lives : ConnState → List Event → ConnState → Type 0
Lives m [] n = n ≡ m
Lives m (event ∷ later) n = (between : ConnState) × Happens m event between × Lives between later n

-- nothing is to be done before further octets or decisions come
abbrev pub IsAtRest : ConnState → Type 0
IsAtRest m = IsStuck m.waits m.rest

-- ---- what there is in a history

-- the octets that came
abbrev pub stream : List Event → List ℕ
stream [] = []
stream (Came octets ∷ later) = octets ++ stream later
stream (_ ∷ later) = stream later

-- the octets of an act
abbrev pub act_octets : Act → List ℕ
act_octets (acts.Answer octets) = octets
act_octets (acts.Close octets why) = octets
act_octets _ = []

-- the octets that are put to the client: those of the answers, of a close and of the decisions, in order
abbrev pub put : List Event → List ℕ
put [] = []
put (Did act ∷ later) = act_octets act ++ put later
put (Decided decision octets ∷ later) = octets ++ put later
put (_ ∷ later) = put later

-- what the server decided
abbrev pub decisions : List Event → List Decision
decisions [] = []
decisions (Decided decision octets ∷ later) = decision ∷ decisions later
decisions (_ ∷ later) = decisions later

-- what is seen from above: the acts and the answers
abbrev pub seen : List Event → List Event
seen [] = []
seen (Did act ∷ later) = Did act ∷ seen later
seen (Decided decision octets ∷ later) = Decided decision octets ∷ seen later
seen (_ ∷ later) = seen later

-- whose turn it was: that of an act, or of a decision
abbrev pub turns : List Event → List (Option Decision)
turns [] = []
turns (Did act ∷ later) = None ∷ turns later
turns (Decided decision octets ∷ later) = Some decision ∷ turns later
turns (_ ∷ later) = turns later

-- an act in front, but for one that calls off the call that is unanswered
abbrev pub with_act : Act → List Event → List Event
with_act (acts.Cancel id) later = later
with_act (acts.Orphan id) later = later
with_act act later = Did act ∷ later

-- the acts and the answers, but for the acts that call off
abbrev pub lasting : List Event → List Event
lasting [] = []
lasting (Did act ∷ later) = with_act act (lasting later)
lasting (Decided decision octets ∷ later) = Decided decision octets ∷ lasting later
lasting (_ ∷ later) = lasting later
