-- What of a connection's history doesn't depend on the pieces in which its octets come.
use Rattle.std.specs.Prelude.{◌≡◌, ℕ, Option, Ok, List, []}
use Rattle.rpc_base.specs.declared.identifiers.SyntaxId.{SyntaxId}
use Rattle.rpc_base.specs.Fields.{IsOctets}
use Rattle.conn_asks.specs.declared.events.Act.{Act}
use Rattle.conn_asks.specs.States.{ConnState, at_start, Goes}
use Rattle.conn_histories.specs.Histories.{Decision, Event, AnswersDecision, Lives, IsAtRest, stream, decisions, seen, turns, lasting}
use Rattle.conn_histories.specs.Laws.{HasCome}

-- What came is the PDUs that were taken and the octets behind them.
abbrev pub AllHasCome : Type 0
AllHasCome = (ids : List SyntaxId) (events : List Event) (m : ConnState) → Lives (at_start ids) events m → HasCome (stream events) m

-- Each state of a history has a next act, or none.
abbrev pub EachGoes : Type 0
EachGoes =
    (ids : List SyntaxId) (events : List Event) (m : ConnState) → Lives (at_start ids) events m → IsOctets (stream events)
    → (act : Option Act) × (n : ConnState) × Goes m (Ok act) n

-- Some acts, or none, lead to rest, with no further octets and no decision.
pub record Rests (m : ConnState) : Type 0 where
  pub events : List Event
  pub after : ConnState
  pub lives : Lives m events after
  pub at_rest : IsAtRest after
  pub no_octets : stream events ≡ []
  pub no_decisions : decisions events ≡ []

abbrev pub EachRests : Type 0
EachRests = (ids : List SyntaxId) (events : List Event) (m : ConnState) → Lives (at_start ids) events m → IsOctets (stream events) → Rests m

-- A decision is answered by one list of octets, and leads to one state.
abbrev pub OneAnswer : Type 0
OneAnswer =
    (m n k : ConnState) (decision : Decision) (a b : List ℕ) → AnswersDecision m decision a n → AnswersDecision m decision b k → (a ≡ b) × (n ≡ k)

-- Where the same octets come, in whatever pieces, and each decision comes behind as many acts and decisions, the
-- acts and the answers are the same; and so is the state where both are at rest.
abbrev pub SameActs : Type 0
SameActs =
    (start m n : ConnState) (a b : List Event) → Lives start a m → Lives start b n → stream a ≡ stream b → turns a ≡ turns b
    → (seen a ≡ seen b) × (IsAtRest m → IsAtRest n → m ≡ n)

-- Where the same octets come, in whatever pieces, and the server decides the same, whenever it does, the acts and the
-- answers are the same once both are at rest, and so is the state. Only which cancels and orphanings find their call
-- unanswered depends on when it is answered.
abbrev pub SameAnswers : Type 0
SameAnswers =
    (start m n : ConnState) (a b : List Event) → Lives start a m → Lives start b n → stream a ≡ stream b → decisions a ≡ decisions b
    → IsAtRest m → IsAtRest n → (lasting a ≡ lasting b) × (m ≡ n)
