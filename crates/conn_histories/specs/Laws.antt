-- A connection's states and the stream of its octets.
use Rattle.std.specs.Prelude.{◌≡◌, ℕ, Option, Some, None, Ok, List, ◌++◌, reverse}
use Rattle.pdu_codec.specs.Pdus.{IsPdu, AreSpelled}
use Rattle.pdu_stream.specs.Cuts.{LeavesUncut}
use Rattle.conn_asks.specs.declared.events.Act.{Act}
use Rattle.conn_asks.specs.States.{ConnState, with_octets, Goes}

-- The PDUs that were taken and the octets behind them are the stream.
pub record HasCome (stream : List ℕ) (m : ConnState) : Type 0 where
  pub front : List ℕ
  pub spelled : AreSpelled IsPdu (reverse m.past) front
  pub whole : stream ≡ front ++ m.rest

abbrev pub ComesOn : Type 0
ComesOn = (stream piece : List ℕ) (m : ConnState) → HasCome stream m → HasCome (stream ++ piece) (with_octets m piece)

abbrev pub GoesOnInTheStream : Type 0
GoesOnInTheStream = (stream : List ℕ) (m n : ConnState) (act : Option Act) → HasCome stream m → Goes m (Ok act) n → HasCome stream n

abbrev pub LeavesOfAll : Type 0
LeavesOfAll = (stream : List ℕ) (m : ConnState) (count : ℕ) → HasCome stream m → LeavesUncut m.rest count → LeavesUncut stream count

abbrev pub ActStays : Type 0
ActStays =
    (m n : ConnState) (act : Act) (more : List ℕ) → Goes m (Ok (Some act)) n → Goes (with_octets m more) (Ok (Some act)) (with_octets n more)

abbrev pub SkippedBefore : Type 0
SkippedBefore =
    (m n k : ConnState) (act : Option Act) (more : List ℕ) → Goes m (Ok None) n → Goes (with_octets n more) (Ok act) k → Goes (with_octets m more) (Ok act) k

-- One state has one next act, or none, and one state behind it.
abbrev pub OneAct : Type 0
OneAct = (m n k : ConnState) (a b : Option Act) → Goes m (Ok a) n → Goes m (Ok b) k → (a ≡ b) × (n ≡ k)
