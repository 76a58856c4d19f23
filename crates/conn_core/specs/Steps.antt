-- One PDU of a connection.
use Rattle.std.specs.Prelude.{◌≡◌, ℕ, ◌<◌, nat_le, Bool, ◌==◌, ◌&&◌, not, Option, Some, None, if◌then◌else◌, Result, Ok, Err, List, ◌∷◌, ◌++◌, length, ⊤}
use Rattle.rpc_base.specs.declared.fault.NoMemory.{NoMemory}
use Rattle.pdu_codec.specs.declared.pdu.Pdu.{Pdu}
use Rattle.pdu_codec.specs.declared.pdu.Body.{Body}
use Rattle.pdu_codec.specs.declared.pdu.Body.TheVariants as bodies
use Rattle.pdu_codec.specs.declared.fault.PduFault.{PduFault}
use Rattle.pdu_codec.specs.Pdus.{IsPdu, AreSpelled, pdu_octets}
use Rattle.pdu_codec.specs.Constants.{header_size}
use Rattle.pdu_codec.specs.Faults.{kind_at}
use Rattle.pdu_stream.specs.Cuts.{IsStop}
use Rattle.conn_asks.specs.declared.events.Ask.{Ask}
use Rattle.conn_asks.specs.declared.events.Act.{Act}
use Rattle.conn_asks.specs.declared.events.Act.TheVariants.{Close, Cancel, Orphan}
use Rattle.conn_asks.specs.declared.events.Waits.{Waits}
use Rattle.conn_asks.specs.declared.events.Waits.TheVariants.{Nothing, Over}
use Rattle.conn_asks.specs.Asks.{Asks, caller_at, broken_by}
use Rattle.conn_asks.specs.Answers.{closing}
use Rattle.conn_asks.specs.States.{ConnState, Does, IsIdle, Skips, Acts, SkipsAll, IsStuck, MayFail, calls_off_by, WaitsBehind}
use Rattle.conn_core.specs.declared.next.Step.{Step}
use Rattle.conn_core.specs.declared.next.Step.TheVariants.{Stuck, Skipped, Acted}
use Rattle.conn_core.specs.Fields.{ConnFields, KeepsState, Knows, IsAt}

-- PDUs were taken, and these are as they were.
pub record Passes (old new : ConnFields) : Type 0 where
  pub pdus : List Pdu
  pub front : List ℕ
  pub spelled : AreSpelled IsPdu pdus front
  pub rest : old.fed.rest ≡ front ++ new.fed.rest
  pub ids : new.served.ids ≡ old.served.ids
  pub agreement : new.agreement ≡ old.agreement

-- a skipped PDU had octets
abbrev pub Shortens : Result Step NoMemory → ℕ → ℕ → Type 0
Shortens (Ok Skipped) old new = new < old
Shortens _ old new = ⊤

-- what is waited for behind a step at which something was done
abbrev pub WaitsAfter : Result Step NoMemory → Waits → Type 0
WaitsAfter (Ok (Acted act)) waits = WaitsBehind act waits
WaitsAfter _ waits = ⊤

-- a step from a state
abbrev pub StepsFrom : ConnState → Result Step NoMemory → ConnFields → Type 0
StepsFrom m (Ok Stuck) new = IsAt new m × IsStuck m.waits m.rest
StepsFrom m (Ok Skipped) new = (p : Pdu) × (n : ConnState) × Skips m p n × IsAt new n
StepsFrom m (Ok (Acted act)) new = (n : ConnState) × Acts m act n × IsAt new n
StepsFrom m (Err _) new = MayFail m.waits

-- the steps up to the next act
abbrev pub GoesFrom : ConnState → Result (Option Act) NoMemory → ConnFields → Type 0
GoesFrom m (Ok None) new = (skipped : List Pdu) × (n : ConnState) × SkipsAll m skipped n × IsStuck n.waits n.rest × IsAt new n
GoesFrom m (Ok (Some act)) new = (skipped : List Pdu) × (between n : ConnState) × SkipsAll m skipped between × Acts between act n × IsAt new n
GoesFrom m (Err _) new = MayFail m.waits

-- ---- a PDU while nothing is waited for

-- A connection that waits for nothing, whatever it has still to read.
pub record IsFree (t : ConnFields) (m : ConnState) : Type 0 where
  pub ids : t.served.ids ≡ m.ids
  pub waits : t.waits ≡ Nothing
  pub free : m.waits ≡ Nothing
  pub agreement : t.agreement ≡ m.agreement
  pub keeps : KeepsState t m

-- the state behind a PDU
abbrev pub behind : ConnState → Pdu → Waits → ConnState
behind m p waits = record m { past = p ∷ m.past; waits = waits }

-- the PDU was heard behind the state
abbrev pub HearsAt : ConnState → Pdu → Result Step NoMemory → ConnFields → Type 0
HearsAt m p (Ok Stuck) new = ⊥
HearsAt m p (Ok Skipped) new = (ask : Option Ask) × Asks m.past p ask × IsIdle Nothing ask × (new.waits ≡ Nothing) × KeepsState new (behind m p Nothing)
HearsAt m p (Ok (Acted act)) new = (ask : Ask) × Asks m.past p (Some ask) × Does m ask act new.waits × Knows new.waits new (behind m p new.waits)
HearsAt m p (Err _) new = ⊤

-- the connection is closed at a fault of the octets
abbrev pub Stops : List ℕ → PduFault → Result Step NoMemory → ConnFields → ConnFields → Type 0
Stops rest fault (Ok (Acted act)) old new =
    IsStop rest fault × (act ≡ Close (pdu_octets (closing (caller_at rest) (broken_by rest fault))) (broken_by rest fault))
    × (new ≡ record old { waits = Over })
Stops rest fault (Ok _) old new = ⊥
Stops rest fault (Err _) old new = new ≡ old

-- ---- a PDU while a call is unanswered

-- a header stands in front, with the PTYPE of a co_cancel or an orphaned
abbrev pub calls_off : List ℕ → Bool
calls_off octets = nat_le header_size (length octets) && calls_off_by (kind_at octets)

-- a header stands in front, with another PTYPE
abbrev pub holds_up : List ℕ → Bool
holds_up octets = nat_le header_size (length octets) && not (calls_off_by (kind_at octets))

abbrev pub act_with : ℕ → Body → Act
act_with id bodies.CoCancel = Cancel id
act_with id _ = Orphan id

abbrev pub heard_off : ℕ → Pdu → Step
heard_off id p = if id == p.call_id then Acted (act_with p.call_id p.body) else Skipped
