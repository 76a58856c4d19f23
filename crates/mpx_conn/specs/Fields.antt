-- What a connection keeps of what came, and in which state it is.
use Rattle.std.specs.Prelude.{◌≡◌, Bool, List, [], ⊤}
use Rattle.pdu_codec.specs.declared.pdu.Pdu.{Pdu}
use Rattle.pdu_stream.specs.Cuts.{Fed}
use Rattle.conn_asks.specs.declared.events.Agreement.{Agreement}
use Rattle.conn_asks.specs.declared.events.Waits.{Waits}
use Rattle.conn_asks.specs.declared.events.Waits.TheVariants.{Nothing, Group, Call, Over, Failed}
use Rattle.conn_asks.specs.Answers.{AreResults}
use Rattle.conn_core.specs.Fields.{ConnFields, IsAt, HasCause, IsWide}
use Rattle.mpx_asks.specs.declared.open_calls.OpenCall.{OpenCall}
use Rattle.mpx_asks.specs.Among.{MpxState, is_many}

-- what any connection keeps, whether its bind had CONC_MPX, and the calls that are unanswered
pub record MpxFields : Type 0 where
  pub conn : ConnFields
  pub many : Bool
  pub out : List OpenCall

-- while PDUs may still come it is known whether the connection is multiplexed
abbrev pub KnowsMany : Waits → Bool → List Pdu → Type 0
KnowsMany Over many past = ⊤
KnowsMany Failed many past = ⊤
KnowsMany Nothing many past = many ≡ is_many past
KnowsMany (Group c ack) many past = many ≡ is_many past
KnowsMany (Call c maybe) many past = many ≡ is_many past

-- The connection is in the state.
pub record IsAmong (t : MpxFields) (m : MpxState) : Type 0 where
  pub conn : IsAt t.conn m.conn
  pub many : KnowsMany m.conn.waits t.many m.conn.past
  pub out : t.out ≡ m.out

-- What is waited for: never a call, since these stand apart; and a bind_ack that waits for its group can be written.
abbrev pub CanStand : Waits → Type 0
CanStand (Group c ack) = (ack.address ≡ []) × AreResults ack.results × IsWide ack.max_xmit
CanStand (Call c maybe) = ⊥
CanStand Nothing = ⊤
CanStand Over = ⊤
CanStand Failed = ⊤

-- what always holds of a connection
abbrev pub IsSoundAmong : Fed → Waits → Agreement → Type 0
IsSoundAmong fed waits agreement = HasCause fed.fault fed.rest × IsWide agreement.max_xmit × CanStand waits

-- calls, from whichever state the connection is in
abbrev pub Leads : (MpxState → MpxState → Type 0) → MpxFields → MpxFields → Type 0
Leads Step old new = (m : MpxState) → IsAmong old m → (n : MpxState) × Step m n × IsAmong new n
