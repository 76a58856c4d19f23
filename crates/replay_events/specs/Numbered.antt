-- What holds of the numbers that a connection keeps: they fit the fields of the PDUs that it answers.
use Rattle.std.specs.Prelude.{◌≡◌, ℕ, ◌^◌, ◌<◌, ◌≤◌, Option, Some, None, List, [], ⊤}
use Rattle.std.specs.List.{AllByRecursion}
use Rattle.rpc_base.specs.Fields.{IsOctets}
use Rattle.pdu_codec.specs.declared.pdu.BindAckBody.{BindAckBody}
use Rattle.pdu_codec.specs.Constants.{most_fragment}
use Rattle.pdu_codec.specs.Pdus.{FitsResult}
use Rattle.handle_model.specs.declared.entry.Said.{Said}
use Rattle.handle_model.specs.declared.entry.Said.TheVariants.{Out, Fault}
use Rattle.conn_asks.specs.declared.events.Caller.{Caller}
use Rattle.conn_asks.specs.declared.events.Agreement.{Agreement}
use Rattle.conn_asks.specs.declared.events.ConnFault.{ConnFault}
use Rattle.conn_asks.specs.declared.events.ConnFault.TheVariants.{Nak}
use Rattle.conn_asks.specs.declared.events.Waits.{Waits}
use Rattle.conn_asks.specs.declared.events.Waits.TheVariants.{Nothing, Group, Call, Over, Failed}
use Rattle.conn_asks.specs.Answers.{AreResults}
use Rattle.conn_asks.specs.States.{ConnState}

pub record FitsCaller (c : Caller) : Type 0 where
  pub call_id : c.call_id < 2 ^ 32
  pub context : c.context < 2 ^ 16

pub record FitsAgreement (a : Agreement) : Type 0 where
  pub max_xmit : a.max_xmit ≤ most_fragment
  pub max_recv : a.max_recv < 2 ^ 16
  pub group : a.group < 2 ^ 32

-- a bind_ack that is ready but for its group
pub record FitsAck (ack : BindAckBody) : Type 0 where
  pub max_xmit : ack.max_xmit ≤ most_fragment
  pub max_recv : ack.max_recv < 2 ^ 16
  pub address : ack.address ≡ []
  pub few : AreResults ack.results
  pub results : AllByRecursion FitsResult ack.results

abbrev pub FitsWaits : Waits → Type 0
FitsWaits (Group c ack) = FitsCaller c × FitsAck ack
FitsWaits (Call c maybe) = FitsCaller c
FitsWaits _ = ⊤

pub record IsNumbered (m : ConnState) : Type 0 where
  pub rest : IsOctets m.rest
  pub agreement : FitsAgreement m.agreement
  pub waits : FitsWaits m.waits

-- the reason of a bind_nak
abbrev pub FitsFault : ConnFault → Type 0
FitsFault (Nak reason) = reason < 2 ^ 16
FitsFault _ = ⊤

-- what a call's end says has its fields' sizes
abbrev pub FitsStatus : Option Said → Type 0
FitsStatus (Some (Fault status)) = status.0 < 2 ^ 32
FitsStatus _ = ⊤
