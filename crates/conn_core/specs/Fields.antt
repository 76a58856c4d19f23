-- What a connection keeps of what came, and in which state it is.
use Rattle.std.specs.Prelude.{◌≡◌, ℕ, ◌≤◌, Bool, Option, Some, None, Ok, List, [], reverse, ◌⊎◌, ⊤}
use Rattle.pdu_codec.specs.declared.fault.PduFault.{PduFault}
use Rattle.pdu_codec.specs.Constants.{least_fragment, most_fragment}
use Rattle.pdu_codec.specs.declared.fault.PduFault.TheVariants.{Memory}
use Rattle.pdu_stream.specs.declared.joined.Joined.{Joined}
use Rattle.pdu_stream.specs.Cuts.{Fed, IsStop}
use Rattle.pdu_stream.specs.Fragments.{Joining}
use Rattle.pdu_stream.specs.Runs.{IsJoining}
use Rattle.presentation.specs.Offers.{ServedSyntaxes}
use Rattle.conn_asks.specs.declared.events.Caller.{Caller}
use Rattle.conn_asks.specs.declared.events.Agreement.{Agreement}
use Rattle.conn_asks.specs.declared.events.Waits.{Waits}
use Rattle.conn_asks.specs.declared.events.Waits.TheVariants.{Nothing, Group, Call, Over, Failed}
use Rattle.conn_asks.specs.Asks.{is_bound, called}
use Rattle.conn_asks.specs.Answers.{AreResults}
use Rattle.conn_asks.specs.States.{ConnState, accepted}

-- The octets that are still to be read; whether a bind came; the request that is being joined; the interfaces served and
-- the presentation contexts accepted; what is waited for; what the bind_ack said.
pub record ConnFields : Type 0 where
  pub fed : Fed
  pub bound : Bool
  pub joining : Joining
  pub served : ServedSyntaxes
  pub waits : Waits
  pub agreement : Agreement

-- what is kept while PDUs may still come
pub record KeepsState (t : ConnFields) (m : ConnState) : Type 0 where
  pub bound : t.bound ≡ is_bound m.past
  pub run : Option Joined
  pub joining : t.joining ≡ Ok run
  pub runs : IsJoining (reverse m.past) run
  pub accepted : t.served.accepted ≡ accepted m

-- while a call is unanswered nothing is being joined, and it is the call that was asked last
abbrev pub Knows : Waits → ConnFields → ConnState → Type 0
Knows Nothing t m = KeepsState t m
Knows (Group c ack) t m = KeepsState t m
Knows (Call c maybe) t m = KeepsState t m × (t.joining ≡ Ok None) × (called m.past ≡ Some c.call_id)
Knows Over t m = ⊤
Knows Failed t m = ⊤

-- a fault that was answered is that of the octets, unless memory ran out
abbrev pub HasCause : Option PduFault → List ℕ → Type 0
HasCause None rest = ⊤
HasCause (Some fault) rest = IsStop rest fault ⊎ (fault ≡ Memory)

-- The connection is in the state.
pub record IsAt (t : ConnFields) (m : ConnState) : Type 0 where
  pub ids : t.served.ids ≡ m.ids
  pub rest : t.fed.rest ≡ m.rest
  pub waits : t.waits ≡ m.waits
  pub agreement : t.agreement ≡ m.agreement
  pub knows : Knows m.waits t m

-- a call with that id is unanswered
abbrev pub IsCallOf : ℕ → Waits → Type 0
IsCallOf id waits = (c : Caller) × (maybe : Bool) × (waits ≡ Call c maybe) × (c.call_id ≡ id)

-- fragments of a size that may be sent
abbrev pub IsWide : ℕ → Type 0
IsWide most = (least_fragment ≤ most) × (most ≤ most_fragment)

-- a bind_ack that waits for its group can be written
abbrev pub CanBind : Waits → Type 0
CanBind (Group c ack) = (ack.address ≡ []) × AreResults ack.results × IsWide ack.max_xmit
CanBind _ = ⊤

-- what always holds of a connection
abbrev pub IsSound : Fed → Waits → Agreement → Type 0
IsSound fed waits agreement = HasCause fed.fault fed.rest × IsWide agreement.max_xmit × CanBind waits

-- CALLS, from whichever state the connection is in

abbrev pub Leads : (ConnState → ConnState → Type 0) → ConnFields → ConnFields → Type 0
Leads Step old new = (m : ConnState) → IsAt old m → (n : ConnState) × Step m n × IsAt new n
