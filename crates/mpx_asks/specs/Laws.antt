-- Laws of what is asked while several calls are unanswered.
use Rattle.std.specs.Prelude.{◌≡◌, true, Option, Some, None, if◌then◌else◌, List, [], ◌∷◌}
use Rattle.rpc_base.specs.declared.identifiers.SyntaxId.{SyntaxId}
use Rattle.pdu_codec.specs.declared.pdu.Pdu.{Pdu}
use Rattle.pdu_stream.specs.declared.joined.Joined.{Joined}
use Rattle.pdu_stream.specs.declared.joined.JoinFault.TheVariants.{FragOrder}
use Rattle.conn_asks.specs.declared.events.ConnFault.TheVariants.{Join}
use Rattle.conn_asks.specs.declared.events.Ask.{Ask}
use Rattle.conn_asks.specs.declared.events.Ask.TheVariants as asks
use Rattle.conn_asks.specs.Asks.{called, Asks}
use Rattle.conn_asks.specs.States.{caller_of, is_calling_off}
use Rattle.mpx_asks.specs.declared.open_calls.OpenCall.{OpenCall}
use Rattle.mpx_asks.specs.Open.{has, AreOpen}
use Rattle.mpx_asks.specs.Among.{AsksAmong}
use Rattle.mpx_asks.specs.Courses.{Moment, IsCourse}

-- In each course the unanswered calls have different ids, and are as many at most as may be.
abbrev pub IdsStayApart : Type 0
IdsStayApart = (ids : List SyntaxId) (course : List Moment) (out : List OpenCall) → IsCourse ids course out → AreOpen out

-- A whole request breaks the protocol where its id is that of an unanswered call, and else is the call that it is while none is
-- unanswered.
abbrev pub AsksById : Type 0
AsksById =
    (past : List Pdu) (out : List OpenCall) (p : Pdu) (j : Joined) → AsksAmong past [] p (Some (asks.Call j))
    → AsksAmong past out p (Some (if has j.call_id out then asks.Broken (caller_of j) (Join FragOrder) else asks.Call j))

-- what is asked, unless it calls off
abbrev pub unless_off : Option Ask → Option Ask
unless_off None = None
unless_off (Some (asks.Bind c flags b)) = Some (asks.Bind c flags b)
unless_off (Some (asks.Alter c b)) = Some (asks.Alter c b)
unless_off (Some (asks.Call j)) = Some (asks.Call j)
unless_off (Some (asks.Cancel id)) = None
unless_off (Some (asks.Orphan id)) = None
unless_off (Some (asks.Broken c f)) = Some (asks.Broken c f)

-- Where one call at a time is unanswered, PDUs ask what they ask of a connection that isn't multiplexed: while none is
-- unanswered, but for what calls off a call that is over; and while the call that was asked last is, what calls off.
pub record AsksWhileAlone : Type 0 where
  pub none : (past : List Pdu) (p : Pdu) (ask : Option Ask) → AsksAmong past [] p ask → (other : Option Ask) × Asks past p other × (ask ≡ unless_off other)
  pub one : (past : List Pdu) (o : OpenCall) (p : Pdu) (ask : Option Ask) → called past ≡ Some o.caller.call_id → is_calling_off p.body ≡ true
      → AsksAmong past (o ∷ []) p ask → Asks past p ask
