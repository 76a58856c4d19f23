-- What is waited for behind an act, and what has to wait.
use Rattle.std.proofs.Common.{◌≡◌, ℕ, Bool, true, false, List, Option, Some, None, Result, Ok, Err, sym, ap, subst}
use Rattle.std.specs.Prelude.{if◌then◌else◌}
use Rattle.rpc_base.specs.declared.fault.NoMemory.{NoMemory}
use Rattle.rpc_base.specs.declared.identifiers.SyntaxId.{SyntaxId}
use Rattle.pdu_codec.specs.declared.pdu.Pdu.{Pdu}
use Rattle.pdu_codec.specs.declared.pdu.Body.{Body}
use Rattle.pdu_codec.specs.declared.pdu.Body.TheVariants as bodies
use Rattle.pdu_codec.specs.declared.fault.PduFault.{PduFault}
use Rattle.pdu_stream.specs.declared.joined.Joined.{Joined}
use Rattle.presentation.specs.declared.verdict.Accepted.{Accepted}
use Rattle.presentation.specs.Offers.{interface_of}
use Rattle.conn_asks.specs.declared.events.Agreement.{Agreement}
use Rattle.conn_asks.specs.declared.events.Ask.{Ask}
use Rattle.conn_asks.specs.declared.events.Ask.TheVariants as asks
use Rattle.conn_asks.specs.declared.events.Act.{Act}
use Rattle.conn_asks.specs.declared.events.Waits.{Waits}
use Rattle.conn_asks.specs.declared.events.Waits.TheVariants.{Nothing}
use Rattle.conn_asks.specs.States.{caller_of, ActsOnCall, IsCalling, IsGrouping, DoesWith, WaitsBehind}
use Rattle.conn_core.specs.declared.next.Step.{Step}
use Rattle.conn_core.specs.declared.next.Step.TheVariants.{Stuck, Skipped, Acted}
use Rattle.conn_core.specs.Fields.{ConnFields}
use Rattle.conn_core.specs.Steps.{WaitsAfter, Stops, act_with}

-- ---- behind an act

behind : (act done : Act) (w : Waits) → act ≡ done → WaitsBehind done w → WaitsBehind act w
behind act done w is h = subst (λ (x : Act). WaitsBehind x w) (sym is) h

call_waits : (number : Option ℕ) (j : Joined) (act : Act) (w : Waits) → ActsOnCall number j act w → WaitsBehind act w
call_waits (Some k) j act w h = behind act _ w h.0 (caller_of j, j.maybe, h.1)
call_waits None j act w h = behind act _ w h.0 h.1

pub does_waits : (ids : List SyntaxId) (a : List Accepted) (agreement : Agreement) (ask : Ask) (act : Act) (w : Waits) → DoesWith ids a agreement Nothing ask act w → WaitsBehind act w
does_waits ids a agreement (asks.Bind c flags b) act w h = behind act _ w h.0 (subst IsGrouping (sym h.1) tt)
does_waits ids a agreement (asks.Alter c b) act w h = behind act _ w h.0 h.1
does_waits ids a agreement (asks.Call j) act w h = call_waits (interface_of a j.context) j act w h
does_waits ids a agreement (asks.Cancel id) act w h = absurd (cc (h.0.2))
does_waits ids a agreement (asks.Orphan id) act w h = absurd (cc (h.0.2))
does_waits ids a agreement (asks.Broken c f) act w h = behind act _ w h.0 h.1

pub stop_waits : (rest : List ℕ) (fault : PduFault) (result : Result Step NoMemory) (old new : ConnFields) → Stops rest fault result old new → WaitsAfter result new.waits
stop_waits rest fault (Ok (Acted act)) old new h = behind act _ new.waits h.1 (ap (λ (x : ConnFields). x.waits) h.2)
stop_waits rest fault (Ok Stuck) old new h = tt
stop_waits rest fault (Ok Skipped) old new h = tt
stop_waits rest fault (Err e) old new h = tt

off_with : (id : ℕ) (body : Body) (w : Waits) → IsCalling w → WaitsBehind (act_with id body) w
off_with id (bodies.Request b) w h = h
off_with id (bodies.Response b) w h = h
off_with id (bodies.Fault b) w h = h
off_with id (bodies.Bind b) w h = h
off_with id (bodies.BindAck b) w h = h
off_with id (bodies.BindNak b) w h = h
off_with id (bodies.Alter b) w h = h
off_with id (bodies.AlterResp b) w h = h
off_with id bodies.Shutdown w h = h
off_with id bodies.CoCancel w h = h
off_with id bodies.Orphaned w h = h

pub off_waits : (p : Pdu) (same : Bool) (w : Waits) → IsCalling w → WaitsAfter (Ok (if same then Acted (act_with p.call_id p.body) else Skipped)) w
off_waits p true w h = off_with p.call_id p.body w h
off_waits p false w h = tt
