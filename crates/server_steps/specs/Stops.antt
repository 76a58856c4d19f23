-- Why a connection doesn't go on, by a fault.
use Rattle.std.specs.Prelude.{◌≡◌, ◌≢◌, ℕ, Result, Ok, Err, List, ⊤}
use Rattle.pdu_stream.specs.Cuts.{LeavesUncut}
use Rattle.rpc_base.specs.declared.identifiers.Status.{Status}
use Rattle.group_core.specs.declared.answer.AcceptRefusal.{AcceptRefusal}
use Rattle.group_core.specs.declared.answer.AcceptRefusal.TheVariants as refusal
use Rattle.conn_histories.specs.Requests.{no_memory, too_busy}
use Rattle.server_steps.specs.declared.wire.Fault.{Fault}
use Rattle.server_ends.specs.declared.ended.Ending.{Ending}
use Rattle.server_ends.specs.declared.ended.Ending.TheVariants as ending
use Rattle.server_steps.specs.declared.wire.Fault.TheVariants as fault
use Rattle.server_steps.specs.declared.stop.Stop.{Stop}
use Rattle.server_steps.specs.declared.stop.Stop.TheVariants as stop

abbrev pub stop_by : Fault → Stop
stop_by fault.Failed = stop.Failed
stop_by fault.Memory = stop.Memory

abbrev pub bound_by : Result Unit Fault → Result Unit Stop
bound_by (Ok u) = Ok u
bound_by (Err f) = Err (stop_by f)

-- so many octets are left of those that came, where the peer ended
abbrev pub IsCutAs : List ℕ → Ending → Type 0
IsCutAs rest ending.Closed = LeavesUncut rest 0
IsCutAs rest (ending.Cut count) = (count ≢ 0) × LeavesUncut rest count
IsCutAs rest ending.Memory = ⊤
IsCutAs rest _ = ⊥

-- how a connection ended that didn't go on for that reason, where `Cut` says what its peer's end came to
abbrev pub IsEndedAs : Stop → (Ending → Type 0) → Ending → Type 0
IsEndedAs stop.Ended Cut e = Cut e
IsEndedAs stop.Failed Cut e = e ≡ ending.LinkFault
IsEndedAs (stop.Refused f) Cut e = e ≡ ending.Refused f
IsEndedAs stop.Memory Cut e = e ≡ ending.Memory

-- nca_s_fault_remote_no_memory for want of memory, and else nca_s_server_too_busy
abbrev pub refused_as : AcceptRefusal → Status
refused_as refusal.Memory = no_memory
refused_as _ = too_busy
