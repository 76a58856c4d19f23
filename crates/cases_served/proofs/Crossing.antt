-- The services, with the ties of their calls, may cross threads.
use denote.Param.Send.{IsSend, IsSync, sendable}
use Rattle.std.proofs.Crossing.{crosses}
use Rattle.desk_locks.proofs.Crossing.{service_send, service_sync}
use Rattle.cases_served.specs.contracts.tied.Tied as Tied

pub tied_send : IsSend (Tied.the_field).row
tied_send = let a = service_send in search (crosses, sendable) depth 40

pub tied_sync : IsSync (Tied.the_field).row
tied_sync = let a = service_sync in search (crosses, sendable) depth 40
