use denote.Param.Send.{sendable}
use Rattle.std.proofs.Crossing.{crosses}
use Rattle.hello_server.proofs.Crossing.{service_send, service_sync}
use Rattle.hello_server.proofs.service.HelloService.new.Goals as goal

pub shared-requires-send-S : goal.shared-requires-send-S
shared-requires-send-S c κs = let a = service_send in search (crosses, sendable) depth 40

pub shared-requires-sync-S : goal.shared-requires-sync-S
shared-requires-sync-S c κs = let a = service_sync in search (crosses, sendable) depth 40
