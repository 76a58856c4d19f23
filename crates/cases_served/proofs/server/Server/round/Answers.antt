use denote.Param.Send.{sendable}
use Rattle.std.proofs.Crossing.{crosses}
use Rattle.desk_locks.proofs.Crossing.{passes_send}
use Rattle.cases_served.proofs.Crossing.{tied_send, tied_sync}
use Rattle.cases_served.proofs.server.Server.round.Goals as goal

pub serve-round-requires-send-S : goal.serve-round-requires-send-S
serve-round-requires-send-S g c κs = let a = tied_send in search (crosses, sendable) depth 40

pub serve-round-requires-send-S-Pass : goal.serve-round-requires-send-S-Pass
serve-round-requires-send-S-Pass g c κs within = let a = passes_send in search (crosses, sendable) depth 40

pub serve-round-requires-sync-S : goal.serve-round-requires-sync-S
serve-round-requires-sync-S g c κs = let a = tied_sync in search (crosses, sendable) depth 40
