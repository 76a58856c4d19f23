-- What the service consists of may cross threads, stage by stage: one search through all of it would be too long.
use denote.Param.Send.{IsSend, IsSync, sendable}
use Rattle.std.proofs.Crossing.{crosses}
use Rattle.rpc_base.proofs.items.Items.TheSendSync.{the_send as items_send, the_sync as items_sync}
use Rattle.desk_counts.specs.contracts.tally.Tally as Tally
use Rattle.epm_manager.specs.contracts.desk.EpmDesk as Map
use Rattle.hello_desk.specs.contracts.room.Hello as Hello
use Rattle.desk_locks.proofs.Crossing.{table_send, table_sync, served_send, served_sync}
use Rattle.hello_server.specs.contracts.desks.HelloDesks as Desks
use Rattle.hello_server.specs.contracts.service.HelloService as Service

map_send : IsSend (Map.the_field).row
map_send = search (crosses, items_send, sendable) depth 40

hello_send : IsSend (Hello.the_field).row
hello_send = search sendable depth 40

tally_send : IsSend (Tally.the_field).row
tally_send = search sendable depth 40

tally_sync : IsSync (Tally.the_field).row
tally_sync = search (crosses, sendable) depth 40

pub desks_send : IsSend (Desks.the_field).row
desks_send =
    let a = table_send in
    let b = map_send in
    let c = hello_send in
    let d = tally_send in
    let e = tally_sync in
    search (crosses, items_send, sendable) depth 40

pub desks_sync : IsSync (Desks.the_field).row
desks_sync =
    let a = table_sync in
    let b = map_send in
    let c = hello_send in
    let d = tally_send in
    let e = tally_sync in
    search (crosses, items_sync, sendable) depth 40

pub service_send : IsSend (Service.the_field).row
service_send = let a = desks_send in let b = served_send in search (crosses, sendable) depth 40

pub service_sync : IsSync (Service.the_field).row
service_sync = let a = desks_sync in let b = served_sync in search (crosses, sendable) depth 40
