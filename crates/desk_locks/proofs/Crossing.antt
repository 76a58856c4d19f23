-- What the services consist of may cross threads, stage by stage: one search through all of it would be too long.
use denote.RattleType.{RattleType}
use denote.Param.Send.{IsSend, IsSync, sendable}
use Rattle.std.proofs.Crossing.{crosses}
use Rattle.std.proofs.MapsCrossing.{crosses as maps}
use Rattle.rpc_base.proofs.items.Items.TheSendSync.{the_send as items_send, the_sync as items_sync}
use Rattle.ndr_value.proofs.shape.Shape.TheLaws.TheKnot.{crosses as shapes}
use Rattle.ndr_table.specs.contracts.operation.Param as Param
use Rattle.ndr_table.specs.contracts.operation.Op as Op
use Rattle.ndr_table.specs.contracts.table.Table as Table
use Rattle.manager_api.specs.contracts.served.Served as Served
use Rattle.echo_manager.specs.contracts.probe.ProbeDesk as Probe
use Rattle.store_manager.specs.contracts.desk.StoreDesk as Store
use Rattle.epm_manager.specs.contracts.desk.EpmDesk as Map
use Rattle.desk_counts.specs.contracts.tally.Tally as Tally
use Rattle.atomic_table.proofs.shared.Seat.TheSendSync.{the_send as seat_send}
use Rattle.turn_lock.proofs.lock.TurnLock.TheSendSync.{the_field_send as lock_send, the_field_sync as lock_sync}
use Rattle.manager_api.specs.declared.desk.FixedDesk.{Ghosts as Fixed}
use Rattle.manager_api.specs.declared.desk.Desk.{Ghosts as Answering}
use Rattle.handle_model.specs.declared.due.Rundown.{Ghosts as Running}
use Rattle.desk_told.specs.contracts.state.DeskState as State
use Rattle.desk_told.specs.contracts.desk.ToldDesk as Told
use Rattle.desk_locks.specs.contracts.pass.SharedPass as Passes
use Rattle.desk_locks.specs.contracts.shared.SharedDesks as Desks
use Rattle.desk_locks.specs.contracts.service.DeskService as Service

-- ---- tables

param_send : IsSend (Param.the_field).row
param_send = search (crosses, shapes, items_send, sendable) depth 40

param_sync : IsSync (Param.the_field).row
param_sync = search (crosses, shapes, items_sync, sendable) depth 40

op_send : IsSend (Op.the_field).row
op_send = let a = param_send in search (crosses, shapes, items_send, sendable) depth 40 fits 20000

op_sync : IsSync (Op.the_field).row
op_sync = let a = param_sync in search (crosses, shapes, items_sync, sendable) depth 40 fits 20000

pub table_send : IsSend (Table.the_field).row
table_send = let a = op_send in search (crosses, shapes, items_send, sendable) depth 40 fits 20000

pub table_sync : IsSync (Table.the_field).row
table_sync = let a = op_sync in search (crosses, shapes, items_sync, sendable) depth 40 fits 20000

pub served_send : IsSend (Served.the_field).row
served_send = let a = table_send in search (crosses, sendable) depth 40

pub served_sync : IsSync (Served.the_field).row
served_sync = let a = table_sync in search (crosses, sendable) depth 40

-- ---- desks

probe_send : IsSend (Probe.the_field).row
probe_send = search sendable depth 40

store_send : IsSend (Store.the_field).row
store_send = search (crosses, maps, items_send, sendable) depth 40

map_send : IsSend (Map.the_field).row
map_send = search (crosses, items_send, sendable) depth 40

tally_send : IsSend (Tally.the_field).row
tally_send = search sendable depth 40

tally_sync : IsSync (Tally.the_field).row
tally_sync = search (crosses, sendable) depth 40

state_send : (D : RattleType) → IsSend D → IsSend (State.the_row D)
state_send D s = search (crosses, sendable) depth 40

told_send : (D : RattleType) (f : Fixed D.Denot) (a : Answering D.Denot) (r : Running D.Denot) → IsSend D → IsSend (Told.the_field D f a r).row
told_send D f a r s = let t = state_send D s in search (crosses, lock_send, sendable) depth 40

told_sync : (D : RattleType) (f : Fixed D.Denot) (a : Answering D.Denot) (r : Running D.Denot) → IsSend D → IsSync (Told.the_field D f a r).row
told_sync D f a r s = let t = state_send D s in search (crosses, lock_sync, sendable) depth 40

pub desks_send : IsSend (Desks.the_field).row
desks_send =
    let a = table_send in
    let b = store_send in
    let c = map_send in
    let d = tally_send in
    let e = tally_sync in
    let f = probe_send in
    search (crosses, items_send, told_send, sendable) depth 40

pub desks_sync : IsSync (Desks.the_field).row
desks_sync =
    let a = table_sync in
    let b = store_send in
    let c = map_send in
    let d = tally_send in
    let e = tally_sync in
    let f = probe_send in
    search (crosses, items_sync, told_sync, sendable) depth 40

-- ---- the service

pub service_send : IsSend (Service.the_field).row
service_send = let a = desks_send in let b = served_send in search (crosses, sendable) depth 40

pub service_sync : IsSync (Service.the_field).row
service_sync = let a = desks_sync in let b = served_sync in search (crosses, sendable) depth 40

-- ---- passes

pub passes_send : IsSend (Passes.the_field).row
passes_send =
    let a : IsSend (State.the_row (Probe.the_field).row) = state_send (Probe.the_field).row probe_send in
    let b : IsSend (State.the_row (Store.the_field).row) = state_send (Store.the_field).row store_send in
    let c : IsSend (State.the_row (Map.the_field).row) = state_send (Map.the_field).row map_send in
    search (crosses, seat_send, sendable) depth 40
