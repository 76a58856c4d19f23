use Rattle.std.proofs.Common.{◌≡◌, ◌≢◌, Some, refl, ap, arith}
use Rattle.ndr_table.specs.declared.table.Table.{Table}
use Rattle.ndr_table.specs.Shown.{shown}
use Rattle.ndr_value.specs.Values.{msg}
use Rattle.manager_api.specs.Calls.{Call}
use Rattle.mgmt_manager.specs.Table.{mgmt_table}
use Rattle.desk_service.specs.Shows.{shown_by}
use Rattle.desk_service.specs.Start.{at_start}
use Rattle.desk_service.proofs.Serving.{on_table, at_number, on_echo}
use Rattle.desk_locks.specs.Calls.{echo_of, tables_of, by_echo}
use Rattle.desk_locks.proofs.shared.SharedDesks.answer_unkept.Goals as goal

pub manage-requires-clause-request : goal.manage-requires-clause-request
manage-requires-clause-request g c =
    let k : Call = record { iface = c.args.iface; op = c.args.op; message = msg c.args.message; cookies = c.args.cookies } in
    let tables = tables_of c.args.self.now in
    (on_table tables k mgmt_table c.requires.call (at_number tables c.args.iface 3 mgmt_table c.in-3.is refl)).request

pub echo-requires-clause-request : goal.echo-requires-clause-request
echo-requires-clause-request g c =
    let k : Call = record { iface = c.args.iface; op = c.args.op; message = msg c.args.message; cookies = c.args.cookies } in
    let h = c.in_default in
    let u = c.requires.unkept in
    let p : c.args.iface ≢ 0 = omega (arith, u) in
    let q : c.args.iface ≢ 1 = omega (arith, u) in
    let r : c.args.iface ≢ 2 = omega (arith, u) in
    let v : c.args.iface ≢ 3 = omega (arith, h) in
    let is : echo_of c.args.self.now ≡ Some (shown c.in-Some.table) = ap (shown_by (λ (t : Table). t)) c.in-Some.is in
    let on = on_echo (at_start (echo_of c.args.self.now)) k (shown c.in-Some.table) p q r v c.requires.call is in
    on.1.request

pub returns-in-Some-clause-may : goal.returns-in-Some-clause-may
returns-in-Some-clause-may g c =
    let k : Call = record { iface = c.args.iface; op = c.args.op; message = msg c.args.message; cookies = c.args.cookies } in
    let h = c.in_default in
    let u = c.requires.unkept in
    let p : c.args.iface ≢ 0 = omega (arith, u) in
    let q : c.args.iface ≢ 1 = omega (arith, u) in
    let r : c.args.iface ≢ 2 = omega (arith, u) in
    let v : c.args.iface ≢ 3 = omega (arith, h) in
    let is : echo_of c.args.self.now ≡ Some (shown c.in-Some.table) = ap (shown_by (λ (t : Table). t)) c.in-Some.is in
    let on = on_echo (at_start (echo_of c.args.self.now)) k (shown c.in-Some.table) p q r v c.requires.call is in
    by_echo (shown c.in-Some.table) on.0 is c.echo.ensures.may
