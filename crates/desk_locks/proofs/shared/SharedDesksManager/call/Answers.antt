use Rattle.std.proofs.Common.{◌≡◌, ◌≤◌, refl, arith}
use Rattle.ndr_value.specs.Values.{msg}
use Rattle.manager_api.specs.Calls.{Call}
use Rattle.echo_manager.specs.Table.{probe_table}
use Rattle.store_manager.specs.Table.{store_table}
use Rattle.epm_manager.specs.Table.{epm_table}
use Rattle.desk_service.proofs.Serving.{on_table, at_number}
use Rattle.desk_locks.specs.Calls.{tables_of, by_probe, by_store, by_endpoints}
use Rattle.desk_locks.specs.Entering.{at_none}
use Rattle.desk_locks.proofs.shared.SharedDesksManager.call.Goals as goal

pub answer-mine-requires-clause-request : goal.answer-mine-requires-clause-request
answer-mine-requires-clause-request g c =
    let k : Call = record { iface = c.args.iface; op = c.args.op; message = msg c.args.message; cookies = c.args.cookies } in
    let tables = tables_of c.args.self.now in
    (on_table tables k probe_table c.requires.call (at_number tables c.args.iface 0 probe_table c.in-0.is refl)).request

pub answer-mine-requires-in-1-clause-request : goal.answer-mine-requires-in-1-clause-request
answer-mine-requires-in-1-clause-request g c =
    let k : Call = record { iface = c.args.iface; op = c.args.op; message = msg c.args.message; cookies = c.args.cookies } in
    let tables = tables_of c.args.self.now in
    (on_table tables k store_table c.requires.call (at_number tables c.args.iface 1 store_table c.in-1.is refl)).request

pub answer-mine-requires-in-2-clause-request : goal.answer-mine-requires-in-2-clause-request
answer-mine-requires-in-2-clause-request g c =
    let k : Call = record { iface = c.args.iface; op = c.args.op; message = msg c.args.message; cookies = c.args.cookies } in
    let tables = tables_of c.args.self.now in
    (on_table tables k epm_table c.requires.call (at_number tables c.args.iface 2 epm_table c.in-2.is refl)).request

pub answer_unkept-requires-clause-unkept : goal.answer_unkept-requires-clause-unkept
answer_unkept-requires-clause-unkept g c = let h = c.in_default in omega (arith, h)

pub returns-in-0-clause-may : goal.returns-in-0-clause-may
returns-in-0-clause-may g c = let m = c.answer-mine.ensures.may in by_probe m.before m.after c.in-0.is m.does

pub returns-in-1-clause-may : goal.returns-in-1-clause-may
returns-in-1-clause-may g c = let m = c.answer-mine-in-1.ensures.may in by_store m.before m.after c.in-1.is m.does

pub returns-in-2-clause-may : goal.returns-in-2-clause-may
returns-in-2-clause-may g c = let m = c.answer-mine-in-2.ensures.may in by_endpoints m.before m.after c.in-2.is m.does

pub returns-in_default-clause-enters : goal.returns-in_default-clause-enters
returns-in_default-clause-enters g c =
    let h = c.in_default in
    let low : 3 ≤ c.args.iface = omega (arith, h) in
    at_none low refl
