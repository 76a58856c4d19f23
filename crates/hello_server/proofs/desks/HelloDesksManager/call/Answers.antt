use Rattle.std.proofs.Common.{rules, ◌≡◌, ◌≢◌, List, refl, subst, arith}
use Rattle.rpc_base.specs.declared.identifiers.SyntaxId.{SyntaxId}
use Rattle.ndr_value.specs.Values.{msg}
use Rattle.ndr_table.specs.Shown.{shown}
use Rattle.manager_api.specs.Answers.{ans}
use Rattle.manager_api.specs.Calls.{Call}
use Rattle.epm_manager.specs.Table.{epm_table}
use Rattle.mgmt_manager.specs.Table.{mgmt_table}
use Rattle.mgmt_manager.specs.Steps.{Says}
use Rattle.desk_service.specs.Calls.{ids_in}
use Rattle.desk_service.proofs.Serving.{on_table, at_number}
use Rattle.hello_server.specs.Calls.{tables_with}
use Rattle.hello_server.proofs.Calling.{is_third, may_at, owed_at}
use Rattle.hello_server.proofs.desks.HelloDesksManager.call.Goals as goal

pub answer-requires-in-1-clause-request : goal.answer-requires-in-1-clause-request
answer-requires-in-1-clause-request g c =
    let k : Call = record { iface = c.args.iface; op = c.args.op; message = msg c.args.message; cookies = c.args.cookies } in
    let tables = tables_with (shown c.args.self.now.hello.table) in
    (on_table tables k epm_table c.requires.call (at_number tables c.args.iface 1 epm_table c.in-1.is refl)).request

pub manage-requires-clause-number : goal.manage-requires-clause-number
manage-requires-clause-number g c =
    let k : Call = record { iface = c.args.iface; op = c.args.op; message = msg c.args.message; cookies = c.args.cookies } in
    let hello = shown c.args.self.now.hello.table in
    let h = c.in_default in
    let p : c.args.iface ≢ 0 = omega (arith, h) in
    let q : c.args.iface ≢ 1 = omega (arith, h) in
    (on_table (tables_with hello) k mgmt_table c.requires.call (at_number (tables_with hello) c.args.iface 2 mgmt_table (is_third hello k c.requires.call p q) refl)).number

pub manage-requires-clause-request : goal.manage-requires-clause-request
manage-requires-clause-request g c =
    let k : Call = record { iface = c.args.iface; op = c.args.op; message = msg c.args.message; cookies = c.args.cookies } in
    let hello = shown c.args.self.now.hello.table in
    let h = c.in_default in
    let p : c.args.iface ≢ 0 = omega (arith, h) in
    let q : c.args.iface ≢ 1 = omega (arith, h) in
    (on_table (tables_with hello) k mgmt_table c.requires.call (at_number (tables_with hello) c.args.iface 2 mgmt_table (is_third hello k c.requires.call p q) refl)).request

pub manage-requires-clause-handles : goal.manage-requires-clause-handles
manage-requires-clause-handles g c =
    let k : Call = record { iface = c.args.iface; op = c.args.op; message = msg c.args.message; cookies = c.args.cookies } in
    let hello = shown c.args.self.now.hello.table in
    let h = c.in_default in
    let p : c.args.iface ≢ 0 = omega (arith, h) in
    let q : c.args.iface ≢ 1 = omega (arith, h) in
    (on_table (tables_with hello) k mgmt_table c.requires.call (at_number (tables_with hello) c.args.iface 2 mgmt_table (is_third hello k c.requires.call p q) refl)).handles

pub returns-in-0-clause-may : goal.returns-in-0-clause-may
returns-in-0-clause-may g c =
    let k : Call = record { iface = c.args.iface; op = c.args.op; message = msg c.args.message; cookies = c.args.cookies } in
    may_at (shown c.args.self.now.hello.table) k 0 _ _ c.in-0.is c.answer.ensures.may

pub returns-in-1-clause-may : goal.returns-in-1-clause-may
returns-in-1-clause-may g c =
    let k : Call = record { iface = c.args.iface; op = c.args.op; message = msg c.args.message; cookies = c.args.cookies } in
    may_at (shown c.args.self.now.hello.table) k 1 _ _ c.in-1.is c.answer-in-1.ensures.may

pub returns-in_default-clause-may : goal.returns-in_default-clause-may
returns-in_default-clause-may g c =
    let k : Call = record { iface = c.args.iface; op = c.args.op; message = msg c.args.message; cookies = c.args.cookies } in
    let hello = shown c.args.self.now.hello.table in
    let h = c.in_default in
    let p : c.args.iface ≢ 0 = omega (arith, h) in
    let q : c.args.iface ≢ 1 = omega (arith, h) in
    let told : c.args.self.now.ids ≡ ids_in (tables_with hello) = search rules in
    may_at hello k 2 _ _ (is_third hello k c.requires.call p q) (subst (λ (ids : List SyntaxId). Says ids (λ ns. Unit {0}) k (ans c.manage.result)) told c.manage.ensures.may)

pub returns-in_default-clause-owes : goal.returns-in_default-clause-owes
returns-in_default-clause-owes g c =
    let k : Call = record { iface = c.args.iface; op = c.args.op; message = msg c.args.message; cookies = c.args.cookies } in
    let hello = shown c.args.self.now.hello.table in
    let h = c.in_default in
    let p : c.args.iface ≢ 0 = omega (arith, h) in
    let q : c.args.iface ≢ 1 = omega (arith, h) in
    owed_at (tables_with hello) k mgmt_table (ans c.manage.result) (at_number (tables_with hello) c.args.iface 2 mgmt_table (is_third hello k c.requires.call p q) refl) c.manage.ensures.owes
