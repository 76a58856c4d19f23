use Rattle.std.proofs.Common.{ℕ, sym, subst}
use Rattle.std.specs.Prelude.{◌==◌, not}
use Rattle.ndr_value.specs.Values.{msg}
use Rattle.manager_api.specs.Answers.{ans}
use Rattle.manager_api.specs.Arguments.{uint_at, cookie_at}
use Rattle.manager_api.specs.Messages.{IsRequest}
use Rattle.manager_api.specs.Calls.{Owes}
use Rattle.epm_manager.specs.Asked.{entries_at, lookup_wants, map_wants}
use Rattle.epm_manager.specs.Steps.{insert_step, delete_step, lookup_step, map_step, free_step}
use Rattle.epm_manager.specs.Table.{epm_table}
use Rattle.epm_manager.proofs.Owed.{gives_owes, insert_owes, delete_owes, lookup_owes, map_owes, free_owes}
use Rattle.epm_manager.proofs.desk.EpmDeskDesk.call.Goals as goal

pub returns-in-0-clause-owes : goal.returns-in-0-clause-owes
returns-in-0-clause-owes g c =
    let asked = msg c.args.message in
    let s = c.args.self.now in
    let a = ans c.or_no_memory.result in
    let replace = not (uint_at asked 2 == 0) in
    subst (λ (n : ℕ). Owes epm_table n asked a) (sym c.in-0.is)
    (gives_owes 0 asked (insert_step s replace (entries_at asked)) s c.insert.new.self c.insert.result a c.insert.ensures c.or_no_memory.ensures (insert_owes asked s replace (entries_at asked)))

pub returns-in-1-clause-owes : goal.returns-in-1-clause-owes
returns-in-1-clause-owes g c =
    let asked = msg c.args.message in
    let s = c.args.self.now in
    let a = ans c.or_no_memory-in-1.result in
    subst (λ (n : ℕ). Owes epm_table n asked a) (sym c.in-1.is)
    (gives_owes 1 asked (delete_step s (entries_at asked)) s c.delete.new.self c.delete.result a c.delete.ensures c.or_no_memory-in-1.ensures (delete_owes asked s (entries_at asked)))

pub returns-in-2-clause-owes : goal.returns-in-2-clause-owes
returns-in-2-clause-owes g c =
    let asked = msg c.args.message in
    let s = c.args.self.now in
    let a = ans c.or_no_memory-in-2.result in
    let cookie = cookie_at c.args.cookies 0 in
    let request = subst (λ (n : ℕ). IsRequest epm_table n asked) c.in-2.is c.requires.request in
    subst (λ (n : ℕ). Owes epm_table n asked a) (sym c.in-2.is)
    (gives_owes 2 asked (lookup_step s cookie (lookup_wants asked) (uint_at asked 5)) s c.lookup.new.self c.lookup.result a c.lookup.ensures.gives c.or_no_memory-in-2.ensures (lookup_owes asked s cookie (lookup_wants asked) request c.lookup.ensures.whole.typed c.lookup.ensures.whole.notes))

pub returns-in-3-clause-owes : goal.returns-in-3-clause-owes
returns-in-3-clause-owes g c =
    let asked = msg c.args.message in
    let s = c.args.self.now in
    let a = ans c.or_no_memory-in-3.result in
    let cookie = cookie_at c.args.cookies 0 in
    let request = subst (λ (n : ℕ). IsRequest epm_table n asked) c.in-3.is c.requires.request in
    subst (λ (n : ℕ). Owes epm_table n asked a) (sym c.in-3.is)
    (gives_owes 3 asked (map_step s cookie (map_wants asked) (uint_at asked 3)) s c.map.new.self c.map.result a c.map.ensures.gives c.or_no_memory-in-3.ensures (map_owes asked s cookie (map_wants asked) request c.map.ensures.whole.typed c.map.ensures.whole.notes))

pub returns-in-4-clause-owes : goal.returns-in-4-clause-owes
returns-in-4-clause-owes g c =
    let asked = msg c.args.message in
    let s = c.args.self.now in
    let a = ans c.or_no_memory-in-4.result in
    let cookie = cookie_at c.args.cookies 0 in
    subst (λ (n : ℕ). Owes epm_table n asked a) (sym c.in-4.is)
    (gives_owes 4 asked (free_step s cookie) s c.free.new.self c.free.result a c.free.ensures c.or_no_memory-in-4.ensures (free_owes asked s cookie))
