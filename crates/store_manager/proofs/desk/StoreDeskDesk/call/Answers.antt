use Rattle.std.proofs.Common.{ℕ, sym, subst}
use Rattle.ndr_value.specs.Values.{msg}
use Rattle.manager_api.specs.Answers.{ans}
use Rattle.manager_api.specs.Arguments.{bytes_at, cookie_at}
use Rattle.manager_api.specs.Calls.{Owes}
use Rattle.store_manager.specs.Table.{store_table}
use Rattle.store_manager.specs.Steps.{open_step, append_step, close_step, view_step}
use Rattle.store_manager.proofs.Owed.{gives_owes, settled_owes, always_owes, open_owes, append_owes, close_owes, unview_owes, view_owes}
use Rattle.store_manager.proofs.desk.StoreDeskDesk.call.Goals as goal

pub returns-in-1-clause-owes : goal.returns-in-1-clause-owes
returns-in-1-clause-owes g c =
    let asked = msg c.args.message in
    let s = c.args.self.now in
    let a = ans c.or_no_memory-in-1.result in
    let cookie = cookie_at c.args.cookies 0 in
    let piece = bytes_at asked 2 in
    subst (λ (n : ℕ). Owes store_table n asked a) (sym c.in-1.is) (gives_owes 1 asked (append_step s cookie piece) s c.append.new.self c.append.result a c.append.ensures c.or_no_memory-in-1.ensures (append_owes asked s cookie piece))

pub returns-in-2-clause-owes : goal.returns-in-2-clause-owes
returns-in-2-clause-owes g c =
    let asked = msg c.args.message in
    let a = ans c.or_no_memory-in-2.result in
    subst (λ (n : ℕ). Owes store_table n asked a) (sym c.in-2.is) (subst (Owes store_table 2 asked) (sym c.or_no_memory-in-2.ensures) (settled_owes 2 asked c.read.result c.read.ensures.owes))

pub returns-in-3-clause-owes : goal.returns-in-3-clause-owes
returns-in-3-clause-owes g c =
    let asked = msg c.args.message in
    let s = c.args.self.now in
    let a = ans c.or_no_memory-in-3.result in
    let cookie = cookie_at c.args.cookies 0 in
    subst (λ (n : ℕ). Owes store_table n asked a) (sym c.in-3.is) (gives_owes 3 asked (close_step s cookie) s c.close.new.self c.close.result a c.close.ensures c.or_no_memory-in-3.ensures (close_owes asked s cookie))

pub returns-in-4-clause-owes : goal.returns-in-4-clause-owes
returns-in-4-clause-owes g c =
    let asked = msg c.args.message in
    let s = c.args.self.now in
    let a = ans c.or_no_memory-in-4.result in
    let cookie = cookie_at c.args.cookies 0 in
    subst (λ (n : ℕ). Owes store_table n asked a) (sym c.in-4.is) (gives_owes 4 asked (view_step s cookie) s c.view.new.self c.view.result a c.view.ensures c.or_no_memory-in-4.ensures (view_owes asked s cookie))

pub returns-in-5-clause-owes : goal.returns-in-5-clause-owes
returns-in-5-clause-owes g c =
    let asked = msg c.args.message in
    let a = ans c.or_no_memory-in-5.result in
    subst (λ (n : ℕ). Owes store_table n asked a) (sym c.in-5.is) (subst (Owes store_table 5 asked) (sym c.or_no_memory-in-5.ensures) (always_owes 5 asked c.size.result c.size.ensures.owes))

pub returns-in-6-clause-owes : goal.returns-in-6-clause-owes
returns-in-6-clause-owes g c =
    let asked = msg c.args.message in
    let s = c.args.self.now in
    let a = ans c.or_no_memory-in-6.result in
    let cookie = cookie_at c.args.cookies 0 in
    subst (λ (n : ℕ). Owes store_table n asked a) (sym c.in-6.is) (gives_owes 6 asked (close_step s cookie) s c.close-in-6.new.self c.close-in-6.result a c.close-in-6.ensures c.or_no_memory-in-6.ensures (unview_owes asked s cookie))

pub returns-in-0-clause-owes : goal.returns-in-0-clause-owes
returns-in-0-clause-owes g c =
    let asked = msg c.args.message in
    let s = c.args.self.now in
    let a = ans c.or_no_memory.result in
    let name = c.text_at.result.now in
    subst (λ (n : ℕ). Owes store_table n asked a) (sym c.in-0.is) (gives_owes 0 asked (open_step s name) s c.open.new.self c.open.result a c.open.ensures c.or_no_memory.ensures (open_owes asked s name))
