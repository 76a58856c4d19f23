use Rattle.std.proofs.Common.{ℕ, sym, subst}
use Rattle.ndr_value.specs.Values.{msg}
use Rattle.manager_api.specs.Answers.{ans}
use Rattle.manager_api.specs.Calls.{Owes}
use Rattle.mgmt_manager.specs.Table.{mgmt_table}
use Rattle.mgmt_manager.proofs.Owed.{always_owes}
use Rattle.mgmt_manager.proofs.desk.MgmtDeskDesk.call.Goals as goal

pub returns-in-0-clause-owes : goal.returns-in-0-clause-owes
returns-in-0-clause-owes g c =
    let asked = msg c.args.message in
    let a = ans c.or_no_memory.result in
    subst (λ (n : ℕ). Owes mgmt_table n asked a) (sym c.in-0.is) (subst (Owes mgmt_table 0 asked) (sym c.or_no_memory.ensures) (always_owes 0 asked c.ids.result c.ids.ensures.owes))

pub returns-in-1-clause-owes : goal.returns-in-1-clause-owes
returns-in-1-clause-owes g c =
    let asked = msg c.args.message in
    let a = ans c.or_no_memory-in-1.result in
    subst (λ (n : ℕ). Owes mgmt_table n asked a) (sym c.in-1.is) (subst (Owes mgmt_table 1 asked) (sym c.or_no_memory-in-1.ensures) (always_owes 1 asked c.stats.result c.stats.ensures.owes))

pub returns-in-2-clause-owes : goal.returns-in-2-clause-owes
returns-in-2-clause-owes g c =
    let asked = msg c.args.message in
    let a = ans c.or_no_memory-in-2.result in
    subst (λ (n : ℕ). Owes mgmt_table n asked a) (sym c.in-2.is) (subst (Owes mgmt_table 2 asked) (sym c.or_no_memory-in-2.ensures) (always_owes 2 asked c.listening.result c.listening.ensures.owes))
