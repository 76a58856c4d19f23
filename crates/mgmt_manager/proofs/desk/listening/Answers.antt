use Rattle.std.proofs.Common.{◌≡◌, [], sym, ap, subst, ◌∙◌}
use Rattle.ndr_value.specs.Values.{Msg}
use Rattle.manager_api.specs.Answers.{AOut, ans}
use Rattle.manager_api.specs.Calls.{Owes}
use Rattle.mgmt_manager.specs.Table.{mgmt_table}
use Rattle.mgmt_manager.specs.Steps.{listening_message}
use Rattle.mgmt_manager.proofs.Owed.{listening_owe}
use Rattle.mgmt_manager.proofs.desk.listening.Goals as goal

pub returns-clause-owes : goal.returns-clause-owes
returns-clause-owes c =
    let e : ans c.out.result ≡ AOut listening_message [] = c.out.ensures ∙ ap (λ (m : Msg). AOut m []) c.in_ok-message.ensures in
    λ asked. subst (Owes mgmt_table 2 asked) (sym e) (listening_owe asked)
