use Rattle.std.proofs.Common.{◌≡◌, ◌<◌, ◌^◌, [], length, sym, ap, subst, ◌∙◌, arith}
use Rattle.ndr_value.specs.Values.{Msg}
use Rattle.manager_api.specs.Answers.{AOut, ans}
use Rattle.manager_api.specs.Calls.{Owes}
use Rattle.mgmt_manager.specs.Table.{mgmt_table}
use Rattle.mgmt_manager.specs.Steps.{ids_message}
use Rattle.mgmt_manager.proofs.Owed.{ids_owe}
use Rattle.mgmt_manager.proofs.desk.ids.Goals as goal

pub returns-clause-owes : goal.returns-clause-owes
returns-clause-owes c =
    let ids = c.as_slice.result.now in
    let few : length ids < 2 ^ 32 = omega (arith, ap length c.as_slice.ensures.value, c.as_slice.ensures.few) in
    let e : ans c.out.result ≡ AOut (ids_message ids) [] = c.out.ensures ∙ ap (λ (m : Msg). AOut m []) c.in_ok-message.ensures.values in
    λ asked. subst (Owes mgmt_table 0 asked) (sym e) (ids_owe asked ids c.in_ok-message.ensures.fits few)
