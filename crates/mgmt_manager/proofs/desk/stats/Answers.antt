use Rattle.std.proofs.Common.{◌≡◌, ℕ, ◌<◌, ◌^◌, [], min, sym, ap, subst, ◌∙◌, arith}
use Rattle.ndr_value.specs.Values.{Msg}
use Rattle.manager_api.specs.Answers.{AOut, ans}
use Rattle.manager_api.specs.Calls.{Owes}
use Rattle.mgmt_manager.specs.Table.{mgmt_table}
use Rattle.mgmt_manager.specs.Steps.{stats_message}
use Rattle.mgmt_manager.proofs.Owed.{stats_owe}
use Rattle.mgmt_manager.proofs.desk.stats.Goals as goal

pub returns-clause-owes : goal.returns-clause-owes
returns-clause-owes c =
    let given : ℕ = min c.args.asked 4 in
    let few : given < 2 ^ 32 = omega arith in
    let e : ans c.out.result ≡ AOut (stats_message given c.args.numbers) [] = c.out.ensures ∙ ap (λ (m : Msg). AOut m []) c.in_ok-message.ensures.values in
    λ any. subst (Owes mgmt_table 1 any) (sym e) (stats_owe any given c.args.numbers few c.in_ok-message.ensures.given c.in_ok-message.ensures.fits)
