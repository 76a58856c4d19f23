use Rattle.std.proofs.Common.{◌≡◌, ℕ, sym, subst, arith}
use Rattle.ndr_value.specs.Values.{msg}
use Rattle.manager_api.specs.Answers.{ans}
use Rattle.manager_api.specs.Arguments.{cookie_at}
use Rattle.manager_api.specs.Calls.{Owes}
use Rattle.echo_manager.specs.Table.{probe_table}
use Rattle.echo_manager.proofs.Owed.{open_owes, close_owes}
use Rattle.echo_manager.proofs.probe.ProbeDeskDesk.call.Goals as goal

pub returns-then-op-eq0-clause-owes : goal.returns-then-op-eq0-clause-owes
returns-then-op-eq0-clause-owes g c =
    let asked = msg c.args.message in
    let a = ans c.open.result in
    subst (λ (n : ℕ). Owes probe_table n asked a) (sym c.if-op-eq0.true) (open_owes asked c.args.self.now asked (g.P.Probe.told c.open.new.probe) a c.open.new.self c.open.ensures.may)

pub returns-clause-owes : goal.returns-clause-owes
returns-clause-owes g c =
    let asked = msg c.args.message in
    let a = ans c.close.result in
    let one : c.args.op ≡ 1 = omega (arith, c.requires.number, c.if-op-eq0.false) in
    subst (λ (n : ℕ). Owes probe_table n asked a) (sym one) (close_owes asked c.args.self.now (cookie_at c.args.cookies 0) a c.close.new.self c.close.ensures.may)
