use Rattle.std.proofs.Common.{sym, subst}
use Rattle.ndr_value.specs.Values.{msg}
use Rattle.ndr_table.specs.Shown.{shown}
use Rattle.manager_api.specs.Answers.{ans}
use Rattle.echo_manager.specs.Steps.{Answers}
use Rattle.echo_manager.proofs.Said.{settled_answers, answers_owe, answers_never}
use Rattle.echo_manager.proofs.desk.EchoDeskDesk.call.Goals as goal

pub returns-clause-owes : goal.returns-clause-owes
returns-clause-owes g c =
    let t = shown c.args.self.now.table.now in
    let asked = msg c.args.message in
    let op = c.args.op in
    answers_owe t op asked (ans c.or_no_memory.result) c.requires.number (subst (Answers t op asked) (sym c.or_no_memory.ensures) (settled_answers t op asked c.answered.result c.answered.ensures))

pub returns-clause-told : goal.returns-clause-told
returns-clause-told g c =
    let t = shown c.args.self.now.table.now in
    let asked = msg c.args.message in
    let op = c.args.op in
    λ e. absurd (answers_never t op asked (ans c.or_no_memory.result) c.requires.number (subst (Answers t op asked) (sym c.or_no_memory.ensures) (settled_answers t op asked c.answered.result c.answered.ensures)) e)
