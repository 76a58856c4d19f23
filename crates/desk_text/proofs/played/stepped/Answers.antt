use Rattle.ndr_value.specs.Values.{msg}
use Rattle.ndr_table.specs.Shown.{shown}
use Rattle.manager_api.specs.Answers.{ans}
use Rattle.desk_text.proofs.Suiting.{unsuited_follows}
use Rattle.desk_text.proofs.played.stepped.Goals as goal

pub returns-then-not-branch : goal.returns-then-not-branch
returns-then-not-branch g c =
    unsuited_follows {S = g.row.S.Denot} (shown c.args.table.now) g.S.Steps.step (record { iface = c.args.iface; op = c.args.op; message = msg c.args.message.now; cookies = c.args.cookies.now })
    c.args.state.now (ans c.in_ok-answer.answer) (ans c.unspecified.result) c.in_ok-suits.field-0 c.in_ok-answer.ensures c.in_ok-suits.ensures c.if-not-branch.true c.unspecified.ensures
