use Rattle.std.proofs.Common.{refl}
use Rattle.server_steps.proofs.Dealing.{quiet_same}
use Rattle.server_run.proofs.beside.run_beside.Goals as goal

pub returns-then-is_brief-clause-quiet : goal.returns-then-is_brief-clause-quiet
returns-then-is_brief-clause-quiet g c =
    let w = c.work.ensures.answers in (quiet_same c.args.line.group c.args.line.pass c.args.line.pass refl, (w.0, w.1 c.args.cookies.now c.requires.ready.row.row_is c.requires.ready.row.count))
