use Rattle.std.proofs.Common.{sym, subst}
use Rattle.ndr_value.specs.Values.{msg}
use Rattle.ndr_table.specs.Shown.{shown}
use Rattle.manager_api.specs.Answers.{Ans}
use Rattle.manager_api.specs.Calls.{Call}
use Rattle.desk_text.specs.Played.{Follows}
use Rattle.desk_text.proofs.Suiting.{leads_follows}
use Rattle.desk_text.proofs.played.play.Goals as goal

pub returns : goal.returns
returns g c =
    let t = shown c.args.table.now in
    let call : Call = record { iface = c.args.iface; op = c.args.op; message = msg c.args.message.now; cookies = c.args.cookies.now } in
    subst (λ (a : Ans). Follows {S = g.row.S.Denot} t g.S.Steps.step call c.args.state.now a c.stepped.new.state) (sym c.or_no_memory.ensures)
    (leads_follows {S = g.row.S.Denot} t g.S.Steps.step call c.args.state.now c.stepped.new.state c.stepped.result c.stepped.ensures)
