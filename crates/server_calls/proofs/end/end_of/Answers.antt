use Rattle.ndr_value.specs.Values.{msg}
use Rattle.ndr_table.specs.Shown.{shown}
use Rattle.manager_api.specs.Answers.{ans}
use Rattle.manager_api.specs.Served.{tables_in}
use Rattle.server_calls.proofs.Saying.{says_at, op_there}
use Rattle.server_calls.proofs.end.end_of.Goals as goal

pub returns-clause-says : goal.returns-clause-says
returns-clause-says c = λ o e.
    let a = c.args.asked.now in
    let t = shown c.in-Some.table.now in
    let tables = tables_in c.args.served.now in
    says_at c.args.home tables t a o (msg c.args.message.now) c.as_slice-2.result.now c.results-results.result (ans c.args.answer) c.said-said.result
    c.in-Some.ensures c.as_slice-2.ensures (c.said-said.ensures o (op_there tables t a.iface a.op o c.in-Some.ensures e))
