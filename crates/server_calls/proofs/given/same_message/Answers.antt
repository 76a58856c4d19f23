use Rattle.ndr_value.specs.Values.{msg}
use Rattle.ndr_table.specs.Shown.{shown}
use Rattle.manager_api.specs.Served.{tables_in}
use Rattle.server_calls.proofs.Facts.{same_message}
use Rattle.server_calls.proofs.given.same_message.Goals as goal

pub returns : goal.returns
returns c =
    let a = c.args.asked.now in
    let t = shown c.in-Some.table.now in
    let tables = tables_in c.args.served.now in
    same_message tables t a.iface a.op a.order a.stub c.in-Some.ensures c.is_whole.ensures c.is_shallow.ensures c.one_message.ensures (msg c.args.first.now) (msg c.args.second.now) c.requires.first c.requires.second
