use Rattle.std.proofs.Common.{sym, subst, arith, ◌∙◌}
use Rattle.rpc_base.specs.Fields.{IsOctets}
use Rattle.ndr_value.specs.Values.{msg}
use Rattle.ndr_table.specs.Shown.{shown}
use Rattle.manager_api.specs.Answers.{ans}
use Rattle.manager_api.specs.Served.{tables_in}
use Rattle.conn_histories.specs.Ends.{row_of}
use Rattle.server_calls.proofs.Facts.{Facts, kepts_suit}
use Rattle.server_calls.proofs.given.kepts_suit.Goals as goal

pub returns : goal.returns
returns c =
    let a = c.args.asked.now in
    let t = shown c.in-Some.table.now in
    let tables = tables_in c.args.served.now in
    let octets : IsOctets a.stub = subst IsOctets c.requires.stub (λ i. omega (arith, c.type_inv.stub i)) in
    let facts : Facts t = record { whole = c.is_whole.ensures; shallow = c.is_shallow.ensures; sound = c.is_sound.ensures } in
    kepts_suit tables t a.iface a.op a.order a.stub c.in-Some.ensures facts c.one_message.ensures octets (msg c.args.message.now) a.slots c.args.cookies.now (row_of c.args.cookies.now) (ans c.args.answer.now) c.requires.asked c.requires.slots c.requires.cookies c.requires.owes
