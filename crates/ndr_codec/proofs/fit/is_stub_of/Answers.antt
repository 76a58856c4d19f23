use Rattle.std.proofs.Common.{arith}
use Rattle.rpc_base.specs.declared.identifiers.Order.TheVariants.{Little}
use Rattle.ndr_value.specs.Values.{msg}
use Rattle.ndr_laws.proofs.WrittenStubs.{stub_suits}
use Rattle.ndr_agree.specs.Views.{types_in, call_of}
use Rattle.ndr_codec.proofs.Fitting.{same_told, unread_told}
use Rattle.ndr_codec.proofs.fit.is_stub_of.Goals as goal

pub returns-in-Ok-clause-exact : goal.returns-in-Ok-clause-exact
returns-in-Ok-clause-exact c =
    let k = call_of c.args.call.now in
    same_told (types_in c.args.call.now) k.op k.way Little k.asked c.args.octets.now (msg c.in-Ok.message) k.said c.same_message.result c.in-Ok.ensures c.same_message.ensures

pub returns-in-Ok-clause-of_op : goal.returns-in-Ok-clause-of_op
returns-in-Ok-clause-of_op c =
    let k = call_of c.args.call.now in
    stub_suits (types_in c.args.call.now) k.op k.way Little k.asked c.args.octets.now k.said (λ i. omega (arith, c.type_inv.octets i))

pub returns-in-Err-clause-exact : goal.returns-in-Err-clause-exact
returns-in-Err-clause-exact c =
    let k = call_of c.args.call.now in
    unread_told (types_in c.args.call.now) k.op k.way Little k.asked c.args.octets.now c.no_message.result c.in-Err.fault k.said c.no_message.ensures c.in-Err.ensures

pub returns-in-Err-clause-of_op : goal.returns-in-Err-clause-of_op
returns-in-Err-clause-of_op c =
    let k = call_of c.args.call.now in
    stub_suits (types_in c.args.call.now) k.op k.way Little k.asked c.args.octets.now k.said (λ i. omega (arith, c.type_inv.octets i))
