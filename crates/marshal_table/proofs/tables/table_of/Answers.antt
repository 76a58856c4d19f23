use Rattle.std.proofs.Common.{◌<◌, map, length, arith}
use Rattle.std.proofs.lemmas.List.{length-map}
use Rattle.ndr_value.specs.Forms.{types_of}
use Rattle.ndr_table.specs.Tables.{op_form}
use Rattle.marshal_table.proofs.Making.{made}
use Rattle.marshal_table.proofs.tables.table_of.Goals as goal

pub of-requires : goal.of-requires
of-requires c =
    let all = length-map c.in_ok-draft.draft.ops.items op_form in
    let count = c.len.ensures in
    let least = c.if-len-gt65535.false in
    let few : length (map op_form c.in_ok-draft.draft.ops.items) < 65536 = omega (arith, all, count, least) in
    made c.args.tree.now c.args.events.now (types_of c.in_ok-draft.draft.types.items) (map op_form c.in_ok-draft.draft.ops.items) c.in_ok-draft.draft.uses.items
    c.requires c.in_ok-draft.ensures.types c.in_ok-draft.ensures.ops c.in_ok-draft.ensures.uses few c.in_ok-draft.ensures.few
