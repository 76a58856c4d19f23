use Rattle.std.proofs.Common.{ap, ◌∙◌}
use Rattle.ndr_value.specs.Forms.{OfStruct}
use Rattle.marshal_table.proofs.Rows.{row_is}
use Rattle.marshal_table.proofs.bodies.struct_of.Goals as goal

pub returns : goal.returns
returns c = c.struct_shape.ensures ∙ ap OfStruct (row_is c.args.members.items)
