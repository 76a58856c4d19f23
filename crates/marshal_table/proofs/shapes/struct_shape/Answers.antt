use Rattle.ndr_value.proofs.Mirror.{form_struct}
use Rattle.marshal_table.proofs.shapes.struct_shape.Goals as goal

pub returns : goal.returns
returns c = form_struct c.args.members
