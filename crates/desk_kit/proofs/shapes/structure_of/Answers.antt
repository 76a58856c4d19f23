use Rattle.ndr_value.proofs.Mirror.{form_struct}
use Rattle.desk_kit.proofs.shapes.structure_of.Goals as goal

pub returns : goal.returns
returns c = form_struct c.args.members
