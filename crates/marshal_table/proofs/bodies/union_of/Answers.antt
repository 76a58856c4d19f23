use Rattle.std.proofs.Common.{ap, ◌∙◌}
use Rattle.ndr_value.specs.Forms.{form, OfUnion}
use Rattle.ndr_value.proofs.Mirror.{form_union}
use Rattle.marshal_table.proofs.Rows.{arm_row_is}
use Rattle.marshal_table.proofs.bodies.union_of.Goals as goal

pub returns : goal.returns
returns c = form_union c.args.tag c.args.arms ∙ ap (OfUnion (form c.args.tag.value)) (arm_row_is c.args.arms.items)
