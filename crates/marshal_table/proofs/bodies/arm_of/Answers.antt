use Rattle.std.proofs.Common.{List, ◌++◌, map, ap, ◌∙◌}
use Rattle.std.specs.List.{flat_map, list_any}
use Rattle.ndr_value.specs.declared.shape.Shape.{Shape}
use Rattle.ndr_value.specs.Forms.{form}
use Rattle.marshal_table.specs.Bodies.{case_in, is_default, field_forms, held}
use Rattle.marshal_table.proofs.bodies.arm_of.Goals as goal

pub returns : goal.returns
returns c =
    let members = c.in_ok-add_field.ensures ∙ ap (λ (ss : List Shape). map form ss ++ field_forms c.args.names.now c.args.field.now) c.new-shapes.ensures.items in
    let cases = c.in_ok-cases.ensures ∙ ap (flat_map case_in) c.as_slice.ensures in
    let default = c.has_default-default.ensures ∙ ap (list_any is_default) c.as_slice-2.ensures in
    let shape = c.held.ensures ∙ ap held members in
    λ j. (cases j, default j, shape j)
