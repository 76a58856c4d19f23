use Rattle.std.proofs.Common.{◌≡◌, ap, ◌∙◌, refl, sym, subst, true}
use Rattle.ndr_value.specs.declared.shape.Shape.{Shape}
use Rattle.ndr_value.specs.Forms.{form, forms}
use Rattle.ndr_value.specs.Judged.{is_struct, members}
use Rattle.ndr_value.proofs.Mirror.{form_struct}
use Rattle.ndr_value.proofs.parts.struct_shapes.Goals as goal

pub returns-in-Struct : goal.returns-in-Struct
returns-in-Struct c = (
  subst (λ (s : Shape). is_struct (form s) ≡ true) (sym c.in-Struct.is) refl,
  ap (λ (s : Shape). members (form s)) c.in-Struct.is ∙ ap members (form_struct c.in-Struct.members) ∙ ap forms (sym c.as_slice.ensures.value),
)
