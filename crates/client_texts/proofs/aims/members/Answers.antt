use Rattle.std.proofs.Common.{ap, ◌∙◌, sym}
use Rattle.ndr_value.specs.declared.shape.Shape.{Shape}
use Rattle.ndr_value.specs.Forms.{form, forms}
use Rattle.ndr_value.specs.Judged as judged
use Rattle.ndr_value.proofs.Mirror.{form_struct}
use Rattle.client_texts.proofs.aims.members.Goals as goal

pub returns-in-Struct : goal.returns-in-Struct
returns-in-Struct c = sym (ap (λ (s : Shape). judged.members (form s)) c.in-Struct.is ∙ ap judged.members (form_struct c.in-Struct.members) ∙ ap forms (sym c.as_slice.ensures.value))
