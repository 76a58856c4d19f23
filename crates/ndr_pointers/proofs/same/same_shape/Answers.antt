use Rattle.std.proofs.Common.{◌∙◌, sym}
use Rattle.ndr_value.specs.Forms.{form}
use Rattle.ndr_model.proofs.Alike.{same_is, same_of}
use Rattle.ndr_pointers.proofs.same.same_shape.Goals as goal

pub returns : goal.returns
returns c = (
  λ h. same_is (form c.args.shape.now) (form c.args.other.now) (sym c.alike.ensures ∙ h),
  λ h. c.alike.ensures ∙ same_of (form c.args.shape.now) (form c.args.other.now) h,
)
