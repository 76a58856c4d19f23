use Rattle.idl_forms.proofs.Made.{union_made}
use Rattle.idl_forms.proofs.copied_types.union_of.Goals as goal

pub returns : goal.returns
returns c = union_made c.args.tag c.args.switch c.args.arms
