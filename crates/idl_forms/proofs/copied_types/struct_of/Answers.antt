use Rattle.idl_forms.proofs.Made.{struct_made}
use Rattle.idl_forms.proofs.copied_types.struct_of.Goals as goal

pub returns : goal.returns
returns c = struct_made c.args.tag c.args.members
