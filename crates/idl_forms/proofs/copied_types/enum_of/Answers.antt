use Rattle.idl_forms.proofs.Layers.{enum_is}
use Rattle.idl_forms.proofs.copied_types.enum_of.Goals as goal

pub returns : goal.returns
returns c = enum_is c.args.tag c.args.names
