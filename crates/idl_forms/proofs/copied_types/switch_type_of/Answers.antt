use Rattle.idl_forms.proofs.Layers.{switch_type_is}
use Rattle.idl_forms.proofs.copied_types.switch_type_of.Goals as goal

pub returns : goal.returns
returns c = switch_type_is c.args.spec
