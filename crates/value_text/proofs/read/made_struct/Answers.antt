use Rattle.ndr_value.proofs.Mirror.{val_struct}
use Rattle.value_text.proofs.read.made_struct.Goals as goal

pub returns : goal.returns
returns c = val_struct c.args.values
