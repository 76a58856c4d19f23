use Rattle.ndr_value.proofs.Mirror.{val_array}
use Rattle.value_text.proofs.read.made_array.Goals as goal

pub returns : goal.returns
returns c = val_array c.args.values
