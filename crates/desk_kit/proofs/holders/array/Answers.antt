use Rattle.ndr_value.proofs.Mirror.{val_array}
use Rattle.desk_kit.proofs.holders.array.Goals as goal

pub returns : goal.returns
returns c = val_array c.args.items
