use Rattle.ndr_value.proofs.Mirror.{val_struct}
use Rattle.desk_kit.proofs.holders.structure.Goals as goal

pub returns : goal.returns
returns c = val_struct c.args.members
