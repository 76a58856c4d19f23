use Rattle.ndr_value.proofs.Mirror.{form_union}
use Rattle.ndr_value.proofs.copy.union_of.Goals as goal

pub returns : goal.returns
returns c = form_union c.args.tag c.args.arms
