use Rattle.idl_check.proofs.First.{kept_copy}
use Rattle.idl_check.proofs.checked.Checked.copy_of.Goals as goal

pub invariant_of-result : goal.invariant_of-result
invariant_of-result c = kept_copy c.in_ok-tree.tree c.args.tree.now c.args.outline c.in_ok-tree.ensures c.requires.sound c.requires.outlined
