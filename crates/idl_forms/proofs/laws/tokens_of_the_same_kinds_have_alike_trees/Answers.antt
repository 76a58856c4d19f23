use Rattle.idl_forms.proofs.Top.{same_kinds}
use Rattle.idl_forms.proofs.laws.tokens_of_the_same_kinds_have_alike_trees.Goals as goal

pub returns : goal.returns
returns c = same_kinds
