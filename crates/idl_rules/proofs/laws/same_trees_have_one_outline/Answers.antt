use Rattle.idl_rules.proofs.Twins.{one_outline}
use Rattle.idl_rules.proofs.laws.same_trees_have_one_outline.Goals as goal

pub returns : goal.returns
returns c = one_outline
