use Rattle.idl_rules.proofs.Twins.{broken_too}
use Rattle.idl_rules.proofs.laws.same_trees_break_the_same_rules.Goals as goal

pub returns : goal.returns
returns c = broken_too
