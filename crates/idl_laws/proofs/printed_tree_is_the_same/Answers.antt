use Rattle.idl_laws.proofs.Again.{alike_again}
use Rattle.idl_laws.proofs.printed_tree_is_the_same.Goals as goal

pub returns : goal.returns
returns c = alike_again
