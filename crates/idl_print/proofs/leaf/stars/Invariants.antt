use Rattle.idl_tree.specs.Pieces.{star_pieces}
use Rattle.idl_print.specs.Prints.{Prints}
use Rattle.idl_print.proofs.leaf.stars.Given as goal

abbrev pub invariant-loop-star : goal.invariant-loop-star
invariant-loop-star l = Prints (star_pieces l._star) l.initial.page l.page
