use Rattle.std.proofs.Common.{◌++◌, take}
use Rattle.std.specs.List.{flat_map}
use Rattle.idl_tokens.specs.declared.marks.Mark.TheVariants as marks
use Rattle.idl_tree.specs.Pieces.{mark_pieces}
use Rattle.idl_print.specs.Prints.{Prints}
use Rattle.idl_print.proofs.list.behind_commas.Given as goal

-- the parts before this one were printed
abbrev pub invariant-loop-part : goal.invariant-loop-part
invariant-loop-part g l = Prints (flat_map (λ y. mark_pieces marks.Comma ++ g.T.Print.pieces y) (take l.part-index l.parts)) l.initial.page l.page
