use Rattle.std.proofs.Common.{take}
use Rattle.std.specs.List.{flat_map}
use Rattle.idl_print.specs.Prints.{Prints}
use Rattle.idl_print.proofs.list.each.Given as goal

-- the parts before this one were printed
abbrev pub invariant-loop-part : goal.invariant-loop-part
invariant-loop-part g l = Prints (flat_map g.T.Print.pieces (take l.part-index l.parts)) l.initial.page l.page
