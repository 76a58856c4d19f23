use Rattle.std.proofs.Common.{◌≡◌, ◌++◌, drop}
use Rattle.idl_outline.specs.Parts.{labels_of}
use Rattle.idl_walk.proofs.used.labels_read.Given as goal

abbrev pub invariant-loop-one : goal.invariant-loop-one
invariant-loop-one l = l.labels ++ labels_of l.outline (drop l.one-index l.list) ≡ labels_of l.outline l.list
