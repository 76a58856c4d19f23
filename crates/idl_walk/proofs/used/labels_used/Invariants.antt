use Rattle.std.proofs.Common.{◌≡◌, drop}
use Rattle.idl_outline.specs.Parts.{labels_past}
use Rattle.idl_walk.proofs.used.labels_used.Given as goal

abbrev pub invariant-loop-one : goal.invariant-loop-one
invariant-loop-one l = labels_past (drop l.one-index l.list) l.outline ≡ labels_past l.list l.initial.outline
