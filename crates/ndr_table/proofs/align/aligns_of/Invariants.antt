use Rattle.std.proofs.Common.{◌≡◌, drop, map}
use Rattle.ndr_value.specs.Forms.{form}
use Rattle.ndr_table.specs.Aligned.{aligns_past, alignments}
use Rattle.ndr_table.proofs.align.aligns_of.Given as goal

abbrev pub invariant-loop-ty : goal.invariant-loop-ty
invariant-loop-ty l = aligns_past l.aligns (map form (drop l.ty-index l.types)) ≡ alignments (map form l.types)
