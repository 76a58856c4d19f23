use Rattle.std.proofs.Common.{◌≡◌, map, take}
use Rattle.ndr_value.specs.Forms.{form, face}
use Rattle.ndr_value.proofs.copy.+copy.Given as goal

abbrev pub invariant-each_copied-loop-shape : goal.invariant-each_copied-loop-shape
invariant-each_copied-loop-shape l = map form l.copies.items ≡ map form (take l.shape-index l.shapes)

abbrev pub invariant-arms_copied-loop-arm : goal.invariant-arms_copied-loop-arm
invariant-arms_copied-loop-arm l = map face l.copies.items ≡ map face (take l.arm-index l.arms)
