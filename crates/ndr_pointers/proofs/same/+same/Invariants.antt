use Rattle.std.proofs.Common.{◌≡◌, drop}
use Rattle.ndr_value.specs.Forms.{forms, arms_of}
use Rattle.ndr_model.specs.Same.{same_each, same_arms}
use Rattle.ndr_pointers.proofs.same.+same.Given as goal

abbrev pub invariant-each_alike-loop-shape : goal.invariant-each_alike-loop-shape
invariant-each_alike-loop-shape l = same_each (forms (drop l.shape-index l.shapes)) (forms l.rest) ≡ same_each (forms l.shapes) (forms l.others)

abbrev pub invariant-arms_alike-loop-arm : goal.invariant-arms_alike-loop-arm
invariant-arms_alike-loop-arm l = same_arms (arms_of (drop l.arm-index l.arms)) (arms_of l.rest) ≡ same_arms (arms_of l.arms) (arms_of l.others)
