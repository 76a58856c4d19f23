use Rattle.std.proofs.Common.{◌≡◌, ◌+◌, ◌*◌, drop}
use Rattle.ndr_value.specs.Forms.{form, forms}
use Rattle.ndr_value.specs.Values.{vals}
use Rattle.ndr_agree.specs.Views.{types_in, call_of}
use Rattle.ndr_model.specs.Written as spec
use Rattle.ndr_write.specs.Views.{followed, piece_of}
use Rattle.ndr_write.proofs.flat.+flat.Given as goal

abbrev pub decreases-flat_value : goal.decreases-flat_value
decreases-flat_value l = 4 * l.fuel

abbrev pub decreases-flat_members : goal.decreases-flat_members
decreases-flat_members l = 4 * l.fuel + 1

abbrev pub decreases-flat_elements : goal.decreases-flat_elements
decreases-flat_elements l = 4 * l.fuel + 1

abbrev pub decreases-flat_arm : goal.decreases-flat_arm
decreases-flat_arm l = 4 * l.fuel + 1

abbrev pub decreases-flat_struct : goal.decreases-flat_struct
decreases-flat_struct l = 4 * l.fuel + 2

abbrev pub decreases-flat_union : goal.decreases-flat_union
decreases-flat_union l = 4 * l.fuel + 2

abbrev pub decreases-flat_array : goal.decreases-flat_array
decreases-flat_array l = 4 * l.fuel + 2

abbrev pub decreases-flat_one : goal.decreases-flat_one
decreases-flat_one l = 4 * l.fuel + 3

-- what is left, behind what is written, is what all is behind what was written before
abbrev pub invariant-flat_members-loop-value : goal.invariant-flat_members-loop-value
invariant-flat_members-loop-value l =
    let go = spec.flat (types_in l.writer.call) l.writer.order (call_of l.writer.call) l.fuel in
    let all = spec.members (types_in l.writer.call) l.writer.order (call_of l.writer.call) go (vals l.values) l.moved in
    followed (piece_of l.out l.behind.items) (all (forms l.rest) (vals (drop l.value-index l.values))) ≡ followed (piece_of l.initial.out l.initial.behind.items) (all (forms l.members) (vals l.values))

abbrev pub invariant-flat_elements-loop-value : goal.invariant-flat_elements-loop-value
invariant-flat_elements-loop-value l =
    let go = spec.flat (types_in l.writer.call) l.writer.order (call_of l.writer.call) l.fuel in
    let all = spec.elements (types_in l.writer.call) l.writer.order (call_of l.writer.call) go (vals l.body) (form l.inner) in
    followed (piece_of l.out l.behind.items) (all (vals (drop l.value-index l.values))) ≡ followed (piece_of l.initial.out l.initial.behind.items) (all (vals l.values))
