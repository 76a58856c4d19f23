use Rattle.std.proofs.Common.{◌≡◌, ◌+◌, ◌*◌, drop, map}
use Rattle.ndr_value.specs.Forms.{form, forms, types_of}
use Rattle.ndr_value.specs.Values.{vals}
use Rattle.echo_manager.specs.Met as spec
use Rattle.echo_manager.specs.Views.{flat_of}
use Rattle.echo_manager.proofs.flat.+flat.Given as goal

abbrev pub decreases-flat_value : goal.decreases-flat_value
decreases-flat_value l = 4 * l.fuel

abbrev pub decreases-flat_members : goal.decreases-flat_members
decreases-flat_members l = 4 * l.fuel + 1

abbrev pub decreases-flat_items : goal.decreases-flat_items
decreases-flat_items l = 4 * l.fuel + 1

abbrev pub decreases-flat_arm : goal.decreases-flat_arm
decreases-flat_arm l = 4 * l.fuel + 1

abbrev pub decreases-flat_struct : goal.decreases-flat_struct
decreases-flat_struct l = 4 * l.fuel + 2

abbrev pub decreases-flat_union : goal.decreases-flat_union
decreases-flat_union l = 4 * l.fuel + 2

abbrev pub decreases-flat_array : goal.decreases-flat_array
decreases-flat_array l = 4 * l.fuel + 2

abbrev pub decreases-flat_one : goal.decreases-flat_one
decreases-flat_one l = 4 * l.fuel + 3

abbrev pub invariant-flat_members-loop-member : goal.invariant-flat_members-loop-member
invariant-flat_members-loop-member l =
    let all = spec.flat_members (types_of l.types) (spec.flat (types_of l.types) l.fuel) in
    all (forms (drop l.member-index l.members)) (vals l.rest) (flat_of l.met l.behind.items) ≡ all (forms l.members) (vals l.values) (flat_of l.initial.met l.initial.behind.items)

abbrev pub invariant-flat_items-loop-value : goal.invariant-flat_items-loop-value
invariant-flat_items-loop-value l =
    let all = spec.flat_items (types_of l.types) (spec.flat (types_of l.types) l.fuel) (form l.inner) in
    all (vals (drop l.value-index l.values)) (flat_of l.met l.behind.items) ≡ all (vals l.values) (flat_of l.initial.met l.initial.behind.items)
