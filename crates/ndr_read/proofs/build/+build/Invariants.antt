use Rattle.std.proofs.Common.{◌≡◌, ◌+◌, ◌*◌, ◌-◌, None, length, drop}
use Rattle.ndr_value.specs.Forms.{form, forms}
use Rattle.ndr_value.specs.Values.{vals}
use Rattle.ndr_model.specs.Build.{build, built_each, built_times}
use Rattle.ndr_pointers.specs.Views.{types_in}
use Rattle.ndr_read.specs.Views.{cursor_of, last_of}
use Rattle.ndr_read.proofs.Rows.{with_front}
use Rattle.ndr_read.proofs.build.+build.Given as goal

abbrev pub decreases-build_value : goal.decreases-build_value
decreases-build_value l = 8 * l.fuel

abbrev pub decreases-build_each : goal.decreases-build_each
decreases-build_each l = 8 * l.fuel + 1

abbrev pub decreases-build_times : goal.decreases-build_times
decreases-build_times l = 8 * l.fuel + 1

abbrev pub decreases-build_arm : goal.decreases-build_arm
decreases-build_arm l = 8 * l.fuel + 1

abbrev pub decreases-build_alone : goal.decreases-build_alone
decreases-build_alone l = 8 * l.fuel + 1

abbrev pub decreases-build_whole : goal.decreases-build_whole
decreases-build_whole l = 8 * l.fuel + 2

abbrev pub decreases-build_members : goal.decreases-build_members
decreases-build_members l = 8 * l.fuel + 2

abbrev pub decreases-build_union : goal.decreases-build_union
decreases-build_union l = 8 * l.fuel + 2

abbrev pub decreases-build_each_item : goal.decreases-build_each_item
decreases-build_each_item l = 8 * l.fuel + 2

abbrev pub decreases-build_referent : goal.decreases-build_referent
decreases-build_referent l = 8 * l.fuel + 3

abbrev pub decreases-build_struct : goal.decreases-build_struct
decreases-build_struct l = 8 * l.fuel + 3

abbrev pub decreases-build_items : goal.decreases-build_items
decreases-build_items l = 8 * l.fuel + 3

abbrev pub decreases-build_ref : goal.decreases-build_ref
decreases-build_ref l = 8 * l.fuel + 4

abbrev pub decreases-build_unique : goal.decreases-build_unique
decreases-build_unique l = 8 * l.fuel + 4

abbrev pub decreases-build_new : goal.decreases-build_new
decreases-build_new l = 8 * l.fuel + 4

abbrev pub decreases-build_array : goal.decreases-build_array
decreases-build_array l = 8 * l.fuel + 4

abbrev pub decreases-build_known : goal.decreases-build_known
decreases-build_known l = 8 * l.fuel + 5

abbrev pub decreases-build_full : goal.decreases-build_full
decreases-build_full l = 8 * l.fuel + 6

abbrev pub decreases-build_one : goal.decreases-build_one
decreases-build_one l = 8 * l.fuel + 7

-- what was built, and what is left, give what all gives
abbrev pub invariant-build_each-loop-shape : goal.invariant-build_each-loop-shape
invariant-build_each-loop-shape l =
    let go = build (types_in l.reader) l.reader.order l.reader.octets.now l.fuel l.room in
    (l.left + l.shape-index ≡ length l.shapes)
    × (with_front (vals l.values.items) (built_each go l.own (forms (drop l.shape-index l.shapes)) (cursor_of l.flat) (last_of l.tail)) ≡ built_each go l.own (forms l.shapes) (cursor_of l.initial.flat) (last_of l.initial.tail))

abbrev pub invariant-build_times-loop : goal.invariant-build_times-loop
invariant-build_times-loop l =
    let go = build (types_in l.reader) l.reader.order l.reader.octets.now l.fuel l.room None (form l.shape) in
    with_front (vals l.values.items) (built_times go (l.count - l.counter) (cursor_of l.flat) (last_of l.tail)) ≡ built_times go l.count (cursor_of l.initial.flat) (last_of l.initial.tail)
