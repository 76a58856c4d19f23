use Rattle.std.proofs.Common.{◌≡◌, ◌+◌, ◌-◌, ◌*◌, length, drop}
use Rattle.ndr_value.specs.Forms.{form, forms, types_of}
use Rattle.ndr_value.specs.Values.{vals}
use Rattle.value_text.specs.Reading.{read, members_on, items_on}
use Rattle.value_text.specs.Rows.{with_front}
use Rattle.value_text.proofs.read.+read.Given as goal

abbrev pub decreases-value : goal.decreases-value
decreases-value l = 8 * l.room

abbrev pub decreases-member : goal.decreases-member
decreases-member l = 8 * l.room + 1

abbrev pub decreases-item : goal.decreases-item
decreases-item l = 8 * l.room + 1

abbrev pub decreases-held_arm : goal.decreases-held_arm
decreases-held_arm l = 8 * l.room + 1

abbrev pub decreases-pointer : goal.decreases-pointer
decreases-pointer l = 8 * l.room + 1

abbrev pub decreases-members_on : goal.decreases-members_on
decreases-members_on l = 8 * l.room + 2

abbrev pub decreases-items_on : goal.decreases-items_on
decreases-items_on l = 8 * l.room + 2

abbrev pub decreases-arm_value : goal.decreases-arm_value
decreases-arm_value l = 8 * l.room + 2

abbrev pub decreases-members : goal.decreases-members
decreases-members l = 8 * l.room + 3

abbrev pub decreases-items : goal.decreases-items
decreases-items l = 8 * l.room + 3

abbrev pub decreases-union_value : goal.decreases-union_value
decreases-union_value l = 8 * l.room + 3

abbrev pub decreases-structure : goal.decreases-structure
decreases-structure l = 8 * l.room + 4

abbrev pub decreases-elements : goal.decreases-elements
decreases-elements l = 8 * l.room + 4

abbrev pub decreases-array : goal.decreases-array
decreases-array l = 8 * l.room + 5

abbrev pub decreases-step : goal.decreases-step
decreases-step l = 8 * l.room + 6

-- what was read, and what is left, give what all gives
abbrev pub invariant-members_on-loop-shape : goal.invariant-members_on-loop-shape
invariant-members_on-loop-shape l =
    let go = read (types_of l.reader.types.now) l.room l.level in
    with_front (vals l.values.items) (members_on go (forms (drop l.shape-index l.shapes)) l.rest) ≡ with_front (vals l.fn.before.items) (members_on go (forms l.shapes) l.text)

abbrev pub invariant-items_on-loop-count : goal.invariant-items_on-loop-count
invariant-items_on-loop-count l =
    let go = read (types_of l.reader.types.now) l.room l.level (form l.inner) in
    with_front (vals l.values.items) (items_on (length l.text + 2 - l.count) go l.kind l.count l.rest) ≡ with_front (vals l.fn.first.items) (items_on (length l.text + 1) go l.kind 1 l.text)
