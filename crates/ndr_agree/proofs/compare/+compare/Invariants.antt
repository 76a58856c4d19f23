use Rattle.std.proofs.Common.{◌≡◌, ◌+◌, ◌*◌, drop}
use Rattle.ndr_value.specs.Forms.{form, forms}
use Rattle.ndr_value.specs.Values.{vals, bytes}
use Rattle.ndr_model.specs.Compare as spec
use Rattle.ndr_agree.specs.Views.{types_in, call_of, check_of}
use Rattle.ndr_agree.proofs.compare.+compare.Given as goal

abbrev pub decreases-compare_value : goal.decreases-compare_value
decreases-compare_value l = 8 * l.fuel

abbrev pub decreases-compare_each : goal.decreases-compare_each
decreases-compare_each l = 8 * l.fuel + 1

abbrev pub decreases-compare_named : goal.decreases-compare_named
decreases-compare_named l = 8 * l.fuel + 1

abbrev pub decreases-compare_arm : goal.decreases-compare_arm
decreases-compare_arm l = 8 * l.fuel + 1

abbrev pub decreases-compare_elements : goal.decreases-compare_elements
decreases-compare_elements l = 8 * l.fuel + 1

abbrev pub decreases-compare_octets : goal.decreases-compare_octets
decreases-compare_octets l = 8 * l.fuel + 1

abbrev pub decreases-compare_referent : goal.decreases-compare_referent
decreases-compare_referent l = 8 * l.fuel + 1

abbrev pub decreases-compare_known : goal.decreases-compare_known
decreases-compare_known l = 8 * l.fuel + 2

abbrev pub decreases-compare_item : goal.decreases-compare_item
decreases-compare_item l = 8 * l.fuel + 3

abbrev pub decreases-compare_struct : goal.decreases-compare_struct
decreases-compare_struct l = 8 * l.fuel + 4

abbrev pub decreases-compare_union : goal.decreases-compare_union
decreases-compare_union l = 8 * l.fuel + 4

abbrev pub decreases-compare_array : goal.decreases-compare_array
decreases-compare_array l = 8 * l.fuel + 4

abbrev pub decreases-compare_unique : goal.decreases-compare_unique
decreases-compare_unique l = 8 * l.fuel + 4

abbrev pub decreases-compare_full : goal.decreases-compare_full
decreases-compare_full l = 8 * l.fuel + 4

abbrev pub decreases-compare_one : goal.decreases-compare_one
decreases-compare_one l = 8 * l.fuel + 5

-- what is left, from what was found so far, gives what all gives
abbrev pub invariant-compare_each-loop-value : goal.invariant-compare_each-loop-value
invariant-compare_each-loop-value l =
    let go = spec.compare (types_in l.call) (call_of l.call) l.fuel l.room in
    spec.compare_each go (vals l.values) l.own (forms l.rest) (vals (drop l.value-index l.values)) (check_of l.check) ≡ spec.compare_each go (vals l.values) l.own (forms l.members) (vals l.values) (check_of l.initial.check)

abbrev pub invariant-compare_elements-loop-value : goal.invariant-compare_elements-loop-value
invariant-compare_elements-loop-value l =
    let go = spec.compare (types_in l.call) (call_of l.call) l.fuel l.room in
    spec.compare_all go (vals l.body) (form l.inner) (vals (drop l.value-index l.values)) (check_of l.check) ≡ spec.compare_all go (vals l.body) (form l.inner) (vals l.values) (check_of l.initial.check)

abbrev pub invariant-compare_octets-loop-octet : goal.invariant-compare_octets-loop-octet
invariant-compare_octets-loop-octet l =
    let go = spec.compare (types_in l.call) (call_of l.call) l.fuel l.room in
    spec.compare_all go (vals l.body) (form l.inner) (bytes (drop l.octet-index l.octets)) (check_of l.check) ≡ spec.compare_all go (vals l.body) (form l.inner) (bytes l.octets) (check_of l.initial.check)
