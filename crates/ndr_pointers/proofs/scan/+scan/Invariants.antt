use Rattle.std.proofs.Common.{◌≡◌, ◌+◌, ◌*◌, ◌-◌, None, length, drop}
use Rattle.ndr_value.specs.Forms.{form, forms}
use Rattle.ndr_model.specs.Scan.{scan, each, times}
use Rattle.ndr_pointers.specs.Views.{types_in, place}
use Rattle.ndr_pointers.proofs.scan.+scan.Given as goal

abbrev pub decreases-scan_flat : goal.decreases-scan_flat
decreases-scan_flat l = 5 * l.fuel

abbrev pub decreases-scan_each : goal.decreases-scan_each
decreases-scan_each l = 5 * l.fuel + 1

abbrev pub decreases-scan_times : goal.decreases-scan_times
decreases-scan_times l = 5 * l.fuel + 1

abbrev pub decreases-scan_arm : goal.decreases-scan_arm
decreases-scan_arm l = 5 * l.fuel + 1

abbrev pub decreases-scan_items : goal.decreases-scan_items
decreases-scan_items l = 5 * l.fuel + 2

abbrev pub decreases-scan_one : goal.decreases-scan_one
decreases-scan_one l = 5 * l.fuel + 3

-- what is left gives what all gives
abbrev pub invariant-scan_each-loop-shape : goal.invariant-scan_each-loop-shape
invariant-scan_each-loop-shape l =
    let go = scan (types_in l.reader) l.reader.order l.reader.octets.now l.fuel l.room in
    (l.left + l.shape-index ≡ length l.shapes) × (each go l.own (forms (drop l.shape-index l.shapes)) (place l.index l.seen) ≡ each go l.own (forms l.shapes) (place l.at l.initial.seen))

abbrev pub invariant-scan_times-loop : goal.invariant-scan_times-loop
invariant-scan_times-loop l =
    let go = scan (types_in l.reader) l.reader.order l.reader.octets.now l.fuel l.room None (form l.shape) in
    times go (l.count - l.counter) (place l.index l.seen) ≡ times go l.count (place l.at l.initial.seen)
