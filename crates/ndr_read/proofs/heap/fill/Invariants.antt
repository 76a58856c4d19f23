use Rattle.std.proofs.Common.{◌≡◌, ℕ, ◌+◌, ◌<◌, length}
use Rattle.std.specs.Prelude.{vec_len}
use Rattle.ndr_model.specs.Stub.{item}
use Rattle.ndr_read.specs.Slots.{slot, or_then}
use Rattle.ndr_read.specs.Views.{items_of}
use Rattle.ndr_read.proofs.heap.fill.Given as goal

abbrev pub invariant-loop : goal.invariant-loop
invariant-loop l =
    (vec_len l.left + l.counter ≡ vec_len l.initial.left) × (length l.slots.items ≡ length l.initial.slots.items)
    × ((m : ℕ) → m < length l.initial.slots.items → or_then (slot l.slots.items m) (item (items_of l.left.items) m) ≡ or_then (slot l.initial.slots.items m) (item (items_of l.initial.left.items) m))
