use Rattle.std.proofs.Common.{◌≡◌, ℕ, ◌-◌, ◌<◌, ◌≤◌, List, length}
use Rattle.ndr_value.specs.Values.{Val, vals}
use Rattle.ndr_model.specs.Stub.{item}
use Rattle.ndr_model.specs.Message.{heap_from}
use Rattle.ndr_read.specs.Slots.{slot}
use Rattle.ndr_read.proofs.Heaps.{behind}
use Rattle.ndr_read.proofs.heap.gather.Given as goal

abbrev pub invariant-loop-at : goal.invariant-loop-at
invariant-loop-at l =
    (length l.left.items ≡ length l.initial.left.items) × ((m : ℕ) → l.at ≤ m → slot l.left.items m ≡ slot l.initial.left.items m)
    × ((items : List (ℕ × Val)) → ((m : ℕ) → m < length l.initial.left.items → slot l.initial.left.items m ≡ item items m)
    → behind (vals l.heap.items) (heap_from items l.at (length l.initial.left.items - l.at)) ≡ heap_from items 0 (length l.initial.left.items))
