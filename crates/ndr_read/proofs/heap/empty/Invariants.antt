use Rattle.std.proofs.Common.{◌≡◌, ℕ, None, length}
use Rattle.ndr_read.specs.Slots.{slot}
use Rattle.ndr_read.proofs.heap.empty.Given as goal

abbrev pub invariant-loop : goal.invariant-loop
invariant-loop l = (length l.slots.items ≡ l.counter) × ((m : ℕ) → slot l.slots.items m ≡ None)
