use Rattle.std.proofs.Common.{◌≡◌, ◌+◌, ◌-◌, length}
use Rattle.ndr_value.specs.Values.{bytes}
use Rattle.value_text.specs.Reading.{items_on, byte_at}
use Rattle.value_text.specs.Rows.{with_front}
use Rattle.value_text.proofs.read.bytes_on.Given as goal

abbrev pub invariant-loop-count : goal.invariant-loop-count
invariant-loop-count l = with_front (bytes l.octets.items) (items_on (length l.text + 2 - l.count) byte_at l.kind l.count l.rest) ≡ with_front (bytes l.fn.first.items) (items_on (length l.text + 1) byte_at l.kind 1 l.text)
