use Rattle.std.proofs.Common.{◌≡◌, ◌-◌}
use Rattle.pdu_codec.specs.Reading.{result_at, items_at}
use Rattle.pdu_codec.proofs.Loops.{with_front}
use Rattle.pdu_codec.proofs.answers.take_results.Given as goal

-- the items so far and what is left to read are what is read
abbrev pub invariant-loop : goal.invariant-loop
invariant-loop l = with_front l.results (items_at (result_at l.order) (l.count - l.counter) l.rest) ≡ items_at (result_at l.order) l.count l.octets
