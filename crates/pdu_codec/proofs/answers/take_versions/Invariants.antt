use Rattle.std.proofs.Common.{◌≡◌, ◌-◌}
use Rattle.pdu_codec.specs.Reading.{version_at, items_at}
use Rattle.pdu_codec.proofs.Loops.{with_front}
use Rattle.pdu_codec.proofs.answers.take_versions.Given as goal

-- the items so far and what is left to read are what is read
abbrev pub invariant-loop : goal.invariant-loop
invariant-loop l = with_front l.versions (items_at version_at (l.count - l.counter) l.rest) ≡ items_at version_at l.count l.octets
