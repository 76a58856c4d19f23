use Rattle.std.proofs.Common.{◌≡◌, ◌++◌, take}
use Rattle.std.specs.List.{flat_map}
use Rattle.pdu_codec.specs.Pdus.{result_octets}
use Rattle.pdu_codec.proofs.writing.put_results.Given as goal

abbrev pub invariant-loop-answer : goal.invariant-loop-answer
invariant-loop-answer l = l.into.items ≡ l.initial.into.items ++ flat_map (result_octets l.order) (take l.answer-index l.answers)
