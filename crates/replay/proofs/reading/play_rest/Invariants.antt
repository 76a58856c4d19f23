use Rattle.std.proofs.Common.{length}
use Rattle.replay.proofs.Read.{IsRead}
use Rattle.replay.proofs.reading.play_rest.Given as goal

abbrev pub invariant-loop-after : goal.invariant-loop-after
invariant-loop-after l = IsRead l.initial.player l.text l.rest l.count l.player

abbrev pub decreases-loop-after : goal.decreases-loop-after
decreases-loop-after l = length l.rest
