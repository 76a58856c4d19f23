use Rattle.std.proofs.Common.{None}
use Rattle.replay.proofs.laws.each_is_a_replay.Goals as goal

pub returns : goal.returns
returns c = c.loads_are_replays.ensures None
