use Rattle.std.proofs.Common.{◌≤◌}
use Rattle.group_hub.specs.Passes.{IsPassOf}
use Rattle.group_hub.specs.Openings.{NoneHadRoom}
use Rattle.group_hub.proofs.hub.Hub.open_among.Given as goal

abbrev pub invariant-loop-number : goal.invariant-loop-number
invariant-loop-number g l = IsPassOf l.self l.pass × NoneHadRoom l.self.boot l.from l.number l.initial.pass l.full l.pass × (l.from ≤ l.number)
