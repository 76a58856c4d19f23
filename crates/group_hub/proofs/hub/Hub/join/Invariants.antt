use Rattle.group_hub.specs.Passes.{IsPassOf}
use Rattle.group_hub.specs.Making.{JoinedBelow}
use Rattle.group_hub.proofs.hub.Hub.join.Given as goal

abbrev pub invariant-loop-number : goal.invariant-loop-number
invariant-loop-number l = IsPassOf l.self l.pass × JoinedBelow l.self.boot l.number l.initial.pass l.initial.other l.pass l.other
