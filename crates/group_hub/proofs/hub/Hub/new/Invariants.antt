use Rattle.group_hub.specs.Making.{MadeBelow}
use Rattle.group_hub.proofs.hub.Hub.new.Given as goal

abbrev pub invariant-loop-number : goal.invariant-loop-number
invariant-loop-number l = MadeBelow l.boot l.number l.shards.items l.pass
