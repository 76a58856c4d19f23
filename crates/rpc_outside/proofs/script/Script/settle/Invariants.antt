use Rattle.std.proofs.Common.{◌≡◌, length}
use Rattle.rpc_outside.specs.Scripts.{ready}
use Rattle.rpc_outside.proofs.script.Script.settle.Given as goal

abbrev pub invariant-loop-self : goal.invariant-loop-self
invariant-loop-self l = (l.self.taken ≡ l.initial.self.taken) × (ready l.self.rest ≡ ready l.initial.self.rest)

abbrev pub decreases-loop-self : goal.decreases-loop-self
decreases-loop-self l = length l.self.rest
