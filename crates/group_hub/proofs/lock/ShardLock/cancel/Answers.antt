use Rattle.group_core.specs.Calls.{Cancels}
use Rattle.group_hub.proofs.CallLemmas.{asked_call, cancel_may, ran_calls}
use Rattle.group_hub.proofs.StillLemmas.{cancel_still}
use Rattle.group_hub.proofs.lock.ShardLock.cancel.Goals as goal

pub run-requires-clause-asks : goal.run-requires-clause-asks
run-requires-clause-asks g c = λ log met. asked_call c.args.self.now.boot c.args.self.now.number c.args.pass.now log met c.args.group c.requires.serves.0 c.args.call c.requires.serves.1

pub run-requires-clause-ties : goal.run-requires-clause-ties
run-requires-clause-ties g c = λ log r more met d. cancel_may c.args.self.now.boot c.args.self.now.number c.args.pass.now log met c.args.group c.requires.serves.0 c.args.call r more c.requires.serves.1 d

pub returns-clause-call : goal.returns-clause-call
returns-clause-call g c = ran_calls c.args.self.now.boot c.args.self.now.number c.args.group c.args.pass.now c.run.new.pass (λ j k. Cancels j c.args.call c.run.result k) c.run.ensures.call

pub returns-clause-still : goal.returns-clause-still
returns-clause-still g c = cancel_still c.args.self.now.boot c.args.self.now.number c.args.group c.args.pass.now c.run.new.pass c.requires.pass.within c.args.call c.run.result (returns-clause-call g c)
