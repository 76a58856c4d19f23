use Rattle.group_core.specs.Calls.{Takes}
use Rattle.group_hub.proofs.CallLemmas.{asked_call, take_may, ran_calls}
use Rattle.group_hub.proofs.StillLemmas.{take_still, take_taken}
use Rattle.group_hub.proofs.lock.ShardLock.take.Goals as goal

pub run-requires-clause-asks : goal.run-requires-clause-asks
run-requires-clause-asks g c = λ log met. asked_call c.args.self.now.boot c.args.self.now.number c.args.pass.now log met c.args.group c.requires.serves.0 c.args.call c.requires.serves.1

pub run-requires-clause-ties : goal.run-requires-clause-ties
run-requires-clause-ties g c = λ log r more met d. take_may c.args.self.now.boot c.args.self.now.number c.args.pass.now log met c.args.group c.requires.serves.0 c.args.call r more c.requires.serves.1 d

pub returns-clause-call : goal.returns-clause-call
returns-clause-call g c = ran_calls c.args.self.now.boot c.args.self.now.number c.args.group c.args.pass.now c.run.new.pass (λ j k. Takes j c.args.call c.run.result k) c.run.ensures.call

pub returns-clause-still : goal.returns-clause-still
returns-clause-still g c = take_still c.args.self.now.boot c.args.self.now.number c.args.group c.args.pass.now c.run.new.pass c.requires.pass.within c.args.call c.run.result (returns-clause-call g c)

pub returns-clause-taken : goal.returns-clause-taken
returns-clause-taken g c = take_taken c.args.self.now.boot c.args.self.now.number c.args.group c.args.call c.args.pass.now c.run.new.pass c.run.result (returns-clause-call g c)
