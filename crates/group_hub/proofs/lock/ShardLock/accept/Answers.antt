use Rattle.group_core.specs.Calls.{Accepts}
use Rattle.hub_story.specs.Calls.{Calls}
use Rattle.group_hub.proofs.CallLemmas.{asked_accept, accept_may, ran_calls}
use Rattle.group_hub.proofs.StillLemmas.{accept_still, accept_new, accepted_so}
use Rattle.group_hub.proofs.lock.ShardLock.accept.Goals as goal

pub run-requires-clause-asks : goal.run-requires-clause-asks
run-requires-clause-asks g c = λ log met. let a = asked_accept c.args.self.now.boot c.args.self.now.number c.args.pass.now log met c.args.group c.args.asked c.requires.serves in (a.0, a.1, c.requires.few)

pub run-requires-clause-ties : goal.run-requires-clause-ties
run-requires-clause-ties g c = λ log r more met d. accept_may c.args.self.now.boot c.args.self.now.number c.args.pass.now log met c.args.group c.args.asked r more c.requires.serves d

pub returns-clause-still : goal.returns-clause-still
returns-clause-still g c =
    accept_still c.args.self.now.boot c.args.self.now.number c.args.group c.args.pass.now c.run.new.pass c.requires.pass.within c.args.asked c.run.result
    (ran_calls c.args.self.now.boot c.args.self.now.number c.args.group c.args.pass.now c.run.new.pass (λ j k. Accepts j c.args.asked c.run.result k) c.run.ensures.call)

pub returns-clause-call : goal.returns-clause-call
returns-clause-call g c =
    let d : Calls c.args.self.now.boot c.args.self.now.number c.args.pass.now c.run.new.pass c.args.group (λ j k. Accepts j c.args.asked c.run.result k) = ran_calls c.args.self.now.boot c.args.self.now.number c.args.group c.args.pass.now c.run.new.pass (λ j k. Accepts j c.args.asked c.run.result k) c.run.ensures.call in
    (d.0, d.1, d.2, (d.3, accept_new c.args.self.now.boot c.args.self.now.number c.args.group c.args.pass.now c.run.new.pass c.args.asked c.run.result d))

pub returns-clause-accepted : goal.returns-clause-accepted
returns-clause-accepted g c =
    accepted_so c.args.self.now.boot c.args.self.now.number c.args.group c.args.pass.now c.run.new.pass c.args.asked c.run.result
    (ran_calls c.args.self.now.boot c.args.self.now.number c.args.group c.args.pass.now c.run.new.pass (λ j k. Accepts j c.args.asked c.run.result k) c.run.ensures.call) ((returns-clause-still g c).serves c.args.group c.args.asked.conn tt c.requires.serves)
