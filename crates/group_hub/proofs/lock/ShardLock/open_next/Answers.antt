use Rattle.group_hub.proofs.ShardOpen.{open_may, ran_opened, opened_serves, opened_still}
use Rattle.group_hub.proofs.lock.ShardLock.open_next.Goals as goal

pub run-requires-clause-ties : goal.run-requires-clause-ties
run-requires-clause-ties g c = λ log r more met d. open_may c.args.self.now.boot c.args.self.now.number (record {}) c.args.pass.now log r more d

pub returns-clause-call : goal.returns-clause-call
returns-clause-call g c = ran_opened c.args.self.now.boot c.args.self.now.number (record {}) c.args.pass.now c.run.new.pass c.run.result c.run.ensures.call

pub returns-clause-serves : goal.returns-clause-serves
returns-clause-serves g c = opened_serves c.args.self.now.boot c.args.self.now.number (record {}) c.args.pass.now c.run.new.pass c.run.result (returns-clause-call g c)

pub returns-clause-still : goal.returns-clause-still
returns-clause-still g c = opened_still c.args.self.now.boot c.args.self.now.number (record {}) c.args.pass.now c.run.new.pass c.run.result c.requires.pass.within (returns-clause-call g c)
