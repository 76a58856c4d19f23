use Rattle.hub_shard.specs.declared.find.Find.{Find}
use Rattle.group_hub.proofs.FindLemmas.{find_may, ran_found, found_serves, found_still}
use Rattle.group_hub.proofs.lock.ShardLock.find_join.Goals as goal

pub run-requires-clause-ties : goal.run-requires-clause-ties
run-requires-clause-ties g c = λ log r more met d. find_may c.args.self.now.boot c.args.self.now.number (record { id = c.args.id }) c.args.pass.now log r more d

pub returns-clause-call : goal.returns-clause-call
returns-clause-call g c = ran_found c.args.self.now.boot c.args.self.now.number (record { id = c.args.id }) c.args.pass.now c.run.new.pass c.run.result c.run.ensures.call

pub returns-clause-serves : goal.returns-clause-serves
returns-clause-serves g c = found_serves c.args.self.now.boot c.args.self.now.number (record { id = c.args.id }) c.args.pass.now c.run.new.pass c.run.result (returns-clause-call g c)

pub returns-clause-still : goal.returns-clause-still
returns-clause-still g c = found_still c.args.self.now.boot c.args.self.now.number (record { id = c.args.id }) c.args.pass.now c.run.new.pass c.run.result c.requires.pass.within (returns-clause-call g c)
