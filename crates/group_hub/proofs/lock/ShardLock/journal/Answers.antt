use Rattle.group_hub.proofs.ShardOpen.{copy_may, ran_copied, copied_still}
use Rattle.group_hub.proofs.lock.ShardLock.journal.Goals as goal

pub run-requires-clause-ties : goal.run-requires-clause-ties
run-requires-clause-ties g c = λ log r more met d. copy_may c.args.self.now.boot c.args.self.now.number (record { id = c.args.id }) c.args.pass.now log r more d

pub returns-clause-call : goal.returns-clause-call
returns-clause-call g c = ran_copied c.args.self.now.boot c.args.self.now.number (record { id = c.args.id }) c.args.pass.now c.run.new.pass c.run.result c.run.ensures.call

pub returns-clause-still : goal.returns-clause-still
returns-clause-still g c = copied_still c.args.self.now.boot c.args.self.now.number (record { id = c.args.id }) c.args.pass.now c.run.new.pass c.run.result c.requires.pass.within (returns-clause-call g c)
