use Rattle.handle_model.specs.declared.entry.Entry.TheVariants as entry
use Rattle.hub_shard.specs.Answers.{SettlesWith}
use Rattle.hub_story.proofs.OwnLemmas.{own_opened, runs_there, suits_there}
use Rattle.group_hub.proofs.CallLemmas.{end_may, ran_calls, settled_shut}
use Rattle.group_hub.proofs.StillLemmas.{settle_still}
use Rattle.group_hub.proofs.lock.ShardLock.end.Goals as goal

pub run-requires-clause-asks : goal.run-requires-clause-asks
run-requires-clause-asks g c = λ log met. (own_opened c.args.self.now.boot c.args.self.now.number c.args.pass.now log met c.args.group (entry.Take c.args.call c.requires.runs.cookies) c.requires.runs.taken, runs_there c.args.self.now.boot c.args.self.now.number c.args.pass.now log met c.args.group c.args.call c.args.results c.requires.runs, suits_there c.args.self.now.boot c.args.self.now.number c.args.pass.now log met c.args.group c.args.call c.args.results c.requires.runs)

pub run-requires-clause-ties : goal.run-requires-clause-ties
run-requires-clause-ties g c = λ log r more met d. end_may c.args.self.now.boot c.args.self.now.number c.args.pass.now log met c.args.group c.args.call c.args.results c.args.said r more c.requires.runs d

pub returns-clause-call : goal.returns-clause-call
returns-clause-call g c = ran_calls c.args.self.now.boot c.args.self.now.number c.args.group c.args.pass.now c.run.new.pass (SettlesWith c.args.group (entry.End c.args.call c.args.results c.args.said) c.run.result) c.run.ensures.call

pub returns-clause-shut : goal.returns-clause-shut
returns-clause-shut g c = settled_shut c.args.self.now.boot c.args.self.now.number c.args.group c.args.pass.now c.run.new.pass (entry.End c.args.call c.args.results c.args.said) c.run.result (returns-clause-call g c)

pub returns-clause-still : goal.returns-clause-still
returns-clause-still g c = settle_still c.args.self.now.boot c.args.self.now.number c.args.group c.args.pass.now c.run.new.pass c.requires.pass.within (entry.End c.args.call c.args.results c.args.said) c.run.result (returns-clause-call g c)
