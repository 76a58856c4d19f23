use Rattle.std.proofs.Common.{[], ◌∷◌, ap}
use Rattle.hub_story.specs.declared.item.Mark.TheVariants as mark
use Rattle.hub_story.specs.declared.item.Item.TheVariants.{Listed}
use Rattle.hub_story.proofs.StillLemmas.{still_has}
use Rattle.hub_shard.specs.declared.answer.Retired.{Retired}
use Rattle.group_hub.proofs.RetireLemmas.{retire_asks, retire_may, ran_retired}
use Rattle.group_hub.proofs.lock.ShardLock.retire.Goals as goal

pub run-requires-clause-asks : goal.run-requires-clause-asks
run-requires-clause-asks g c = λ log met. retire_asks c.args.self.now.boot c.args.self.now.number c.args.pass.now log met c.args.key c.requires.shut

pub run-requires-clause-ties : goal.run-requires-clause-ties
run-requires-clause-ties g c = λ log r more met d. retire_may c.args.self.now.boot c.args.self.now.number c.args.pass.now log met (record { key = c.args.key }) r more c.requires.shut d

pub returns-clause-call : goal.returns-clause-call
returns-clause-call g c = ran_retired c.args.self.now.boot c.args.self.now.number (record { key = c.args.key }) c.args.pass.now c.run.new.pass c.run.result c.run.ensures.call

pub returns-clause-group : goal.returns-clause-group
returns-clause-group g c = ap (λ (r : Retired). r.group) c.run.ensures.call.gives.0

pub returns-clause-still : goal.returns-clause-still
returns-clause-still g c = let d = returns-clause-call g c in still_has c.args.self.now.boot c.args.self.now.number c.args.pass.now c.run.new.pass d.0 (Listed (mark.Retired c.args.key) ∷ []) d.1 c.requires.pass.within
