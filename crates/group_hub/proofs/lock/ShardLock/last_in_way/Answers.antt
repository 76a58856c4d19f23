use Rattle.std.proofs.Common.{[], ◌≡◌}
use Rattle.call_table.specs.Ahead.{last_ahead}
use Rattle.hub_story.specs.Histories.{journal_in}
use Rattle.hub_story.proofs.OwnLemmas.{known_opened}
use Rattle.hub_story.proofs.StillLemmas.{still_has}
use Rattle.group_hub.proofs.CallLemmas.{nothing_may, ran_none}
use Rattle.group_hub.proofs.lock.ShardLock.last_in_way.Goals as goal

pub run-requires-clause-asks : goal.run-requires-clause-asks
run-requires-clause-asks g c = λ log met. known_opened c.args.self.now.boot c.args.self.now.number c.args.pass.now log met c.args.group c.args.call c.requires.known

pub run-requires-clause-ties : goal.run-requires-clause-ties
run-requires-clause-ties g c = λ log r more met d. nothing_may c.args.self.now.boot c.args.self.now.number c.args.pass.now log met c.args.group more d.0

pub returns-clause-call : goal.returns-clause-call
returns-clause-call g c = ran_none c.args.self.now.boot c.args.self.now.number c.args.pass.now c.run.new.pass (λ log. c.run.result ≡ last_ahead (journal_in c.args.self.now.boot c.args.group log) c.args.call) c.run.ensures.call

pub returns-clause-still : goal.returns-clause-still
returns-clause-still g c = let d = returns-clause-call g c in still_has c.args.self.now.boot c.args.self.now.number c.args.pass.now c.run.new.pass d.0 [] d.1 c.requires.pass.within
