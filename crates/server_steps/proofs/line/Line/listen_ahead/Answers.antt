use Rattle.std.proofs.Common.{◌≡◌}
use Rattle.call_table.specs.Ahead.{last_ahead}
use Rattle.hub_story.specs.Histories.{journal_in, past_in}
use Rattle.group_hub.specs.Passes.{at_shard}
use Rattle.group_hub.specs.Shards.{shard_of}
use Rattle.server_steps.proofs.Besides.{known_in}
use Rattle.server_steps.proofs.Calling.{looks_none, waits_on}
use Rattle.server_steps.proofs.line.Line.listen_ahead.Goals as goal

pub last_in_way-last-requires-clause-known : goal.last_in_way-last-requires-clause-known
last_in_way-last-requires-clause-known g c =
    let l = c.args.self.now in
    known_in l.number c.args.call (past_in l.group (at_shard l.pass (shard_of l.group)).log) c.requires.has.accepted

pub returns-clause-waits : goal.returns-clause-waits
returns-clause-waits g c =
    waits_on g.K.Link.shows (g.M.Manager.may c.args._manager.now) (g.M.Manager.tables c.args._manager.now) c.args.hub.now c.args.self.now c.last_in_way-last.new.pass c.args.call c.args._asked.now
    (λ log. c.last_in_way-last.result ≡ last_ahead (journal_in c.args.hub.now.boot c.args.self.now.group log) c.args.call) c.requires c.last_in_way-last.ensures.call c.last_in_way-last.ensures.pass c.last_in_way-last.ensures.still

pub returns-clause-nothing : goal.returns-clause-nothing
returns-clause-nothing g c =
    looks_none c.args.hub.now.boot c.args.self.now.group c.args.self.now.pass c.last_in_way-last.new.pass
    (λ log. c.last_in_way-last.result ≡ last_ahead (journal_in c.args.hub.now.boot c.args.self.now.group log) c.args.call) c.last_in_way-last.ensures.call
