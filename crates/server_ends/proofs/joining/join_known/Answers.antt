use Rattle.server_ends.proofs.JoinLemmas.{joins_known}
use Rattle.server_ends.proofs.joining.join_known.Goals as goal

pub returns-clause-joins : goal.returns-clause-joins
returns-clause-joins g c = joins_known c.args.hub.now.boot c.args.asked c.args.pass.now c.find_join.new.pass c.find_join.result c.by_finding.result c.requires.known c.find_join.ensures.call c.find_join.ensures.serves c.by_finding.ensures
