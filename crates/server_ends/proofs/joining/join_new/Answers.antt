use Rattle.server_ends.proofs.JoinLemmas.{joins_new}
use Rattle.server_ends.proofs.joining.join_new.Goals as goal

pub returns-clause-joins : goal.returns-clause-joins
returns-clause-joins g c = joins_new c.args.hub.now.boot c.args.asked c.args.pass.now c.open_group.new.pass c.open_group.result c.by_opening.result c.requires.new c.open_group.ensures.opens c.open_group.ensures.serves c.by_opening.ensures
