use Rattle.replay_groups.proofs.Keeping.{joined_is, unshut_at}
use Rattle.replay_groups.proofs.groups.Groups.join.Goals as goal

pub join_at-requires-clause-unshut : goal.join_at-requires-clause-unshut
join_at-requires-clause-unshut c = unshut_at c.args.self.now c.args.id c.requires.there c.requires.goes_on

pub returns : goal.returns
returns c =
    let d = c.join_at.ensures in
    joined_is c.args.self.now c.join_at.new.self c.args.id d.0 c.join_at.result c.requires.there c.requires.goes_on d.1 d.2 d.3
