use Rattle.replay_groups.proofs.Keeping.{taken}
use Rattle.replay_groups.proofs.groups.Groups.take.Goals as goal

pub returns : goal.returns
returns c =
    let d = c.take_at.ensures in
    taken c.args.self.now c.take_at.new.self c.args.id c.args.call d.0 c.take_at.result c.requires.there c.requires.goes_on d.1 d.2 d.3
