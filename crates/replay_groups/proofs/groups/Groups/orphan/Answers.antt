use Rattle.replay_groups.proofs.Keeping.{orphaned_is}
use Rattle.replay_groups.proofs.groups.Groups.orphan.Goals as goal

pub returns : goal.returns
returns c =
    let d = c.orphan_at.ensures in
    orphaned_is c.args.self.now c.orphan_at.new.self c.args.id c.args.call d.0 c.orphan_at.result c.requires.there c.requires.goes_on d.1 d.2 d.3
