use Rattle.replay_groups.proofs.Keeping.{cancelled_is}
use Rattle.replay_groups.proofs.groups.Groups.cancel.Goals as goal

pub returns : goal.returns
returns c =
    let d = c.cancel_at.ensures in
    cancelled_is c.args.self.now c.cancel_at.new.self c.args.id c.args.call d.0 c.cancel_at.result c.requires.there c.requires.goes_on d.1 d.2 d.3
