use Rattle.replay_groups.proofs.Keeping.{accepted_is, open_at, open_goes}
use Rattle.replay_groups.proofs.groups.Groups.accept.Goals as goal

pub accept_at-requires-clause-is_open : goal.accept_at-requires-clause-is_open
accept_at-requires-clause-is_open c = open_at c.args.self.now c.args.id c.args.asked.conn c.requires.there c.requires.is_open

pub returns : goal.returns
returns c =
    let d = c.accept_at.ensures in
    accepted_is c.args.self.now c.accept_at.new.self c.args.id c.args.asked d.0 c.accept_at.result c.requires.there
    (open_goes c.args.self.now c.args.id c.args.asked.conn c.requires.there c.requires.is_open) d.1 d.2 d.3
