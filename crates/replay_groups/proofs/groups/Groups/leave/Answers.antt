use Rattle.handle_model.specs.declared.entry.Entry.TheVariants.{Leave}
use Rattle.replay_groups.proofs.Tallies.{leave_adds}
use Rattle.replay_groups.proofs.Keeping.{settled_is, leave_step, open_at, open_goes}
use Rattle.replay_groups.proofs.groups.Groups.leave.Goals as goal

pub leave_at-requires-clause-is_open : goal.leave_at-requires-clause-is_open
leave_at-requires-clause-is_open c = open_at c.args.self.now c.args.id c.args.conn c.requires.there c.requires.is_open

pub returns : goal.returns
returns c =
    let d = c.leave_at.ensures in
    settled_is c.args.self.now c.leave_at.new.self c.args.id (Leave c.args.conn) d.0 c.leave_at.result c.requires.there
    (open_goes c.args.self.now c.args.id c.args.conn c.requires.there c.requires.is_open) (leave_step c.args.conn) d.1 d.2 (c.args.self.now.counts, leave_adds c.args.self.now.counts c.args.conn, d.3)
