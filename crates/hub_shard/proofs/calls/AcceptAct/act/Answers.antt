use Rattle.std.proofs.Common.{Ok, Err}
use Rattle.hub_shard.proofs.TellLemmas.{opened_has}
use Rattle.hub_shard.proofs.CallLemmas.{acts_accept, open_there}
use Rattle.hub_shard.proofs.calls.AcceptAct.act.Goals as goal

pub accept-requires-clause-there : goal.accept-requires-clause-there
accept-requires-clause-there c = opened_has c.args.shard.now c.requires.0 c.args.self.group c.requires.1 c.requires.2.0

pub accept-requires-clause-open : goal.accept-requires-clause-open
accept-requires-clause-open c = open_there c.args.shard.now c.requires.0 c.args.self.group c.requires.1 c.requires.2.0 c.args.self.asked.conn c.requires.2.1

pub returns-in-Ok : goal.returns-in-Ok
returns-in-Ok c = λ log t o.
    let d = c.in-Ok.ensures in
    acts_accept c.args.shard.now c.accept.new.self log c.args.self.group d.0 c.args.self.asked (Ok c.in-Ok.call) t o.0 o.1 d.1 d.2

pub returns-in-Err : goal.returns-in-Err
returns-in-Err c = λ log t o.
    let d = c.in-Err.ensures in
    acts_accept c.args.shard.now c.accept.new.self log c.args.self.group d.0 c.args.self.asked (Err c.in-Err.refused) t o.0 o.1 d.1 d.2
